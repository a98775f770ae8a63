-- Where the operations of a running transaction stand in placed items.
use Rattle.std.proofs.Common.{◌≡◌, ◌≢◌, ◌⊎◌, inl, inr, ℕ, List, [], ◌∷◌, ◌++◌, refl, sym, ap, ◌∙◌, append_assoc, arith}
use Rattle.mlt_trace_check.proofs.Names.{Contains-append_left, ObjOp, ObjReply, Lists, Fresh, Running, Ended, at_each, changed, TraceItem, Begin, Op, Back, Commit, Abort, HasPlace, IsRunning, IsWhole, told}
use Rattle.mlt_trace_check.proofs.Growing.{last_one, no_cut, number_in, split_last, stage-other, told-push, transcript-other}
use Rattle.mlt_trace_check.proofs.Lasting.{one_more, runs_begun}

-- this operation of the transaction stands behind those before it
pub record StandsBehind (items : List TraceItem) (tx : ℕ) (front : List (ObjOp × ObjReply)) (done : ObjOp × ObjReply) : Type 0 where
  pub upto : List TraceItem
  pub later : List TraceItem
  pub cut : items ≡ upto ++ Op tx done ∷ later
  pub same : (told upto).transcripts tx ≡ front

-- each operation of the transaction stands behind those before it
abbrev pub OpsStand : List TraceItem → ℕ → Type 0
OpsStand items tx = (front rest : List (ObjOp × ObjReply)) (done : ObjOp × ObjReply) → (told items).transcripts tx ≡ front ++ done ∷ rest → StandsBehind items tx front done

-- the transaction is running, and stands in the items if it is whole; or it is not, and has no operation
abbrev pub Stands : List TraceItem → ℕ → Type 0
Stands items tx = (IsRunning items tx × (IsWhole items tx → OpsStand items tx)) ⊎ ((IsRunning items tx → ⊥) × ((told items).transcripts tx ≡ []))

stands_still : (items : List TraceItem) (item : TraceItem) (tx : ℕ) (front : List (ObjOp × ObjReply)) (done : ObjOp × ObjReply) → StandsBehind items tx front done → StandsBehind (one_more items item) tx front done
stands_still items item tx front done h = record {
  upto = h.upto;
  later = h.later ++ item ∷ [];
  cut = ap (λ is. is ++ item ∷ []) h.cut ∙ append_assoc h.upto (Op tx done ∷ h.later) (item ∷ []);
  same = h.same;
}

pub was_whole : (items : List TraceItem) (item : TraceItem) (tx : ℕ) → IsWhole (one_more items item) tx → IsWhole items tx
was_whole items item tx whole back = whole (Contains-append_left items (item ∷ []) (Back tx) back)

others_stand : (items : List TraceItem) (item : TraceItem) (tx : ℕ) → tx ≢ number_in item → Stands items tx → Stands (one_more items item) tx
others_stand items item tx apart (inl h) = inl (
  stage-other items item tx apart ∙ h.0,
  λ whole front rest done cut. stands_still items item tx front done (h.1 (was_whole items item tx whole) front rest done (sym (transcript-other items item tx apart) ∙ cut)),
)
others_stand items item tx apart (inr h) = inr (λ run. h.0 (sym (stage-other items item tx apart) ∙ run), transcript-other items item tx apart ∙ h.1)

begin_stands : (items : List TraceItem) (tx : ℕ) → HasPlace items (Begin tx) → Stands items tx → Stands (one_more items (Begin tx)) tx
begin_stands items tx place (inl h) = absurd (let low = place tx (runs_begun items tx h.0) in omega (arith, low))
begin_stands items tx place (inr h) =
    let after = told-push items (Begin tx) in
    let none : (told (one_more items (Begin tx))).transcripts tx ≡ [] = ap (λ (l : Lists (ObjOp × ObjReply)). l.transcripts tx) after ∙ h.1 in inl (
      ap (λ (l : Lists (ObjOp × ObjReply)). l.stage tx) after ∙ (changed (told items).stage tx Running).0,
      λ whole front rest done cut. absurd (no_cut front rest done (sym none ∙ cut)),
    )

op_stands : (items : List TraceItem) (tx : ℕ) (done : ObjOp × ObjReply) → HasPlace items (Op tx done) → Stands items tx → Stands (one_more items (Op tx done)) tx
op_stands items tx done place (inr h) = absurd (h.0 place.0)
op_stands items tx done place (inl h) =
    let after = told-push items (Op tx done) in
    let grown : (told (one_more items (Op tx done))).transcripts tx ≡ (told items).transcripts tx ++ done ∷ [] =
    ap (λ (l : Lists (ObjOp × ObjReply)). l.transcripts tx) after ∙ (changed (told items).transcripts tx _).0 in inl (
      ap (λ (l : Lists (ObjOp × ObjReply)). l.stage tx) after ∙ h.0,
      λ whole front rest one cut. elim (split_last ((told items).transcripts tx) front rest done one (sym grown ∙ cut)) [
        | inl before ↦ stands_still items (Op tx done) tx front one (h.1 place.1 front before.0 one before.1)
        | inr last ↦ record { upto = items; later = []; cut = ap (λ (d : ObjOp × ObjReply). items ++ Op tx d ∷ []) last.1; same = last.0 }
      ],
    )

back_stands : (items : List TraceItem) (tx : ℕ) → HasPlace items (Back tx) → Stands (one_more items (Back tx)) tx
back_stands items tx place = inl (
  ap (λ (l : Lists (ObjOp × ObjReply)). l.stage tx) (told-push items (Back tx)) ∙ place.0,
  λ whole. absurd (whole (last_one items (Back tx))),
)

-- an item that ends its transaction leaves none of its operations
ended_stands : (items : List TraceItem) (tx : ℕ) → (told items).stage tx ≡ Ended → (told items).transcripts tx ≡ [] → Stands items tx
ended_stands items tx ended none = inr (λ run. let f : Ended ≡ Running = sym ended ∙ run in cc f, none)

own_stands : (items : List TraceItem) (item : TraceItem) → HasPlace items item → Stands items (number_in item) → Stands (one_more items item) (number_in item)
own_stands items (Begin tx) place h = begin_stands items tx place h
own_stands items (Op tx done) place h = op_stands items tx done place h
own_stands items (Back tx) place h = back_stands items tx place
own_stands items (Commit tx number) place h =
    let after = told-push items (Commit tx number) in
    ended_stands (one_more items (Commit tx number)) tx (ap (λ (l : Lists (ObjOp × ObjReply)). l.stage tx) after ∙ (changed (told items).stage tx Ended).0)
    (ap (λ (l : Lists (ObjOp × ObjReply)). l.transcripts tx) after ∙ (changed (told items).transcripts tx _).0)
own_stands items (Abort tx) place h =
    let after = told-push items (Abort tx) in
    ended_stands (one_more items (Abort tx)) tx (ap (λ (l : Lists (ObjOp × ObjReply)). l.stage tx) after ∙ (changed (told items).stage tx Ended).0)
    (ap (λ (l : Lists (ObjOp × ObjReply)). l.transcripts tx) after ∙ (changed (told items).transcripts tx _).0)

pub nothing_stands : (tx : ℕ) → Stands [] tx
nothing_stands tx = inr (λ run. let f : Fresh ≡ Running = run in cc f, refl)

-- behind one more item that has its place
pub stands_more : (items : List TraceItem) (item : TraceItem) → HasPlace items item → ((tx : ℕ) → Stands items tx) → (tx : ℕ) → Stands (one_more items item) tx
stands_more items item place h =
    at_each (number_in item) (λ tx. Stands (one_more items item) tx) (own_stands items item place (h (number_in item))) (λ tx apart. others_stand items item tx apart (h tx))
