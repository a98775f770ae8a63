-- What items have of a transaction, and that placed ones have nothing of it behind its close.
use Rattle.std.proofs.Common.{◌≡◌, ◌≢◌, ℕ, List, [], ◌∷◌, ◌++◌, Contains, refl, sym, ap, subst, ◌∙◌, inl, inr, append_assoc, arith, eq-eqb}
use Rattle.mlt_trace_audit.proofs.Names.{cases_eq, ObjOp, ObjReply, Lists, Running, Ended, changed, TraceItem, Abort, Begin, Op, Commit, begun_txs, begun_txs-append, ArePlaced, HasPlace, told, begun_stays, number_in, stage-other, told-push, runs_begun, HasNothing, closings_of, ops_of, ByAbort, ByCommit, nat_tests}
use Rattle.std.proofs.lemmas.List.Elements.{Contains-append_left}
use Rattle.mlt_order.specs.Histories.{Stage, after_entry}
use Rattle.mlt_trace.specs.Entries.{entry_of}

-- two lists of items have the same of the transaction
pub record HaveSame (tx : ℕ) (one other : List TraceItem) : Type 0 where
  pub ops : ops_of tx one ≡ ops_of tx other
  pub closed : closings_of tx one ≡ closings_of tx other

-- ---- one item in front

pub same_other : (tx : ℕ) (item : TraceItem) (items : List TraceItem) → tx ≢ number_in item → HaveSame tx (item ∷ items) items
same_other tx (Begin i) items apart = record { ops = refl; closed = refl }
same_other tx other items apart = record { ops = grind (arith, nat_tests, apart); closed = grind (arith, nat_tests, apart) }

pub ops_own : (tx : ℕ) (done : ObjOp × ObjReply) (items : List TraceItem) → ops_of tx (Op tx done ∷ items) ≡ done ∷ ops_of tx items
ops_own tx done items = rw (eq-eqb tx tx refl) refl

pub closings_commit : (tx number : ℕ) (items : List TraceItem) → closings_of tx (Commit tx number ∷ items) ≡ ByCommit number ∷ closings_of tx items
closings_commit tx number items = rw (eq-eqb tx tx refl) refl

pub closings_abort : (tx : ℕ) (items : List TraceItem) → closings_of tx (Abort tx ∷ items) ≡ ByAbort ∷ closings_of tx items
closings_abort tx items = rw (eq-eqb tx tx refl) refl

-- ---- two lists of items

pub ops_of-append : (tx : ℕ) (items later : List TraceItem) → ops_of tx (items ++ later) ≡ ops_of tx items ++ ops_of tx later
ops_of-append tx [] later = refl
ops_of-append tx (Op i done ∷ items) later = grind (arith, nat_tests, ops_of-append tx items later)
ops_of-append tx (other ∷ items) later = ops_of-append tx items later

pub closings_of-append : (tx : ℕ) (items later : List TraceItem) → closings_of tx (items ++ later) ≡ closings_of tx items ++ closings_of tx later
closings_of-append tx [] later = refl
closings_of-append tx (Begin i ∷ items) later = closings_of-append tx items later
closings_of-append tx (other ∷ items) later = grind (arith, nat_tests, closings_of-append tx items later)

pub begun_in : (items later all : List TraceItem) (tx : ℕ) → all ≡ items ++ later → Contains (begun_txs items) tx → Contains (begun_txs all) tx
begun_in items later all tx e h =
    subst (λ ns. Contains ns tx) (sym (ap begun_txs e ∙ begun_txs-append items later)) (Contains-append_left (begun_txs items) (begun_txs later) tx h)

-- ---- behind a close

no_place : (items : List TraceItem) (tx : ℕ) (item : TraceItem) → Contains (begun_txs items) tx → (told items).stage tx ≡ Ended → tx ≡ number_in item → HasPlace items item → ⊥
no_place items tx (Begin i) begun ended own place = let low = place tx begun in omega (arith, low, own)
no_place items tx other begun ended own place = let f : Ended ≡ Running = sym ended ∙ ap (told items).stage own ∙ place.0 in cc f

nothing_behind : (later items all : List TraceItem) (tx : ℕ) → all ≡ items ++ later → ArePlaced all
    → Contains (begun_txs items) tx → (told items).stage tx ≡ Ended → HasNothing tx later
nothing_behind [] items all tx e placed begun ended = record { ops = refl; closed = refl }
nothing_behind (item ∷ later) items all tx e placed begun ended = elim (cases_eq tx (number_in item)) [
  | inl own ↦ absurd (no_place items tx item begun ended own (placed items later item e))
  | inr apart ↦
      let same = same_other tx item later apart in
      let rest = nothing_behind later (items ++ item ∷ []) all tx (e ∙ sym (append_assoc items (item ∷ []) later)) placed
      (begun_stays items item tx begun) (stage-other items item tx apart ∙ ended) in
      record { ops = same.ops ∙ rest.ops; closed = same.closed ∙ rest.closed }
]

pub stage_at : (items : List TraceItem) (item : TraceItem) (tx : ℕ) (stage : Stage) → (after_entry (told items) (entry_of item)).stage tx ≡ stage
    → (told (items ++ item ∷ [])).stage tx ≡ stage
stage_at items item tx stage h = ap (λ (l : Lists (ObjOp × ObjReply)). l.stage tx) (told-push items item) ∙ h

pub behind_commit : (items later all : List TraceItem) (tx number : ℕ) → ArePlaced all → all ≡ items ++ Commit tx number ∷ later → HasNothing tx later
behind_commit items later all tx number placed e =
    let item = Commit tx number in
    let begun = begun_stays items item tx (runs_begun items tx (placed items later item e).0) in
    nothing_behind later (items ++ item ∷ []) all tx (e ∙ sym (append_assoc items (item ∷ []) later)) placed begun (stage_at items item tx Ended (changed (told items).stage tx Ended).0)
