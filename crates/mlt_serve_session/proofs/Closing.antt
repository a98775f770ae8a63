-- The outcome of the open transaction.
use Rattle.std.proofs.Common.{◌≡◌, ℕ, List, [], ◌∷◌, ◌++◌, Option, Some, None, refl, sym, ap, ◌∙◌, append-nil}
use Rattle.mlt_serve_session.proofs.Names.{ObjOp, ObjReply, End, Outcome, Committed, committed_noted, outcome_of}
use Rattle.mlt_serve_session.specs.{declared.notes.SessionProgress.SessionProgress, declared.notes.SessionRecord.SessionRecord, declared.receipts.Receipts.Ghosts, Noting.pending, Noting.at_last, Noting.outcomes_in, Turns.start}

pub at_last_end : (f : Outcome → Outcome) (rs : List Outcome) (r : Outcome) → at_last f (rs ++ r ∷ []) ≡ rs ++ f r ∷ []
at_last_end f [] r = refl
at_last_end f (s ∷ []) r = refl
at_last_end f (s ∷ t ∷ rs) r = ap (λ (l : List Outcome). s ∷ l) (at_last_end f (t ∷ rs) r)

-- the outcome of the open transaction changes
pub at_open : (f : Outcome → Outcome) (client number tx : ℕ) (open_tx : Option ℕ) (done : List (ObjOp × ObjReply)) (rs : List Outcome) → open_tx ≡ Some tx
    → at_last f (rs ++ pending client number open_tx done) ≡ rs ++ f (outcome_of client number tx done End.Aborted) ∷ []
at_open f client number tx open_tx done rs e =
    ap (λ (o : Option ℕ). at_last f (rs ++ pending client number o done)) e ∙ at_last_end f rs (outcome_of client number tx done End.Aborted)

-- an answer to an operation was noted, or none
pub noted_open : (f : Outcome → Outcome) (client number tx : ℕ) (open_tx : Option ℕ) (done new : List (ObjOp × ObjReply)) (rs : List Outcome) → open_tx ≡ Some tx
    → outcome_of client number tx new End.Aborted ≡ f (outcome_of client number tx done End.Aborted) → rs ++ pending client number open_tx new ≡ at_last f (rs ++ pending client number open_tx done)
noted_open f client number tx open_tx done new rs e n =
    ap (λ (o : Option ℕ). rs ++ pending client number o new) e ∙ ap (λ (o : Outcome). rs ++ o ∷ []) n ∙ sym (at_open f client number tx open_tx done rs e)

-- a commit was noted
pub closed : (client number tx n after : ℕ) (open_tx open_after : Option ℕ) (done new : List (ObjOp × ObjReply)) (rs ss : List Outcome) → open_tx ≡ Some tx → open_after ≡ None
    → ss ≡ rs ++ outcome_of client number tx done (End.Committed n) ∷ []
    → ss ++ pending client after open_after new ≡ at_last (committed_noted (Committed n)) (rs ++ pending client number open_tx done)
closed client number tx n after open_tx open_after done new rs ss e none s =
    ap (λ (o : Option ℕ). ss ++ pending client after o new) none ∙ append-nil ss ∙ s
    ∙ sym (at_open (committed_noted (Committed n)) client number tx open_tx done rs e)

-- where nothing was read none is open
pub none_pending : {K : Type 0} {of : Ghosts K} (client : ℕ) (notes : SessionRecord K of) → notes.progress ≡ start → outcomes_in client notes ≡ of.receipts notes.outcomes
none_pending {of = of} client notes fresh = ap (λ (r : SessionProgress). of.receipts notes.outcomes ++ pending client r.begun r.tx notes.done.items) fresh ∙ append-nil (of.receipts notes.outcomes)
