-- Events that are refused
use Rattle.std.proofs.Common.{◌≡◌, ℕ, Result, Ok, Err, OnOk, refl, ◌∙◌}
use Rattle.mlt_manager.proofs.Names.{Refusal, ObjOp, IsOpInRange, AnswersCall, ChangesOpen, ManagerFields}
use Rattle.mlt_tx.specs.OpenAt.{TriesCall}

-- what is so on Ok, where there is no error
pub told_ok : {A E Q : Type 0} (r : Result A E) → ((reason : E) → r ≡ Err reason → ⊥) → OnOk r Q → Q
told_ok (Ok a) not is = is
told_ok (Err reason) not is = absurd (not reason refl)

-- what a try to call one answers is what the manager does
pub call_answers : {P : Type 0} (m m' : ManagerFields P) (tx : ℕ) (op : ObjOp) (r : Result (Unit {0}) Refusal) → IsOpInRange op → TriesCall tx op m.max_ops m.txs m'.txs m.shared m'.shared r → ChangesOpen m m' → AnswersCall m m' tx op r
call_answers m m' tx op (Ok done) range tried rest = record { may = tried.0; in_range = range; calls = tried.1; rest = rest }
call_answers m m' tx op (Err Refusal.OutOfMemory) range tried rest = (tried.0, tried.1, rest)
call_answers m m' tx op (Err other) range tried rest = (tried.0, rest ∙ (λ i. record m { shared = tried.2 i; txs = tried.1 i }))
