-- A whole operation: a call and its steps, one after another
use Rattle.std.specs.Prelude.{ℕ, ◌≡◌, Result, Ok, Err}
use Rattle.mlt_types.specs.declared.refusal.Refusal.{Refusal}
use Rattle.mlt_object_kinds.specs.declared.operation.ObjOp.{ObjOp}
use Rattle.mlt_event.specs.declared.answer.Answer.{Answer}
use Rattle.mlt_tx.specs.{Transactions.IsPending, Tables.CancelsOne}
use Rattle.mlt_manager.specs.{Answers.AnswersCall, Answers.ChangesOpen, Answers.HasCalled, Answers.IsOpenAt, Chains.StepsUpTo, Managers.ManagerFields}

-- an operation goes on
abbrev pub LetsGoOn : Answer → Type 0
LetsGoOn Answer.Going = Unit {0}
LetsGoOn other = ⊥

-- an operation is at its end, or stands
abbrev pub Stops : Answer → Type 0
Stops (Answer.Waiting page by) = Unit {0}
Stops (Answer.Blocked by) = Unit {0}
Stops (Answer.Done reply) = Unit {0}
Stops (Answer.Refused reason) = Unit {0}
Stops other = ⊥

-- the steps of a pending operation, up to the first that does not go on
abbrev pub StepsOnUpTo : {P : Type 0} → (P → ℕ → ℕ) → ManagerFields P → ManagerFields P → ℕ → Answer
    → Type 0
StepsOnUpTo bits_of old new tx told = StepsUpTo bits_of LetsGoOn Stops old new tx told

-- where it stands, it is pending
abbrev pub StandsIn : {P : Type 0} → ManagerFields P → ℕ → Answer → Type 0
StandsIn m tx (Answer.Waiting page by) = IsOpenAt m.txs tx IsPending
StandsIn m tx (Answer.Blocked by) = IsOpenAt m.txs tx IsPending
StandsIn m tx other = Unit {0}

-- its pending operation is dropped
pub record IsDropped {P : Type 0} (old new : ManagerFields P) (tx : ℕ) : Type 0 where
  pub pending : IsOpenAt old.txs tx IsPending
  pub cancels : CancelsOne tx old.txs new.txs old.shared new.shared
  pub rest : ChangesOpen old new

-- an operation that waits or is blocked is dropped
abbrev pub DropsIfItStands : {P : Type 0} → Answer → ManagerFields P → ManagerFields P → ℕ → Type 0
DropsIfItStands (Answer.Waiting page by) old new tx = IsDropped old new tx
DropsIfItStands (Answer.Blocked by) old new tx = IsDropped old new tx
DropsIfItStands other old new tx = new ≡ old

-- its steps, and that it is dropped if it stands
pub record RunsToEnd {P : Type 0} (bits_of : P → ℕ → ℕ) (old new : ManagerFields P) (tx : ℕ)
    (told : Answer) : Type 0 where
  pub stopped : ManagerFields P
  pub steps : StepsOnUpTo bits_of old stopped tx told
  pub drops : DropsIfItStands told stopped new tx

-- a call, its steps, and that it is dropped if it stands
pub record HasRun {P : Type 0} (bits_of : P → ℕ → ℕ) (old new : ManagerFields P) (tx : ℕ) (op : ObjOp)
    (told : Answer) : Type 0 where
  pub called : ManagerFields P
  pub calls : HasCalled old called tx op
  pub runs : RunsToEnd bits_of called new tx told

-- A whole operation is a call and its steps, up to the first that does not go on; if that one waits
-- or is blocked, the operation is dropped. It is refused as its call is.
abbrev pub AnswersWhole : {P : Type 0} → (P → ℕ → ℕ) → ManagerFields P → ManagerFields P → ℕ → ObjOp
    → Result Answer Refusal → Type 0
AnswersWhole bits_of old new tx op (Ok told) = HasRun bits_of old new tx op told
AnswersWhole bits_of old new tx op (Err reason) = AnswersCall old new tx op (Err reason)
