-- A whole undoing: the steps of an abort, one after another
use Rattle.std.specs.Prelude.{ℕ, ◌≡◌, Result, Ok, Err}
use Rattle.mlt_types.specs.declared.refusal.Refusal.{Refusal}
use Rattle.mlt_event.specs.declared.answer.Answer.{Answer}
use Rattle.mlt_tx.specs.{declared.transaction.At.At, Tables.Table}
use Rattle.mlt_manager.specs.{Answers.IsNotOpen, Answers.IsOpenAt, Answers.IsUndoing, Chains.StepsUpTo, Managers.ManagerFields}

-- an abort goes on, with the same inverse or with the next one
abbrev pub GoesOnBack : Answer → Type 0
GoesOnBack Answer.Going = Unit {0}
GoesOnBack Answer.Undone = Unit {0}
GoesOnBack other = ⊥

-- it waits, or is at its end
abbrev pub StopsBack : Answer → Type 0
StopsBack (Answer.Waiting page by) = Unit {0}
StopsBack Answer.Aborted = Unit {0}
StopsBack other = ⊥

-- the steps of an abort, up to one that waits or is the last
abbrev pub StepsBackUpTo : {P : Type 0} → (P → ℕ → ℕ) → ManagerFields P → ManagerFields P → ℕ → Answer
    → Type 0
StepsBackUpTo bits_of old new tx told = StepsUpTo bits_of GoesOnBack StopsBack old new tx told

-- the abort of the transaction has not begun
abbrev pub IsNotUndoing : At → Type 0
IsNotUndoing (At.Undoing inverting) = ⊥
IsNotUndoing other = Unit {0}

-- why nothing is undone: there is none of this number, or its abort has not begun
abbrev pub IsCauseAtUndo : Refusal → Table → ℕ → Type 0
IsCauseAtUndo Refusal.NoSuchTx txs tx = IsNotOpen txs tx
IsCauseAtUndo Refusal.NotRunning txs tx = IsOpenAt txs tx IsNotUndoing
IsCauseAtUndo other txs tx = ⊥

-- A whole undoing is the steps of an abort, up to one that waits or is told Aborted; or it answers
-- why there is none.
abbrev pub AnswersWholeUndo : {P : Type 0} → (P → ℕ → ℕ) → ManagerFields P → ManagerFields P → ℕ
    → Result Answer Refusal → Type 0
AnswersWholeUndo bits_of old new tx (Ok told) =
    IsOpenAt old.txs tx IsUndoing × StepsBackUpTo bits_of old new tx told
AnswersWholeUndo bits_of old new tx (Err reason) = IsCauseAtUndo reason old.txs tx × (new ≡ old)
