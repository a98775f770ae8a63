-- Steps of one transaction, one after another, and what they are told
use Rattle.std.specs.Prelude.{ℕ, zero, suc, ◌≡◌, ◌<◌, ◌⊎◌, List, [], ◌∷◌, ◌++◌}
use Rattle.std.specs.Ordering.{nat_cmp}
use Rattle.std.specs.FinSet as set
use Rattle.mlt_hash_access.specs.{LocalStates.local, Views.View, Views.view_of}
use Rattle.mlt_hash.specs.Walks.{WalkContext}
use Rattle.mlt_event.specs.declared.answer.Answer.{Answer}
use Rattle.mlt_tx.specs.{declared.shared.SharedState.SharedState, declared.transaction.Transaction.Transaction, Transactions.TellsOfTransaction}

-- one step of a transaction: who was open, what all transactions share before it and after it, what the transaction is after
-- it, and what it was told
pub record OwnStep : Type 0 where
  pub active : set.FinSet nat_cmp
  pub old : SharedState
  pub new : SharedState
  pub after : Transaction
  pub told : Answer

-- what a transaction sees of the pages that it holds
abbrev pub view_in : Transaction → SharedState → View
view_in t shared = view_of (local t.subtx shared.pages)

-- what its walks go by at this step
abbrev pub context_at : WalkContext → OwnStep → WalkContext
context_at context step = record context { active = step.active }

-- Steps of a transaction, which sees this before them. Between two of them others may do anything that leaves what it sees.
abbrev pub AreOwnSteps : WalkContext → Transaction → View → List OwnStep → Type 0
AreOwnSteps context t seen [] = Unit {0}
AreOwnSteps context t seen (step ∷ more) =
    (view_in t step.old ≡ seen)
    × TellsOfTransaction (context_at context step) t step.after step.old step.new step.told
    × AreOwnSteps context step.after (view_in step.after step.new) more

-- an answer before these, unless it says to wait
abbrev pub with_answer : Answer → List Answer → List Answer
with_answer (Answer.Waiting page by) more = more
with_answer told more = told ∷ more

-- what steps are told, in order, those aside that wait
abbrev pub answers_of : List OwnStep → List Answer
answers_of [] = []
answers_of (step ∷ more) = with_answer step.told (answers_of more)

-- so many answers, each that it goes on
abbrev pub goings : ℕ → List Answer
goings zero = []
goings (suc n) = Answer.Going ∷ goings n

-- of the first answer, if there is one, this is so
abbrev pub IfFirst : (Answer → Type 0) → List Answer → Type 0
IfFirst Is [] = Unit {0}
IfFirst Is (told ∷ more) = Is told

-- The first n answers say that it goes on, as far as there are any; and of the one behind them this is so.
abbrev pub GoesThen : ℕ → (Answer → Type 0) → List Answer → Type 0
GoesThen zero Is answers = IfFirst Is answers
GoesThen (suc n) Is [] = Unit {0}
GoesThen (suc n) Is (told ∷ more) = (told ≡ Answer.Going) × GoesThen n Is more

-- Within n answers, as far as there are any, comes one of which this is so; and those before it say that it goes on.
abbrev pub GoesUpTo : ℕ → (Answer → Type 0) → List Answer → Type 0
GoesUpTo n Is [] = Unit {0}
GoesUpTo zero Is (told ∷ more) = ⊥
GoesUpTo (suc n) Is (told ∷ more) = Is told ⊎ ((told ≡ Answer.Going) × GoesUpTo n Is more)

-- All answers say that it goes on, and there are fewer than n.
abbrev pub GoesBelow : ℕ → List Answer → Type 0
GoesBelow n answers = (k : ℕ) × (k < n) × (answers ≡ goings k)

-- The first n answers say that it goes on. Of the step told the last of them, of what the transaction was before it, and of
-- the steps behind it this is so.
pub record GoesToTurn (context : WalkContext) (n : ℕ)
    (Turns : Transaction → OwnStep → List OwnStep → Type 0) (steps : List OwnStep) : Type 0 where
  pub front : List OwnStep
  pub before : Transaction
  pub last : OwnStep
  pub back : List OwnStep
  pub parts : steps ≡ front ++ last ∷ back
  pub goes : answers_of (front ++ last ∷ []) ≡ goings n
  pub turns : Turns before last back
  pub rest : AreOwnSteps context last.after (view_in last.after last.new) back
