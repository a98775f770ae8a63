-- An abort takes the last operation back
use Rattle.std.specs.Prelude.{ℕ, ◌≡◌, ◌++◌, ◌∷◌, [], Option, None}
use Rattle.std.specs.FinMap as map
use Rattle.mlt_object_kinds.specs.{Bases.Base, Bases.Step, declared.operation.ObjOp.ObjOp, declared.operation.ObjReply.ObjReply}
use Rattle.mlt_tx_operation.specs.Operating.{OperationFields}
use Rattle.mlt_event.specs.declared.answer.Answer.{Answer}
use Rattle.mlt_tx.specs.{Transactions.tx_state_of, declared.shared.SharedState.SharedState, declared.transaction.At.At, declared.transaction.Transaction.Transaction, Steps.EndsBack}
use Rattle.mlt_manager_invariant.specs.{Events.with_transaction, Sound.IsSound, States.State, Transactions.without_transaction}

-- transaction i is now this one and keeps no image, and the pages, the locks, the history and the base are these
abbrev pub with_undone : State → ℕ → Transaction → SharedState → Base → State
with_undone s i t shared base =
    let images = map.insert s.images i map.empty in
    record (with_transaction s i t shared images) { base = base }

-- transaction i is closed, and the pages, the locks, the history and the base are these
abbrev pub with_aborted : State → ℕ → SharedState → Base → State
with_aborted s i shared base = record (without_transaction s i shared) { base = base }

-- the abort of a transaction takes its last operation back, with this inverse or none, and is told this
pub record TakesLastBack (s : State) (inverting : Option OperationFields) (before after : Transaction)
    (shared : SharedState) (told : Answer) : Type 0 where
  pub was_at : before.at ≡ At.Undoing inverting
  pub is_at : after.at ≡ At.Undoing None
  pub ends : EndsBack inverting None (tx_state_of before s.shared) (tx_state_of after shared)
      told

-- The item that is taken back was the last, the base is one from which it leads to what it was, and the state with this
-- base is sound.
pub record LedBack (s : State) (before after : Transaction) (of_base : Base → State) : Type 0 where
  pub last : ObjOp × ObjReply
  pub base : Base
  pub entries : before.undo.entries ≡ after.undo.entries ++ last ∷ []
  pub step : Step base last s.base
  pub sound : IsSound (of_base base)
