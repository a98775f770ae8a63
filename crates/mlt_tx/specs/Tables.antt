-- What the calls of one transaction make of a table of open ones
use Rattle.std.specs.Prelude.{ℕ, ◌≡◌, [], Option, None, Some}
use Rattle.std.specs.Ordering.{nat_cmp}
use Rattle.std.specs.FinMap as map
use Rattle.mlt_types.specs.Maps.{with_entry}
use Rattle.mlt_page.specs.declared.page.Page.{Page}
use Rattle.mlt_page_subtx.specs.Images.{image_of, started}
use Rattle.mlt_object_kinds.specs.declared.operation.{ObjOp.ObjOp, ObjReply.ObjReply}
use Rattle.mlt_hash.specs.Walks.{WalkContext}
use Rattle.mlt_event.specs.declared.answer.Answer.{Answer}
use Rattle.mlt_tx.specs.{declared.shared.SharedState.SharedState, declared.transaction.At.At, declared.transaction.At.TheVariants.Idle, declared.transaction.Transaction.Transaction, Transactions.IsNotCalled, Transactions.TellsOfCall, Transactions.TellsOfCancel, Transactions.TellsOfTransaction}

-- the open transactions, by their numbers
abbrev pub Table : Type 0
Table = map.FinMap nat_cmp Transaction

-- a transaction of this number that has done nothing
pub record HasDoneNothing (tx : ℕ) (one : Transaction) : Type 0 where
  pub subtx : one.subtx ≡ started tx
  pub entries : one.undo.entries ≡ []
  pub idle : one.at ≡ Idle

-- a transaction of this number that has done nothing is open from now on
pub record BeginsOne (tx : ℕ) (old new : Table) : Type 0 where
  pub one : Transaction
  pub nothing : HasDoneNothing tx one
  pub is : new ≡ with_entry old tx (Some one)

-- the transaction of this number, and no other, is changed
pub record ChangesOne (tx : ℕ) (old new : Table) : Type 0 where
  pub before : Transaction
  pub after : Transaction
  pub was : map.get old tx ≡ Some before
  pub is : new ≡ map.insert old tx after

-- the transaction of this number is called with an operation
pub record CallsOne (tx : ℕ) (op : ObjOp) (old new : Table) (shared shared' : SharedState)
    : Type 0 where
  pub changes : ChangesOne tx old new
  pub tells : TellsOfCall op changes.before changes.after shared shared'

-- the transaction of this number is not called, for want of memory
pub record CallsNone (tx : ℕ) (old new : Table) (shared shared' : SharedState) : Type 0 where
  pub changes : ChangesOne tx old new
  pub tells : IsNotCalled changes.before changes.after shared shared'

-- the transaction of this number takes a step; `context` is what the transaction of each number goes by
pub record StepsOne (context : ℕ → WalkContext) (tx : ℕ) (old new : Table) (shared shared' : SharedState)
    (told : Answer) : Type 0 where
  pub changes : ChangesOne tx old new
  pub tells : TellsOfTransaction (context changes.before.subtx.tx)
      changes.before changes.after shared shared' told

-- it takes four steps one after another, the last of which tells this reply
pub record StepsOneFast (context : ℕ → WalkContext) (tx : ℕ) (old new : Table) (shared shared' : SharedState)
    (reply : ObjReply) : Type 0 where
  pub headed : Table
  pub placed : Table
  pub told : Table
  pub with_header : SharedState
  pub with_directory : SharedState
  pub with_bucket : SharedState
  pub first : StepsOne context tx old headed shared with_header Answer.Going
  pub second : StepsOne context tx headed placed with_header with_directory Answer.Going
  pub third : StepsOne context tx placed told with_directory with_bucket Answer.Going
  pub ends : StepsOne context tx told new with_bucket shared' (Answer.Done reply)

-- it is called, and takes its four steps
pub record DoesOneFast (context : ℕ → WalkContext) (tx : ℕ) (op : ObjOp) (old new : Table)
    (shared shared' : SharedState) (reply : ObjReply) : Type 0 where
  pub called : Table
  pub with_room : SharedState
  pub calls : CallsOne tx op old called shared with_room
  pub steps : StepsOneFast context tx called new with_room shared' reply

-- the transaction of this number is called with an operation, which is done at once, or pending
abbrev pub CallsOneFast : Option ObjReply → (ℕ → WalkContext) → ℕ → ObjOp → Table → Table → SharedState
    → SharedState → Type 0
CallsOneFast None context tx op old new shared shared' = CallsOne tx op old new shared shared'
CallsOneFast (Some reply) context tx op old new shared shared' =
    DoesOneFast context tx op old new shared shared' reply

-- the pending operation of the transaction of this number is dropped
pub record CancelsOne (tx : ℕ) (old new : Table) (shared shared' : SharedState) : Type 0 where
  pub changes : ChangesOne tx old new
  pub tells : TellsOfCancel changes.before changes.after shared shared'

-- the transaction of this number is at this from now on, and keeps all else
pub record PutsOneAt (tx : ℕ) (at : At) (old new : Table) : Type 0 where
  pub changes : ChangesOne tx old new
  pub put : changes.after
      ≡ record { subtx = changes.before.subtx; undo = changes.before.undo; at = at }

-- some open transaction keeps this first image of the page
pub record KeepsImage (table : Table) (page : ℕ) (first : Option Page) : Type 0 where
  pub tx : ℕ
  pub one : Transaction
  pub there : map.get table tx ≡ Some one
  pub keeps : image_of one.subtx.images page ≡ Some first

-- no open transaction keeps a first image of the page
abbrev pub KeepsNoImage : Table → ℕ → Type 0
KeepsNoImage table page =
    (tx : ℕ) (one : Transaction) → map.get table tx ≡ Some one
    → image_of one.subtx.images page ≡ None
