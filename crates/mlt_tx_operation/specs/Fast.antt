-- An operation that goes to its end at once, while nobody holds a page
use Rattle.std.specs.Prelude.{ℕ, ◌≡◌, ◌<◌, false, Option, None, Some}
use Rattle.std.specs.FinMap as map
use Rattle.mlt_object_kinds.specs.declared.operation.ObjReply.{ObjReply}
use Rattle.mlt_page.specs.{Pages.page_with_slot, Stores.HasBucketAt, Stores.PageStore, Stores.page_at}
use Rattle.mlt_page_locks.specs.{LockTables.LockTable, LockTables.is_holder, Requests.released}
use Rattle.mlt_hash_form.specs.{File.bucket_of, Plans.WriteFields}
use Rattle.mlt_hash_access.specs.LocalStates.{LocalState}
use Rattle.mlt_hash.specs.Walks.{WalkContext}
use Rattle.mlt_tx_operation.specs.{declared.answer.StepAnswer.TheVariants.Going, Answers.TellsOfStep, Operating.OperationFields}

-- nobody holds a page
abbrev pub NobodyHolds : LockTable → Type 0
NobodyHolds locks = (u : ℕ) → is_holder locks u ≡ false

-- a step of an operation that goes on: it is told no reply before, is asked the same after, and stays with its transaction
pub record GoesOn (context : WalkContext) (old new : LocalState) (before after : OperationFields) : Type 0 where
  pub untold : before.reply ≡ None
  pub tells : TellsOfStep context old new before after Going
  pub asked : after.request ≡ before.request
  pub own : new.running.tx ≡ old.running.tx

-- The three steps of an operation up to its end: it locks and reads the header, the directory page of its key, and its bucket,
-- where it changes its record and is told its reply.
pub record ReachesEnd (context : WalkContext) (old new : LocalState) (before after : OperationFields) : Type 0 where
  pub headed : LocalState
  pub placed : LocalState
  pub with_header : OperationFields
  pub with_directory : OperationFields
  pub first : GoesOn context old headed before with_header
  pub second : GoesOn context headed placed with_header with_directory
  pub third : GoesOn context placed new with_directory after

-- Its steps up to its end lead to this reply and this store; and all that they lock is free again once it has ended.
pub record PassesFast (context : WalkContext) (old : LocalState) (before : OperationFields) (reply : ObjReply)
    (store : PageStore) : Type 0 where
  pub at_end : LocalState
  pub after : OperationFields
  pub reaches : ReachesEnd context old at_end before after
  pub told : after.reply ≡ Some reply
  pub unlocked : released at_end.locks old.running.tx ≡ old.locks
  pub store_is : at_end.store ≡ store

-- a slot of a bucket that is there
abbrev pub CanWrite : Option WriteFields → PageStore → Type 0
CanWrite None store = Unit {0}
CanWrite (Some write) store = HasBucketAt store.pages write.number × (write.at < 8)

-- the store with the slot set, if one is
abbrev pub store_after : Option WriteFields → PageStore → PageStore
store_after None store = store
store_after (Some write) store = record store {
  pages = map.insert store.pages write.number
      (page_with_slot (bucket_of (page_at store.pages write.number)) write.at write.slot);
}
