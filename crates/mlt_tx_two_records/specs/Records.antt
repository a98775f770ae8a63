-- A change of a key's record, as the slot of a bucket that is set
use Rattle.std.specs.Prelude.{ℕ, ◌≡◌, ◌<◌, slice_index_or}
use Rattle.mlt_page.specs.{declared.slot.Slot.TheVariants.Free, Values.BucketFields}
use Rattle.mlt_hash_access.specs.Views.{ReadsHeldBucket, View, WritesPage}
use Rattle.mlt_hash_form.specs.Plans.{WriteFields, planned_page}
use Rattle.mlt_hash.specs.{Passes.slot_after, Walks.WalkContext, Walks.StoodBefore, declared.pass.Change.Change}

-- The change is to be made in a slot of the bucket on page q, in which, by who is open, what it asks for stands.
pub record PlansRecord (context : WalkContext) (done : Change) (key q : ℕ) (view : View)
    (write : WriteFields) : Type 0 where
  pub bucket : BucketFields
  pub reads : ReadsHeldBucket view q bucket
  pub number : write.number ≡ q
  pub within : write.at < 8
  pub slot : write.slot ≡ slot_after done key context.tx
  pub was : StoodBefore done context key bucket.slots (slice_index_or bucket.slots write.at Free)

-- There it is made, and nothing else is written.
pub record WritesRecord (context : WalkContext) (done : Change) (key q : ℕ) (old new : View) : Type 0 where
  pub write : WriteFields
  pub plan : PlansRecord context done key q old write
  pub writes : WritesPage old new q (planned_page plan.bucket write)
