-- The steps of an operation on one record, while nobody else holds a page
use Rattle.std.proofs.Common.{◌≡◌, ℕ, false, true, List, Option, None, Some, is_some, refl, sym, ap, subst, ◌∙◌, inl, inr, arith, IsSome}
use Rattle.std.specs.FinMap as map
use Rattle.mlt_tx_operation.proofs.Names.{false≢true, Mode, Shared, is_live_of, Live, Page, BucketFields, ObjOp, ObjReply, RecChange, Request, Do, decision, size_key_of, target_of, page_at, can_write, released, IsPath, value_in, SetsFirst, WriteFields, LocalState, Leaves, view_of, nothing_written, MayChange, HasFound, WalkContext, WalkFields, one_key, WalkAnswer, Change, Phase, Performs, StepAnswer, StepsOn, Finishes, MayDecide, MayOperate, OperationFields, access_path_for, on_one, started_for, CanTakeBackOne, MayWalkOn, WalkingFields, walking, NobodyHolds, PassesFast, store_after}
use Rattle.mlt_page.specs.{Pages.page_with_slot, Values.HeadFields}
use Rattle.mlt_hash_form.specs.{File.bucket_of, File.dir_of, File.row_of, Held.own_or_clean}
use Rattle.mlt_hash_access.{specs.PageSteps.LocksPage, specs.PageSteps.WritesHeldPage, specs.PageSteps.WritesHeldSlot, specs.Views.ReadsHeldBucket, specs.Views.ReadsPage, proofs.Leaving.leaves_by_locking, proofs.Leaving.leaves_by_writing, proofs.LocalStates.locked, proofs.LocalStates.written, proofs.Results.bucket_there, proofs.Views.lock_reads}
use Rattle.mlt_hash.{specs.Steps.GoesOn as WalkGoesOn, proofs.InPlace.ReadsBucket, proofs.InPlace.reads_bucket, proofs.InPlace.record_may_write, proofs.InPlace.update_tells, proofs.Paths.arrived, proofs.Paths.headed, proofs.Paths.placed}
use Rattle.mlt_tx_operation.{specs.Walking.walk_for, proofs.AtBucket.change_finishes, proofs.AtBucket.may_change, proofs.AtBucket.told_finishes, proofs.Going.goes_on, proofs.Operations.may_walk_on, proofs.Telling.found_tells, proofs.Telling.may_decide}
use Rattle.mlt_tx_operation.proofs.Free.{NoOtherReads, nobody_reads, nobody_stands, nobody_still, released-granted, released_nothing}

-- no key of a size
pub no_key : (size : Option ℕ) → is_some size ≡ false → size ≡ None
no_key None is = refl
no_key (Some key) is = absurd (false≢true (sym is))

-- a page that nobody else reads is locked
locks_free : (m : LocalState) (q : ℕ) (mode : Mode) (page : Page) → NoOtherReads m.running.tx m.locks → page_at m.store.pages q ≡ Some page → LocksPage m (locked m q mode) q mode
locks_free m q mode page free is = record {
  free = nobody_stands m.locks m.running.tx q mode free;
  there = ap is_some is;
  locks = refl;
  running = refl;
  store = refl;
}

-- an operation that stands where its walk stands may take its next step
may_again : (context : WalkContext) (old new : LocalState) (before after : WalkingFields) → MayWalkOn (one_key context) old before → Leaves old new → StepsOn (one_key context) old new (on_one before) (on_one after)
    → (op : ObjOp) → after.request ≡ Do op → MayWalkOn (one_key context) new after
may_again context old new before after may leaves steps op asked = record {
  walks = record {
    bounded = may.walks.bounded;
    small = may.walks.small;
    may = leaves.may;
    written = nothing_written (view_of new);
    file = record { clean = may.walks.file.clean; is_clean = leaves.clean may.walks.file.clean may.walks.file.is_clean; form = may.walks.file.form };
    shallow = may.walks.shallow;
    stands = steps.operates.stands;
  };
  operates = steps.operates;
  back = subst (λ (r : Request). CanTakeBackOne (one_key context) may.walks.file.clean r) (sym asked) tt;
}

-- Nobody holds a page. The operation is on one record, and has taken no step; and this is the way of its key.
module _ (context : WalkContext) (m : LocalState) (op : ObjOp) (free : NobodyHolds m.locks) (alone : size_key_of (Do op) ≡ None) (may : MayOperate (one_key context) m (started_for (Do op)))
    (header : HeadFields) (dir : List ℕ) (number : ℕ) (fields : BucketFields) (path : IsPath (page_at m.store.pages) context.root (context.bits (target_of (Do op)).0) header dir number fields) where
  abbrev pub key : ℕ
  key = (target_of (Do op)).0

  abbrev pub x : ℕ
  x = context.bits key

  -- ---- the header

  abbrev pub walk_start : WalkFields
  walk_start = walk_for (Do op)

  abbrev pub on_start : WalkingFields
  on_start = walking (Do op) None walk_start

  is_start : started_for (Do op) ≡ on_one on_start
  is_start = λ i. record { request = Do op; reply = None; access_path = access_path_for (Do op) (alone i) }

  may_start : MayWalkOn (one_key context) m on_start
  may_start = may_walk_on context m on_start (subst (MayOperate (one_key context) m) is_start may)

  free_at_start : NoOtherReads m.running.tx m.locks
  free_at_start = nobody_reads m.locks m.running.tx free

  abbrev pub with_header : LocalState
  with_header = locked m context.root Shared

  locks_header : LocksPage m with_header context.root Shared
  locks_header = locks_free m context.root Shared (Page.Head header) free_at_start path.head

  leaves_header : Leaves m with_header
  leaves_header = leaves_by_locking m with_header with_header context.root Shared may_start.walks.may locks_header refl

  abbrev pub walk_headed : WalkFields
  walk_headed = record walk_start { phase = Phase.Headed (dir_of header x) (row_of header x) header.depth }

  abbrev pub on_headed : WalkingFields
  on_headed = walking (Do op) None walk_headed

  reads_header : ReadsPage (view_of m) (view_of with_header) context.root Shared (Some (Page.Head header))
  reads_header = lock_reads m with_header context.root Shared (Page.Head header) may_start.walks.may locks_header path.head

  goes_header : WalkGoesOn (one_key context) with_header walk_start walk_headed
  goes_header =
      headed (one_key context) walk_start walk_headed m with_header Shared header (dir_of header x) (row_of header x) header.depth refl may_start.walks.file may_start.walks.shallow leaves_header.may leaves_header.clean
      may_start.walks.stands.0 refl reads_header refl refl refl refl refl

  steps_header : StepsOn (one_key context) m with_header (on_one on_start) (on_one on_headed)
  steps_header = goes_on context m with_header on_start on_headed may_start leaves_header (goes_header, omega arith) refl refl refl

  may_headed : MayWalkOn (one_key context) with_header on_headed
  may_headed = may_again context m with_header on_start on_headed may_start leaves_header steps_header op refl

  -- ---- the directory page

  free_headed : NoOtherReads with_header.running.tx with_header.locks
  free_headed = nobody_still m.locks m.running.tx context.root Shared free_at_start

  abbrev pub with_directory : LocalState
  with_directory = locked with_header (dir_of header x) Shared

  locks_directory : LocksPage with_header with_directory (dir_of header x) Shared
  locks_directory = locks_free with_header (dir_of header x) Shared (Page.Dir dir) free_headed path.listed

  leaves_directory : Leaves with_header with_directory
  leaves_directory = leaves_by_locking with_header with_directory with_directory (dir_of header x) Shared may_headed.walks.may locks_directory refl

  abbrev pub walk_placed : WalkFields
  walk_placed = record walk_start { phase = Phase.Placed number header.depth }

  abbrev pub on_placed : WalkingFields
  on_placed = walking (Do op) None walk_placed

  reads_directory : ReadsPage (view_of with_header) (view_of with_directory) (dir_of header x) Shared (Some (Page.Dir dir))
  reads_directory = lock_reads with_header with_directory (dir_of header x) Shared (Page.Dir dir) may_headed.walks.may locks_directory path.listed

  goes_directory : WalkGoesOn (one_key context) with_directory walk_headed walk_placed
  goes_directory =
      placed (one_key context) walk_headed walk_placed with_header with_directory Shared (dir_of header x) header.depth (row_of header x) number dir (may_headed.walks.bounded key) may_headed.walks.small may_headed.walks.stands refl
      reads_directory (sym path.at) refl refl

  steps_directory : StepsOn (one_key context) with_header with_directory (on_one on_headed) (on_one on_placed)
  steps_directory = goes_on context with_header with_directory on_headed on_placed may_headed leaves_directory (goes_directory, omega arith) refl refl refl

  may_placed : MayWalkOn (one_key context) with_directory on_placed
  may_placed = may_again context with_header with_directory on_headed on_placed may_headed leaves_directory steps_directory op refl

  -- ---- the bucket

  abbrev pub mode : Mode
  mode = (target_of (Do op)).1

  free_placed : NoOtherReads with_directory.running.tx with_directory.locks
  free_placed = nobody_still with_header.locks m.running.tx (dir_of header x) Shared free_headed

  abbrev pub with_bucket : LocalState
  with_bucket = locked with_directory number mode

  locks_bucket : LocksPage with_directory with_bucket number mode
  locks_bucket = locks_free with_directory number mode (Page.Bucket fields) free_placed path.found

  leaves_bucket : Leaves with_directory with_bucket
  leaves_bucket = leaves_by_locking with_directory with_bucket with_bucket number mode may_placed.walks.may locks_bucket refl

  reads_of_bucket : ReadsPage (view_of with_directory) (view_of with_bucket) number mode (Some (Page.Bucket fields))
  reads_of_bucket = lock_reads with_directory with_bucket number mode (Page.Bucket fields) may_placed.walks.may locks_bucket path.found

  abbrev pub found : Option ℕ
  found = value_in key fields.slots

  abbrev pub walk_at : WalkFields
  walk_at = record walk_start { phase = Phase.AtBucket number header.depth found }

  abbrev pub on_bucket : WalkingFields
  on_bucket = walking (Do op) None walk_at

  finds : WalkGoesOn (one_key context) with_bucket walk_placed walk_at × HasFound walk_at.phase found
  finds = arrived (one_key context) walk_placed walk_at with_directory with_bucket mode number header.depth fields found may_placed.walks.stands refl reads_of_bucket refl refl refl

  decides : MayDecide (one_key context) with_bucket on_bucket found
  decides = may_decide context with_directory with_bucket on_placed on_bucket found may_placed leaves_bucket finds refl refl

  -- what the locks leave once they are released
  all_released : released with_bucket.locks m.running.tx ≡ m.locks
  all_released =
      released-granted with_directory.locks m.running.tx number mode
      ∙ released-granted with_header.locks m.running.tx (dir_of header x) Shared
      ∙ released-granted m.locks m.running.tx context.root Shared
      ∙ released_nothing m.locks m.running.tx (free m.running.tx)

  -- the third step, and what follows from all three
  passes : (reply : ObjReply) (new : LocalState) (after : WalkingFields) → Finishes (one_key context) with_bucket new on_bucket after → after.request ≡ Do op → after.reply ≡ Some reply
      → new.running.tx ≡ m.running.tx → new.locks ≡ with_bucket.locks → PassesFast (one_key context) m (started_for (Do op)) reply new.store
  passes reply new after finishes asked told own locks = record {
    at_end = new;
    after = on_one after;
    reaches = record {
      headed = with_header;
      placed = with_directory;
      with_header = on_one on_headed;
      with_directory = on_one on_placed;
      first = record { untold = refl; tells = inl (subst (λ (o : OperationFields). StepsOn (one_key context) m with_header o (on_one on_headed)) (sym is_start) steps_header); asked = refl; own = refl };
      second = record { untold = refl; tells = inl steps_directory; asked = refl; own = refl };
      third = record {
        untold = refl;
        tells = found_tells context with_directory with_bucket new on_placed on_bucket after found StepAnswer.Going may_placed leaves_bucket (inr (mode, locks_bucket)) finds refl refl (inl finishes);
        asked = asked;
        own = own;
      };
    };
    told = told;
    unlocked = ap (λ l. released l m.running.tx) locks ∙ all_released;
    store_is = refl;
  }

  -- **What only reads is told its reply, and the store stays.**
  pub passes_reading : (reply : ObjReply) → decision (Do op) found ≡ (reply, None) → PassesFast (one_key context) m (started_for (Do op)) reply m.store
  passes_reading reply is = passes reply with_bucket (record on_bucket { reply = Some reply }) (told_finishes context with_bucket on_bucket (record on_bucket { reply = Some reply }) found reply decides is refl) refl refl refl refl

  -- what gives the record another value
  module _ (reply : ObjReply) (decided : RecChange) (value i : ℕ) (is : decision (Do op) found ≡ (reply, Some decided)) (performs : Performs decided found (Change.Set value)) (some : IsSome found)
      (plan : SetsFirst number fields (is_live_of key) (Live key value) (record { number = number; at = i; slot = Live key value })) where
    abbrev pub write : WriteFields
    write = record { number = number; at = i; slot = Live key value }

    abbrev pub changed_page : Page
    changed_page = page_with_slot fields i (Live key value)

    may_make : MayChange (one_key context) with_bucket walk_at
    may_make = may_change context with_bucket on_bucket found reply decided decides is

    reads_held : ReadsHeldBucket (view_of with_bucket) number fields
    reads_held = (reads_of_bucket.first, reads_of_bucket.here, ap (λ o. own_or_clean o reads_of_bucket.first) (reads_of_bucket.own number) ∙ reads_of_bucket.reads)

    reads : ReadsBucket (one_key context) walk_at with_bucket number key fields
    reads = reads_bucket (one_key context) walk_at with_bucket number key fields may_make.walks tt reads_held refl refl

    may_set : can_write with_bucket.locks m.running.tx number ≡ true
    may_set = record_may_write (one_key context) walk_at with_bucket number fields (is_live_of key) (Live key value) write some may_make.walks.stands may_make.exclusive refl plan

    abbrev pub with_change : LocalState
    with_change = written with_bucket number changed_page

    writes : WritesHeldPage with_bucket with_change number changed_page
    writes = record { held = may_set; locks = refl; running = refl; store = refl }

    writes_slot : WritesHeldSlot with_bucket with_change number i (Live key value)
    writes_slot bucket reads_it =
        let there : page_at with_bucket.store.pages number ≡ Some (Page.Bucket bucket) = bucket_there with_bucket number bucket may_make.walks.may may_set reads_it in
        let same : Some (Page.Bucket fields) ≡ Some (Page.Bucket bucket) = sym path.found ∙ there in
        let alike : fields ≡ bucket = cc in
        subst (λ (b : BucketFields). WritesHeldPage with_bucket with_change number (page_with_slot b i (Live key value))) alike writes

    abbrev pub walk_changed : WalkFields
    walk_changed = record walk_at { phase = Phase.Changed number (Change.Set value) }

    leaves_change : Leaves with_bucket with_change
    leaves_change = leaves_by_writing with_bucket with_change number changed_page may_make.walks.may writes

    finishes : Finishes (one_key context) with_bucket with_change on_bucket (walking (Do op) (Some reply) walk_changed)
    finishes =
        change_finishes context with_bucket with_change on_bucket (walking (Do op) (Some reply) walk_changed) found reply decided decides is leaves_change (changed_page, writes)
        (record {
          done = Change.Set value;
          makes = update_tells (one_key context) walk_at walk_changed with_bucket with_change number key fields write WalkAnswer.Changed reads value some plan (writes_slot, refl);
          performs = performs;
        }) refl refl

    as_planned : with_change.store ≡ store_after (Some write) m.store
    as_planned i = record m.store { pages = map.insert m.store.pages number (page_with_slot (bucket_of (sym path.found i)) write.at (Live key value)) }

    -- **is told its reply, with the slot set.**
    pub passes_writing : PassesFast (one_key context) m (started_for (Do op)) reply (store_after (Some write) m.store)
    passes_writing = subst (PassesFast (one_key context) m (started_for (Do op)) reply) as_planned (passes reply with_change (walking (Do op) (Some reply) walk_changed) finishes refl refl refl refl)
