-- Owners of ghosts close: what is known of slots whose room is kept
use Rattle.std.proofs.Common.{◌≡◌, ℕ, Bool, true, slice_index_or, List, Option, None, Some, is_some, sym, ap, ◌∙◌, inl, inr, nat_cmp}
use Rattle.std.specs.FinSet as set
use Rattle.mlt_hash.proofs.Names.{false≢true, is_kept, Slot, Free, Page, BucketFields, HeadFields, HasForm, bucket_of, buckets_of, slot_at, Agrees, KeepsFile, over, seen_as, used_from_kept, View, IsAtRest, KeepsNoMore, WalkContext, IsAdding, IsChanged, IsSplitting, IsStanding, Stands, StoodBefore, WalkFields, split_target, Change, Phase}
use Rattle.mlt_page_subtx.proofs.ImageLaws.{not_true}
use Rattle.mlt_hash_form.proofs.HeldPages.{keeps_fewer}
use Rattle.mlt_hash_split.proofs.Laws.{rest_with_fewer, under_way_with_fewer}
use Rattle.mlt_hash.proofs.{Passed.read_as, Standing.at_bucket_for, Standing.headed_for, Standing.placed_for}

module _ (context : WalkContext) (fewer : set.FinSet nat_cmp) (walk : WalkFields) (view : View) (clean : ℕ → Option Page) (no_more : KeepsNoMore context.active fewer view) (agree : Agrees view.seen clean) (form : HasForm context.bits clean context.root) where
  -- a slot of a held page of what is written so far was kept, if it is now
  kept_before : (own : ℕ → Option Page) (n i : ℕ) → KeepsFile context.bits context.active context.root view.seen own → is_some (view.seen n) ≡ true
      → is_kept fewer (slot_at (buckets_of (over clean own)) n i) ≡ true → is_kept context.active (slot_at (buckets_of (over clean own)) n i) ≡ true
  kept_before own n i keeps held kept =
      let stood = (keeps clean agree form).stood n i (used_from_kept fewer (slot_at (buckets_of (over clean own)) n i) kept) in
      let o_held : is_some (view.seen stood.0) ≡ true = elim stood.2 [ inl same ↦ ap (λ n. is_some (view.seen n)) same ∙ held | inr other ↦ other ] in
      let p = seen_as (view.seen stood.0) o_held in
      let here : slot_at (buckets_of clean) stood.0 i ≡ slice_index_or (bucket_of p.0).slots i Free = ap (λ q. slice_index_or (bucket_of q).slots i Free) (agree stood.0 p.0 p.1) in
      let same : slot_at (buckets_of (over clean own)) n i ≡ slice_index_or (bucket_of p.0).slots i Free = sym stood.1 ∙ here in
      ap (is_kept context.active) same ∙ no_more stood.0 p.0 p.1 i (ap (is_kept fewer) (sym same) ∙ kept)

  -- so was one of a bucket that is written
  kept_in_bucket : (own : ℕ → Option Page) (n i : ℕ) (bucket : BucketFields) → KeepsFile context.bits context.active context.root view.seen own → is_some (view.seen n) ≡ true → over clean own n ≡ Some (Page.Bucket bucket)
      → is_kept fewer (slice_index_or bucket.slots i Free) ≡ true → is_kept context.active (slice_index_or bucket.slots i Free) ≡ true
  kept_in_bucket own n i bucket keeps held found kept =
      let same : slot_at (buckets_of (over clean own)) n i ≡ slice_index_or bucket.slots i Free = ap (λ p. slice_index_or (bucket_of p).slots i Free) found in
      ap (is_kept context.active) (sym same) ∙ kept_before own n i keeps held (ap (is_kept fewer) same ∙ kept)

  still_rests : (room_depth n : ℕ) (header : HeadFields) (bucket : BucketFields) → IsAtRest (split_target context walk room_depth) view n header bucket → IsAtRest (split_target (record context { active = fewer }) walk room_depth) view n header bucket
  still_rests room_depth n header bucket rest = rest_with_fewer (split_target context walk room_depth) fewer view n header bucket clean agree form rest no_more

  still_adds : (n room_depth : ℕ) (unsplit : Bool) → IsAdding context walk view n room_depth unsplit → IsAdding (record context { active = fewer }) walk view n room_depth unsplit
  still_adds n room_depth unsplit adds = record {
    header = adds.header;
    fields = adds.fields;
    read = read_as context fewer walk.key view None adds.read;
    holds = adds.holds;
    shallow = adds.shallow;
    rest = still_rests room_depth n adds.header adds.fields adds.rest;
    most = adds.most;
    unsplit_is = adds.unsplit_is;
    later = adds.later;
    narrow = adds.narrow;
    wide = adds.wide;
  }

  still_splits : (room_depth : ℕ) → IsSplitting context walk view room_depth → IsSplitting (record context { active = fewer }) walk view room_depth
  still_splits room_depth splits = record {
    split = splits.split;
    split_is = splits.split_is;
    read = read_as context fewer walk.key view None splits.read;
    holds = splits.holds;
    shallow = splits.shallow;
    under_way = under_way_with_fewer (split_target context walk room_depth) fewer view splits.split clean agree form splits.under_way no_more;
    most = splits.most;
    later = splits.later;
    narrow = splits.narrow;
    wide = splits.wide;
  }

  still_stood : (done : Change) (slots : List Slot) (slot : Slot) → (is_kept fewer slot ≡ true → is_kept context.active slot ≡ true) → StoodBefore done context walk.key slots slot → StoodBefore done (record context { active = fewer }) walk.key slots slot
  still_stood (Change.Put value) slots slot kept was = (was.0, was.1, not_true (is_kept fewer slot) (λ is. false≢true (sym was.2 ∙ kept is)))
  still_stood other slots slot kept was = was

  still_changed : (n : ℕ) (done : Change) → IsChanged context walk view n done → IsChanged (record context { active = fewer }) walk view n done
  still_changed n done changed = record {
    found = changed.found;
    fits = changed.fits;
    read = read_as context fewer walk.key view changed.found changed.read;
    holds = changed.holds;
    header = changed.header;
    head = changed.head;
    shallow = changed.shallow;
    few = changed.few;
    among = changed.among;
    rest = changed.rest;
    slot = changed.slot;
    within = changed.within;
    fields = changed.fields;
    held = changed.held;
    home = changed.home;
    was = still_stood done changed.fields.slots (slice_index_or changed.fields.slots changed.slot Free) (kept_in_bucket changed.rest n changed.slot changed.fields changed.changes.keeps changed.held (changed.home clean agree form).found) changed.was;
    changes = record { keeps = keeps_fewer context.bits context.active context.root view.seen fewer changed.rest no_more changed.changes.keeps; changes = changed.changes.changes };
  }

  still_stands : (phase : Phase) → Stands phase context walk view → Stands phase (record context { active = fewer }) walk view
  still_stands Phase.Start stands = stands
  still_stands (Phase.Headed dir row depth) stands = headed_for context fewer walk view dir row depth stands
  still_stands (Phase.Placed bucket depth) stands = placed_for context fewer walk view bucket depth stands
  still_stands (Phase.AtBucket bucket depth found) stands = at_bucket_for context fewer walk view bucket depth found stands
  still_stands (Phase.Full next) stands = stands
  still_stands (Phase.Adding value bucket room_depth unsplit) stands = still_adds bucket room_depth unsplit stands
  still_stands (Phase.Splitting value room_depth) stands = still_splits room_depth stands
  still_stands (Phase.Changed bucket done) stands = still_changed bucket done stands

  -- **A walk stands where it stood.**
  pub stands_still : IsStanding context walk view → IsStanding (record context { active = fewer }) walk view
  stands_still stands = still_stands walk.phase stands
