-- What a change in place makes of the file
use Rattle.std.proofs.Common.{◌≡◌, ℕ, ◌<◌, ◌≤◌, ◌+◌, ◌^◌, Bool, true, List, Option, Some, None, is_some, refl, sym, ap, subst, ◌∙◌, arith, IsSome, position, slice_index_or, unwrap_or, option_map}
use Rattle.std.specs.FinMap as map
use Rattle.mlt_hash.proofs.Names.{false≢true, Refusal, Exclusive, is_live_of, Slot, Free, Ghost, Live, Page, page_with_slot, BucketFields, Modes, can_write, with_page, stronger_exclusive, IsHome, HasForm, IsPath, dir_of, value_in, Agrees, RearrangesSlots, over, own_or_clean, keeps_none, LocalState, HasWritten, ReadsHeldBucket, View, WritesPage, view_of, over_since, reads_over_writes, reads_since, may_write, mode_of_page, write_writes, writes_over_clean, IsNowhere, SetsFirst, WriteFields, bucket_mode, directory_held, slot_after, WalkContext, Before, FoundBefore, HoldsBeside, IsAtBucket, IsChanged, MayWalk, Stands, StoodBefore, WalkFields, nothing_before, view_for, IsAtAbsent, IsAtBucketPhase, Makes, PlansSlot, SeesBucket, TellsOfChange, TellsOfWrite, directory_depth_of, page_of, Pass, Phase, Change, WalkAnswer}
use Rattle.mlt_hash_form.{specs.Changes.ChangesRecord, specs.Changes.slot_change, specs.File.Writes, specs.Form.slot_value, specs.Held.ChangesFile, proofs.Lookup.live_from_value, proofs.Lookup.live_passes, proofs.Lookup.within_from_live, proofs.Paths.path_home, proofs.SingleChanges.put_changes, proofs.SingleChanges.revive_changes, proofs.SingleChanges.set_value_changes, proofs.SingleChanges.to_ghost_changes}
use Rattle.mlt_hash_access.{specs.Views.WritesSlot, proofs.Since.reads_below_writes, proofs.Since.rebased_writes_slot, proofs.Unwritten.first_write_is_not_third}
use Rattle.mlt_hash.{specs.Passes.change_to, specs.Passes.value_after, specs.Changes.IsAtRecord, specs.Changes.LacksMemory, specs.Changes.WritesIfChanged, proofs.Beside.few_before, proofs.Beside.few_beside, proofs.Beside.more_beside, proofs.Beside.still_beside}
use Rattle.mlt_hash.proofs.Passed.{StepsOn, holds_at_bucket, holds_on, read_at_bucket, reads_on, steps_by_write}

-- a walk that found a record stands at its bucket,
pub record_at : (context : WalkContext) (walk : WalkFields) (view : View) (phase : Phase) → IsAtRecord phase → Stands phase context walk view → (found : Option ℕ) × IsAtBucket context walk view (page_of phase) (directory_depth_of phase) found × IsSome found
record_at context walk view (Phase.AtBucket bucket depth found) has stands = (found, stands, has)
record_at context walk view other has stands = absurd has

-- and so does one that found none
pub absent_at : (context : WalkContext) (walk : WalkFields) (view : View) (phase : Phase) → IsAtAbsent phase → Stands phase context walk view → IsAtBucket context walk view (page_of phase) (directory_depth_of phase) None
absent_at context walk view (Phase.AtBucket bucket depth found) none stands = subst (λ found. IsAtBucket context walk view bucket depth found) none stands
absent_at context walk view other none stands = absurd none

-- a bucket is seen in one way
pub same_bucket : (seen : Option (Option Page)) (a b : BucketFields) → seen ≡ Some (Some (Page.Bucket a)) → seen ≡ Some (Some (Page.Bucket b)) → a ≡ b
same_bucket seen a b first second =
    let both : Some (Some (Page.Bucket a)) ≡ Some (Some (Page.Bucket b)) = sym first ∙ second in
    cc

bucket_mode_exclusive : (pass : Pass) → bucket_mode pass Exclusive ≡ Exclusive
bucket_mode_exclusive Pass.First = refl
bucket_mode_exclusive Pass.Narrow = refl
bucket_mode_exclusive Pass.Wide = refl

-- **A walk whose own mode is exclusive holds its bucket so.**
pub bucket_is_exclusive : (context : WalkContext) (walk : WalkFields) (view : View) (bucket depth : ℕ) (found : Option ℕ) → IsAtBucket context walk view bucket depth found → walk.mode ≡ Exclusive → map.get view.modes bucket ≡ Some Exclusive
bucket_is_exclusive context walk view bucket depth found stands exclusive =
    let dirs : Modes = directory_held context.before.held walk.pass context.root (dir_of stands.header (context.bits walk.key)) in
    let mode : bucket_mode walk.pass walk.mode ≡ Exclusive = ap (bucket_mode walk.pass) exclusive ∙ bucket_mode_exclusive walk.pass in
    ap (λ (modes : Modes). map.get modes bucket) (stands.held ∙ ap (with_page dirs bucket) mode)
    ∙ mode_of_page dirs bucket Exclusive
    ∙ ap Some (stronger_exclusive (map.get dirs bucket))

-- what a change of one slot of the key's bucket does to clean pages, by what stood in the slot
pub changes_by : (context : WalkContext) (pages pages' : ℕ → Option Page) (key n i : ℕ) (fields : BucketFields) (done : Change) → IsHome context.bits pages context.root key n fields → i < 8 → StoodBefore done context key fields.slots (slice_index_or fields.slots i Free)
    → Writes pages pages' n (page_with_slot fields i (slot_after done key context.tx)) → ChangesRecord context.bits pages pages' context.root (slot_change key (value_after done) n i (slot_after done key context.tx))
changes_by context pages pages' key n i fields (Change.Put value) home within was writes = put_changes context.bits context.active pages pages' context.root key value n i fields home was.0 within was.2 writes
changes_by context pages pages' key n i fields (Change.Revive value) home within was writes = revive_changes context.bits pages pages' context.root key context.tx value n i fields home was.0 within was.1 writes
changes_by context pages pages' key n i fields (Change.Set value) home within was writes = set_value_changes context.bits pages pages' context.root key value n i fields home within was writes
changes_by context pages pages' key n i fields Change.Remove home within was writes = to_ghost_changes context.bits pages pages' context.root key context.tx n i fields home within was writes

-- what was found of the key stands in the bucket
pub found_there : (context : WalkContext) (walk : WalkFields) (view : View) (n depth : ℕ) (found : Option ℕ) (fields : BucketFields) → IsAtBucket context walk view n depth found → view.seen n ≡ Some (Some (Page.Bucket fields)) → value_in walk.key fields.slots ≡ found
found_there context walk view n depth found fields stands sees = ap (λ (b : BucketFields). value_in walk.key b.slots) (same_bucket (view.seen n) fields stands.fields sees stands.at) ∙ sym stands.found_is

module _ (context : WalkContext) (walk : WalkFields) (view : View) (n depth : ℕ) (found : Option ℕ) (fields : BucketFields) (bounded : (k : ℕ) → context.bits k < 2 ^ 64) (stands : IsAtBucket context walk view n depth found) (sees : view.seen n ≡ Some (Some (Page.Bucket fields))) where
  -- the way of the key on all clean pages that agree with what is seen
  pub seen_path : (clean : ℕ → Option Page) → Agrees view.seen clean → IsPath clean context.root (context.bits walk.key) stands.header stands.dir n fields
  seen_path clean agree = record {
    head = agree context.root (Some (Page.Head stands.header)) stands.head;
    listed = agree (dir_of stands.header (context.bits walk.key)) (Some (Page.Dir stands.dir)) stands.listed;
    at = sym stands.bucket_is;
    found = agree n (Some (Page.Bucket fields)) sees;
  }

  pub seen_home : (clean : ℕ → Option Page) → Agrees view.seen clean → HasForm context.bits clean context.root → IsHome context.bits clean context.root walk.key n fields
  seen_home clean agree form = path_home context.bits clean context.root walk.key stands.header stands.dir n fields bounded form (seen_path clean agree)

  -- one write of the bucket, with one slot changed, is a change of the file
  module _ (new : View) (done : Change) (fits : FoundBefore done found) (i : ℕ) (within : i < 8) (was : StoodBefore done context walk.key fields.slots (slice_index_or fields.slots i Free)) (writes : WritesPage view new n (page_with_slot fields i (slot_after done walk.key context.tx))) where
    agreed_before : (clean : ℕ → Option Page) → Agrees new.seen clean → Agrees view.seen clean
    agreed_before clean agree q first is = agree q first (writes.seen q ∙ is)

    -- what was there before the write is what is seen
    as_seen : (clean : ℕ → Option Page) → Agrees new.seen clean → over clean view.own ≡ clean
    as_seen clean agree = over_since context.before.written view stands.unwritten clean (agreed_before clean agree)

    home_before : (clean : ℕ → Option Page) → Agrees new.seen clean → HasForm context.bits clean context.root → IsHome context.bits (over clean view.own) context.root walk.key n fields
    home_before clean agree form = subst (λ (pages : ℕ → Option Page). IsHome context.bits pages context.root walk.key n fields) (sym (as_seen clean agree)) (seen_home clean (agreed_before clean agree) form)

    changes_file : ChangesFile context.bits context.active context.root new.seen view.own new.own (slot_change walk.key (value_after done) n i (slot_after done walk.key context.tx))
    changes_file = record {
      keeps = λ clean agree form. subst (λ (pages : ℕ → Option Page). RearrangesSlots context.bits context.active new.seen clean pages context.root) (sym (as_seen clean agree)) (keeps_none context.bits context.active context.root new.seen clean agree form);
      changes = λ clean agree form. changes_by context (over clean view.own) (over clean new.own) walk.key n i fields done (home_before clean agree form) within was (writes_over_clean view new n (page_with_slot fields i (slot_after done walk.key context.tx)) clean writes);
    }

    not_header : context.root ≡ n → ⊥
    not_header same = let both : Some (Some (Page.Head stands.header)) ≡ Some (Some (Page.Bucket fields)) = sym stands.head ∙ ap view.seen same ∙ sees in cc

    step : StepsOn walk view new
    step = steps_by_write walk view new n (page_with_slot fields i (slot_after done walk.key context.tx)) writes

    beside : HoldsBeside new stands.header (context.before.buckets + 2)
    beside = still_beside view new stands.header (context.before.buckets + 2) writes.modes stands.among

    pub is_changed : context.max_depth ≤ 16 → IsChanged context (record walk { phase = Phase.Changed n done }) new n done
    is_changed small = record {
      found = found;
      fits = fits;
      read = reads_on context walk view new step found (read_at_bucket context walk view n depth found stands);
      holds = holds_on context walk view new step found (read_at_bucket context walk view n depth found stands) (holds_at_bucket context walk view n depth found stands);
      header = stands.header;
      head = (λ k. own_or_clean (writes.others context.root not_header k) (unwrap_or ((writes.seen context.root ∙ stands.head) k) None)) ∙ reads_since context.before.written view stands.unwritten context.root (Some (Page.Head stands.header)) stands.head;
      shallow = stands.shallow;
      few = few_beside new stands.header (context.before.buckets + 2) (omega (arith, few_before walk.pass context.before stands.goes_after)) (let most = stands.shallow in omega (arith, most, small)) beside;
      among = more_beside new stands.header (context.before.buckets + 2) (context.before.buckets + 18) (omega arith) beside;
      rest = view.own;
      slot = i;
      within = within;
      held = ap is_some (writes.seen n ∙ sees);
      fields = fields;
      home = home_before;
      was = was;
      changes = changes_file;
    }

-- what is read of a bucket that is seen is the one that is seen, and the other way round
pub sees_as_read : (context : WalkContext) (walk : WalkFields) (view : View) (depth : ℕ) (found : Option ℕ) (fields : BucketFields) → IsAtBucket context walk view (page_of walk.phase) depth found → ReadsHeldBucket view (page_of walk.phase) fields → SeesBucket walk view fields
sees_as_read context walk view depth found fields stands reads = record { at = reads.1 ∙ ap Some (sym (reads_since context.before.written view stands.unwritten (page_of walk.phase) reads.0 reads.1) ∙ reads.2) }

pub reads_as_seen : (context : WalkContext) (walk : WalkFields) (view : View) (depth : ℕ) (found : Option ℕ) (fields : BucketFields) → IsAtBucket context walk view (page_of walk.phase) depth found → SeesBucket walk view fields → ReadsHeldBucket view (page_of walk.phase) fields
reads_as_seen context walk view depth found fields stands sees = (Some (Page.Bucket fields), sees.at, reads_since context.before.written view stands.unwritten (page_of walk.phase) (Some (Page.Bucket fields)) sees.at)

-- the plan of a walk at its bucket is one of the bucket that it reads
pub plan_reads : (context : WalkContext) (walk : WalkFields) (view : View) (number depth : ℕ) (found : Option ℕ) (fields : BucketFields) (has : Slot → Bool) (s : Slot) (write : WriteFields) → IsAtBucket context walk view (page_of walk.phase) depth found → SeesBucket walk view fields → number ≡ page_of walk.phase
    → SetsFirst number fields has s write → ReadsHeldBucket view write.number fields
plan_reads context walk view number depth found fields has s write stands sees here plan =
    let on : write.number ≡ page_of walk.phase = ap (λ (w : WriteFields). w.number) plan.written ∙ here in
    subst (λ q. ReadsHeldBucket view q fields) (sym on) (reads_as_seen context walk view depth found fields stands sees)

pub plans_slot : (context : WalkContext) (walk : WalkFields) (m : LocalState) (number depth : ℕ) (found : Option ℕ) (fields : BucketFields) (has : Slot → Bool) (s : Slot) (write : WriteFields) → HasWritten context.before.written (view_of m) → IsAtBucket context walk (view_for context m) (page_of walk.phase) depth found → SeesBucket walk (view_for context m) fields
    → number ≡ page_of walk.phase → SetsFirst number fields has s write → PlansSlot (view_of m) write
plans_slot context walk m number depth found fields has s write written stands sees here plan = record {
  bucket = fields;
  reads = reads_below_writes context.before.written m written write.number (Page.Bucket fields) (plan_reads context walk (view_for context m) number depth found fields has s write stands sees here plan);
  within = subst (λ i. i < 8) (sym (ap (λ (w : WriteFields). w.at) plan.written)) plan.within;
}

-- **The planned write of a held bucket makes the change.**
pub makes_change : (context : WalkContext) (walk after : WalkFields) (old new : LocalState) (number depth : ℕ) (found : Option ℕ) (fields : BucketFields) (done : Change) (has : Slot → Bool) (write : WriteFields)
    → ((k : ℕ) → context.bits k < 2 ^ 64) → context.max_depth ≤ 16 → IsAtBucket context walk (view_for context old) (page_of walk.phase) depth found → SeesBucket walk (view_for context old) fields
    → number ≡ page_of walk.phase → (plan : SetsFirst number fields has (slot_after done walk.key context.tx) write)
    → FoundBefore done found → StoodBefore done context walk.key fields.slots (slice_index_or fields.slots plan.slot Free)
    → WritesSlot (view_for context old) (view_for context new) write.number write.at write.slot
    → after ≡ record walk { phase = Phase.Changed write.number done }
    → Makes context new walk after done
makes_change context walk after old new number depth found fields done has write bounded small stands sees here plan fits was writes is =
    let n = page_of walk.phase in
    let page = page_with_slot fields plan.slot (slot_after done walk.key context.tx) in
    let on : write.number ≡ n = ap (λ (w : WriteFields). w.number) plan.written ∙ here in
    let what : page_with_slot fields write.at write.slot ≡ page = ap (λ (w : WriteFields). page_with_slot fields w.at w.slot) plan.written in
    let reads : ReadsHeldBucket (view_for context old) write.number fields = plan_reads context walk (view_for context old) number depth found fields has (slot_after done walk.key context.tx) write stands sees here plan in
    let now : after ≡ record walk { phase = Phase.Changed n done } = is ∙ ap (λ q. record walk { phase = Phase.Changed q done }) on in
    let writes_here : WritesPage (view_for context old) (view_for context new) n page = subst (λ q. WritesPage (view_for context old) (view_for context new) q page) on (subst (λ p. WritesPage (view_for context old) (view_for context new) write.number p) what (writes fields reads)) in
    let changed = is_changed context walk (view_for context old) n depth found fields bounded stands sees.at (view_for context new) done fits plan.slot plan.within was writes_here small in
    record {
      same = record { key = ap (λ (w : WalkFields). w.key) now; mode = ap (λ (w : WalkFields). w.mode) now; pass = ap (λ (w : WalkFields). w.pass) now };
      phase = ap (λ (w : WalkFields). w.phase) now;
      stands = subst (λ (w : WalkFields). Stands w.phase context w (view_for context new)) (sym now) changed;
    }

-- what a walk at its bucket has read: the bucket, on this page, and which key it goes by
pub record ReadsBucket (context : WalkContext) (walk : WalkFields) (old : LocalState) (number key : ℕ) (fields : BucketFields) : Type 0 where
  pub ready : MayWalk context old walk
  pub sees : SeesBucket walk (view_for context old) fields
  pub here : number ≡ page_of walk.phase
  pub key_is : key ≡ walk.key

-- where a walk at its bucket stands
pub bucket_at : (context : WalkContext) (walk : WalkFields) (view : View) (phase : Phase) → IsAtBucketPhase phase → Stands phase context walk view → (found : Option ℕ) × IsAtBucket context walk view (page_of phase) (directory_depth_of phase) found
bucket_at context walk view (Phase.AtBucket bucket depth found) here stands = (found, stands)
bucket_at context walk view other here stands = absurd here

-- so does one that found a record, or none
pub at_bucket_with : (phase : Phase) → IsAtRecord phase → IsAtBucketPhase phase
at_bucket_with (Phase.AtBucket bucket depth found) has = tt
at_bucket_with other has = has

pub at_bucket_without : (phase : Phase) → IsAtAbsent phase → IsAtBucketPhase phase
at_bucket_without (Phase.AtBucket bucket depth found) none = tt
at_bucket_without other none = none

-- it holds its bucket,
pub holds_bucket : (context : WalkContext) (walk : WalkFields) (m : LocalState) → MayWalk context m walk → IsAtBucketPhase walk.phase → (fields : BucketFields) × ReadsHeldBucket (view_of m) (page_of walk.phase) fields
holds_bucket context walk m ready here =
    let bucket = bucket_at context walk (view_for context m) walk.phase here ready.stands in
    (bucket.1.fields, reads_below_writes context.before.written m ready.written (page_of walk.phase) (Page.Bucket bucket.1.fields) (reads_as_seen context walk (view_for context m) (directory_depth_of walk.phase) bucket.0 bucket.1.fields bucket.1 (record { at = bucket.1.at })))

-- and what it reads of it is what it sees
pub reads_bucket : (context : WalkContext) (walk : WalkFields) (m : LocalState) (number key : ℕ) (fields : BucketFields) → MayWalk context m walk → IsAtBucketPhase walk.phase → ReadsHeldBucket (view_of m) (page_of walk.phase) fields → number ≡ page_of walk.phase → key ≡ walk.key → ReadsBucket context walk m number key fields
reads_bucket context walk m number key fields ready here reads number_is key_is =
    let bucket = bucket_at context walk (view_for context m) walk.phase here ready.stands in
    record {
      ready = ready;
      sees = sees_as_read context walk (view_for context m) (directory_depth_of walk.phase) bucket.0 fields bucket.1 (reads_over_writes context.before.written m ready.written (page_of walk.phase) (Page.Bucket fields) reads);
      here = number_is;
      key_is = key_is;
    }

-- and that it has written its plan
pub record WritesPlan (context : WalkContext) (walk after : WalkFields) (old new : LocalState) (write : WriteFields) (done : Change) : Type 0 where
  pub writes : WritesSlot (view_for context old) (view_for context new) write.number write.at write.slot
  pub walk_is : after ≡ record walk { phase = Phase.Changed write.number done }

-- the first change of a walk needs no memory
needs_memory : (context : WalkContext) (walk : WalkFields) (old : LocalState) → MayWalk context old walk → IsAtBucketPhase walk.phase → 2 ≤ map.len old.running.images → context.before ≡ nothing_before → ⊥
needs_memory context walk old ready here third anew =
    let unwritten = (bucket_at context walk (view_for context old) walk.phase here ready.stands).1.unwritten in
    first_write_is_not_third old ready.may (λ q. unwritten.own q ∙ ap (λ (b : Before). b.written q) anew) third

-- **What is told of a write: the plan is written, or memory was refused.**
pub write_cases : (context : WalkContext) (walk after : WalkFields) (old new : LocalState) (write : WriteFields) (done : Change) → MayWalk context old walk → IsAtBucketPhase walk.phase → (P : WalkAnswer → Type 0) (told : WalkAnswer) → TellsOfWrite old new walk after write done told
    → (WritesPlan context walk after old new write done → P WalkAnswer.Changed) → (LacksMemory context walk after Refusal.OutOfMemory → P (WalkAnswer.Refused Refusal.OutOfMemory)) → P told
write_cases context walk after old new write done ready here P WalkAnswer.Changed tells changed lacks =
    changed (record {
      writes = rebased_writes_slot context.before.written (view_of old) (view_of new) write.number write.at write.slot ready.written (λ bucket reads. write_writes old new write.number (page_with_slot bucket write.at write.slot) (tells.0 bucket reads));
      walk_is = tells.1;
    })
write_cases context walk after old new write done ready here P (WalkAnswer.Refused reason) tells changed lacks =
    subst (λ r. P (WalkAnswer.Refused r)) (sym tells.0) (lacks (refl, needs_memory context walk old ready here tells.1, tells.3))
write_cases context walk after old new write done ready here P WalkAnswer.Going tells changed lacks = absurd tells
write_cases context walk after old new write done ready here P (WalkAnswer.Waiting page by) tells changed lacks = absurd tells
write_cases context walk after old new write done ready here P (WalkAnswer.Found found) tells changed lacks = absurd tells
write_cases context walk after old new write done ready here P WalkAnswer.NeedSplit tells changed lacks = absurd tells
write_cases context walk after old new write done ready here P WalkAnswer.Widen tells changed lacks = absurd tells

some_value : (found : Option ℕ) → IsSome found → (value : ℕ) × (found ≡ Some value)
some_value None has = absurd (false≢true has)
some_value (Some value) has = (value, refl)

-- a record that was found stands somewhere
pub record_stands : (key : ℕ) (slots : List Slot) (found : Option ℕ) → value_in key slots ≡ found → IsSome found → IsNowhere (is_live_of key) slots → ⊥
record_stands key slots found is has nowhere =
    let value = some_value found has in
    let live = live_from_value key value.0 slots (is ∙ value.1) in
    let stands = nowhere live.0 (within_from_live slots live.0 key value.0 live.1) in
    false≢true (sym stands ∙ live_passes key value.0 (slice_index_or slots live.0 Free) live.1)

nowhere_mapped : (f : ℕ → ℕ) (place : Option ℕ) → option_map f place ≡ None → place ≡ None
nowhere_mapped f None none = refl
nowhere_mapped f (Some i) none = let both : Some (f i) ≡ None = none in cc

-- a key without a value has no live slot
pub no_live_slot : (key : ℕ) (slots : List Slot) → value_in key slots ≡ None → position (is_live_of key) slots ≡ None
no_live_slot key slots none = nowhere_mapped (λ i. slot_value (slice_index_or slots i Free)) (position (is_live_of key) slots) none

-- a walk whose key has a record has a plan of what to do with it,
pub record_has_plan : (context : WalkContext) (walk : WalkFields) (view : View) (key : ℕ) (fields : BucketFields) → IsAtRecord walk.phase → Stands walk.phase context walk view → SeesBucket walk view fields → key ≡ walk.key → IsNowhere (is_live_of key) fields.slots → ⊥
record_has_plan context walk view key fields has stands sees key_is nowhere =
    let bucket = record_at context walk view walk.phase has stands in
    let found = found_there context walk view (page_of walk.phase) (directory_depth_of walk.phase) bucket.0 fields bucket.1 sees.at in
    record_stands walk.key fields.slots bucket.0 found bucket.2 (subst (λ k. IsNowhere (is_live_of k) fields.slots) key_is nowhere)

pub may_write_bucket : (context : WalkContext) (walk : WalkFields) (old : LocalState) (number depth : ℕ) (found : Option ℕ) (fields : BucketFields) (has : Slot → Bool) (s : Slot) (write : WriteFields) → IsAtBucket context walk (view_for context old) (page_of walk.phase) depth found → walk.mode ≡ Exclusive
    → number ≡ page_of walk.phase → SetsFirst number fields has s write → can_write old.locks old.running.tx write.number ≡ true
may_write_bucket context walk old number depth found fields has s write stands exclusive here plan =
    let on : write.number ≡ page_of walk.phase = ap (λ (w : WriteFields). w.number) plan.written ∙ here in
    may_write old write.number (ap (map.get (view_of old).modes) on ∙ bucket_is_exclusive context walk (view_for context old) (page_of walk.phase) depth found stands exclusive)

-- and may write it.
pub record_may_write : (context : WalkContext) (walk : WalkFields) (old : LocalState) (number : ℕ) (fields : BucketFields) (has : Slot → Bool) (s : Slot) (write : WriteFields) → IsAtRecord walk.phase → Stands walk.phase context walk (view_for context old) → walk.mode ≡ Exclusive
    → number ≡ page_of walk.phase → SetsFirst number fields has s write → can_write old.locks old.running.tx write.number ≡ true
record_may_write context walk old number fields has s write record_is stands =
    let bucket = record_at context walk (view_for context old) walk.phase record_is stands in
    may_write_bucket context walk old number (directory_depth_of walk.phase) bucket.0 fields has s write bucket.1

-- and its plan is one of what it reads.
pub record_plans : (context : WalkContext) (walk : WalkFields) (old : LocalState) (number key : ℕ) (fields : BucketFields) (has : Slot → Bool) (s : Slot) (write : WriteFields) → IsAtRecord walk.phase → (reads : ReadsBucket context walk old number key fields)
    → SetsFirst number fields has s write → PlansSlot (view_of old) write
record_plans context walk old number key fields has s write record_is reads =
    let bucket = record_at context walk (view_for context old) walk.phase record_is reads.ready.stands in
    plans_slot context walk old number (directory_depth_of walk.phase) bucket.0 fields has s write reads.ready.written bucket.1 reads.sees reads.here

-- a plan that was written is a write of its bucket
pub plan_is_written : (old new : LocalState) (q number : ℕ) (fields : BucketFields) (has : Slot → Bool) (s : Slot) (write : WriteFields) (told : WalkAnswer) → number ≡ q → SetsFirst number fields has s write
    → WritesIfChanged old new write.number told → WritesIfChanged old new q told
plan_is_written old new q number fields has s write told here plan writes =
    subst (λ (n : ℕ). WritesIfChanged old new n told) (ap (λ (w : WriteFields). w.number) plan.written ∙ here) writes

module _ (context : WalkContext) (walk after : WalkFields) (old new : LocalState) (number key : ℕ) (fields : BucketFields) (write : WriteFields) (result : WalkAnswer) (reads : ReadsBucket context walk old number key fields) where
  -- the plan of a walk whose key had a record is the change of it
  record_changes : (done : Change) → ((found : Option ℕ) → IsSome found → FoundBefore done found) → IsAtRecord walk.phase → (plan : SetsFirst number fields (is_live_of walk.key) (slot_after done walk.key context.tx) write)
      → (is_live_of walk.key (slice_index_or fields.slots plan.slot Free) ≡ true → StoodBefore done context walk.key fields.slots (slice_index_or fields.slots plan.slot Free))
      → TellsOfWrite old new walk after write done result → TellsOfChange context new walk after done result
  record_changes done fits has plan was told =
      let stands = record_at context walk (view_for context old) walk.phase has reads.ready.stands in
      write_cases context walk after old new write done reads.ready (at_bucket_with walk.phase has) (λ r. TellsOfChange context new walk after done r) result told
      (λ wrote. makes_change context walk after old new number (directory_depth_of walk.phase) stands.0 fields done (is_live_of walk.key) write reads.ready.bounded reads.ready.small stands.1 reads.sees reads.here plan (fits stands.0 stands.2) (was plan.was) wrote.writes wrote.walk_is)
      (λ lacks. lacks)

  -- **An update,**
  pub update_tells : (value : ℕ) → IsAtRecord walk.phase → SetsFirst number fields (is_live_of key) (Live key value) write → TellsOfWrite old new walk after write (Change.Set value) result → TellsOfChange context new walk after (Change.Set value) result
  update_tells value has plan told =
      record_changes (Change.Set value) (λ found some. some) has (subst (λ k. SetsFirst number fields (is_live_of k) (Live k value) write) reads.key_is plan) (λ live. live) told

  -- **a removal,**
  pub remove_tells : (owner : ℕ) → owner ≡ context.tx → IsAtRecord walk.phase → SetsFirst number fields (is_live_of key) (Ghost key 0 owner) write → TellsOfWrite old new walk after write Change.Remove result → TellsOfChange context new walk after Change.Remove result
  remove_tells owner own has plan told =
      let of_walk : SetsFirst number fields (is_live_of walk.key) (Ghost walk.key 0 owner) write = subst (λ k. SetsFirst number fields (is_live_of k) (Ghost k 0 owner) write) reads.key_is plan in
      record_changes Change.Remove (λ found some. some) has (subst (λ tx. SetsFirst number fields (is_live_of walk.key) (Ghost walk.key 0 tx) write) own of_walk) (λ live. live) told

  -- **and one of both**
  pub set_tells : (value : Option ℕ) (owner : ℕ) → owner ≡ context.tx → IsAtRecord walk.phase → SetsFirst number fields (is_live_of key) (slot_after (change_to value) key owner) write → TellsOfWrite old new walk after write (change_to value) result → TellsOfChange context new walk after (change_to value) result
  set_tells (Some value) owner own has plan told = update_tells value has plan told
  set_tells None owner own has plan told = remove_tells owner own has plan told
