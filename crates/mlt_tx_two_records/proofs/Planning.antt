-- What a pair plans and makes, as the change of a slot
use Rattle.std.proofs.Common.{◌≡◌, ◌≢◌, ℕ, ◌<◌, Bool, true, false, Option, None, Some, refl, sym, ap, subst, ◌∙◌, inl, inr, slice_index_or, position, option_map, nat_cmp}
use Rattle.std.specs.FinSet as set
use Rattle.mlt_tx_two_records.proofs.Names.{cases_eq, false≢true, none-some, is_ghost_of, is_kept, Page, Slot, Free, BucketFields, with_slot, RecChange, Add, Set, ToGhost, Revive, Plus, Minus, CanChange, own_or_clean, ReadsHeldBucket, View, WritesPage, WriteFields, planned_page, FitsFound, IsThere, found_of, RecordChange, Descent, slot_after, WalkContext, StoodBefore, Change, nowhere_found, Performs, asked_of, PlansRecord, WritesRecord}
use Rattle.std.proofs.lemmas.Bool.{not-true}
use Rattle.mlt_page.specs.Slots.{is_live_of}
use Rattle.mlt_hash_form.specs.{Form.slot_value, Form.value_in, Plans.IsNowhere, Plans.SetsFirst, Plans.has_room}
use Rattle.mlt_hash_access.specs.Views.{IsUnwritten}
use Rattle.mlt_hash_pair.{specs.Changes.MakesChange, specs.Changes.OwesChange, specs.Plans.FitsSlots, specs.Plans.IsPlan, specs.Descents.HasRead, specs.Descents.page_of, proofs.Makes.one_reading, proofs.Slots.absent_place, proofs.Slots.fits_after, proofs.Slots.fits_slots}

-- what is asked of a key's record fits its bucket, as that reads
abbrev pub FitsThere : Option RecordChange → ℕ → ℕ → View → Type 0
FitsThere asked key q view = (bucket : BucketFields) → ReadsHeldBucket view q bucket → FitsSlots asked key bucket.slots

-- a ghost that is to be revived is there
abbrev pub GhostThere : WalkContext → RecChange → ℕ → ℕ → View → Type 0
GhostThere context change key q view = change ≡ Revive → (bucket : BucketFields) → ReadsHeldBucket view q bucket
    → (i : ℕ) × (position (is_ghost_of key context.tx) bucket.slots ≡ Some i)

-- a page reads beside the one that is written as it read,
pub reads_beside : (old new : View) (q p : ℕ) (page : Page) (bucket : BucketFields) → WritesPage old new q page → p ≢ q → ReadsHeldBucket new p bucket → ReadsHeldBucket old p bucket
reads_beside old new q p page bucket writes ne reads = (reads.0, sym (writes.seen p) ∙ reads.1, ap (λ own. own_or_clean own reads.0) (sym (writes.others p ne)) ∙ reads.2)

pub reads_beside_still : (old new : View) (q p : ℕ) (page : Page) (bucket : BucketFields) → WritesPage old new q page → p ≢ q → ReadsHeldBucket old p bucket → ReadsHeldBucket new p bucket
reads_beside_still old new q p page bucket writes ne reads = (reads.0, writes.seen p ∙ reads.1, ap (λ own. own_or_clean own reads.0) (writes.others p ne) ∙ reads.2)

-- and that one as it was written
pub reads_written : (old new : View) (q : ℕ) (was is : BucketFields) → WritesPage old new q (Page.Bucket is) → ReadsHeldBucket new q was → was ≡ is
reads_written old new q was is writes reads =
    let pages : Some (Page.Bucket is) ≡ Some (Page.Bucket was) = sym (ap (λ own. own_or_clean own reads.0) writes.here) ∙ reads.2 in cc

-- **What fits the bucket of one key fits it once another key's change is made.**
pub fits_beside : (asked : Option RecordChange) (done : RecordChange) (active : set.FinSet nat_cmp) (tx key other q p : ℕ) (old mid : View) → key ≢ other
    → FitsThere asked other p old → MakesChange done active tx key q old mid → FitsThere asked other p mid
fits_beside asked done active tx key other q p old mid apart fits makes bucket reads =
    elim (cases_eq p q) [
      | inl same ↦
          let here : ReadsHeldBucket mid q bucket = subst (λ n. ReadsHeldBucket mid n bucket) same reads in
          let is : bucket ≡ with_slot makes.bucket makes.write.at makes.write.slot = reads_written old mid q bucket (with_slot makes.bucket makes.write.at makes.write.slot) makes.writes here in
          let was : FitsSlots asked other makes.bucket.slots = fits makes.bucket (subst (λ n. ReadsHeldBucket old n makes.bucket) (sym same) makes.reads) in
          subst (λ (b : BucketFields). FitsSlots asked other b.slots) (sym is) (fits_after asked done active tx key other q makes.bucket makes.write apart makes.plan was)
      | inr ne ↦ fits bucket (reads_beside old mid q p (planned_page makes.bucket makes.write) bucket makes.writes ne reads)
    ]

-- **What fits what was found of a key fits its bucket.**
pub way_fits : (bits : ℕ → ℕ) (root key : ℕ) (view : View) (asked : Option RecordChange) (at : Descent) → IsThere at → HasRead bits root key view at → IsUnwritten view → FitsFound asked (found_of at) → FitsThere asked key (page_of at) view
way_fits bits root key view asked (Descent.AtBucket dir bucket found) there has none fits fields reads =
    let same : has.fields ≡ fields = one_reading view bucket has.fields fields (Some (Page.Bucket has.fields), has.at, ap (λ own. own_or_clean own (Some (Page.Bucket has.fields))) (none bucket)) reads in
    fits_slots asked key fields.slots found (has.found_is ∙ ap (λ (b : BucketFields). value_in key b.slots) same) fits
way_fits bits root key view asked at there has none fits fields reads = absurd there

module _ (context : WalkContext) (key q : ℕ) (view : View) (bucket : BucketFields) (reads : ReadsHeldBucket view q bucket) (write : WriteFields) where
  -- the first slot of its kind is planned
  first_planned : (done : Change) (has : Slot → Bool) → SetsFirst q bucket has (slot_after done key context.tx) write → ((slot : Slot) → has slot ≡ true → StoodBefore done context key bucket.slots slot) → PlansRecord context done key q view write
  first_planned done has sets stood = record {
    bucket = bucket;
    reads = reads;
    number = ap (λ (w : WriteFields). w.number) sets.written;
    within = subst (λ (w : WriteFields). w.at < 8) (sym sets.written) sets.within;
    slot = ap (λ (w : WriteFields). w.slot) sets.written;
    was = subst (λ (w : WriteFields). StoodBefore done context key bucket.slots (slice_index_or bucket.slots w.at Free)) (sym sets.written) (stood (slice_index_or bucket.slots sets.slot Free) sets.was);
  }

  no_value : ((i : ℕ) → is_live_of key (slice_index_or bucket.slots i Free) ≡ false) → value_in key bucket.slots ≡ None
  no_value absent = ap (option_map (λ i. slot_value (slice_index_or bucket.slots i Free))) (absent_place key bucket.slots absent)

  -- a change that is planned, as the slot that it sets
  abbrev pub IsPlanned : RecChange → Option ℕ → Type 0
  IsPlanned change found = (done : Change) × Performs change found done × PlansRecord context done key q view write

  revives : (v : ℕ) → value_in key bucket.slots ≡ None → SetsFirst q bucket (is_ghost_of key context.tx) (slot_after (Change.Revive v) key context.tx) write → PlansRecord context (Change.Revive v) key q view write
  revives v none sets = first_planned (Change.Revive v) (is_ghost_of key context.tx) sets (λ slot is. (none, is))

  puts : (v : ℕ) → value_in key bucket.slots ≡ None → IsNowhere (is_ghost_of key context.tx) bucket.slots → SetsFirst q bucket (has_room context.active) (slot_after (Change.Put v) key context.tx) write → PlansRecord context (Change.Put v) key q view write
  puts v none nowhere sets = first_planned (Change.Put v) (has_room context.active) sets
      (λ slot is. (none, nowhere_found (is_ghost_of key context.tx) bucket.slots (position (is_ghost_of key context.tx) bucket.slots) refl nowhere, not-true (is_kept context.active slot) is))

  updates : (v : ℕ) → SetsFirst q bucket (is_live_of key) (slot_after (Change.Set v) key context.tx) write → PlansRecord context (Change.Set v) key q view write
  updates v sets = first_planned (Change.Set v) (is_live_of key) sets (λ slot is. is)

  -- **A plan of what is asked for is the change of a slot.**
  pub is_planned : (change : RecChange) (found : Option ℕ) → CanChange (Some change) found → FitsSlots (Some (asked_of change found)) key bucket.slots → GhostThere context change key q view → IsPlan (asked_of change found) context.active context.tx key q bucket write → IsPlanned change found
  is_planned (Add v) found can fits ghost plan =
      elim plan [
        | inl sets ↦ (Change.Revive v, inr refl, revives v (no_value fits) sets)
        | inr sets ↦ (Change.Put v, inl refl, puts v (no_value fits) sets.0 sets.1)
      ]
  is_planned (Set v) found can fits ghost plan = (Change.Set v, refl, updates v plan)
  is_planned ToGhost found can fits ghost plan = (Change.Remove, refl, first_planned Change.Remove (is_live_of key) plan (λ slot is. is))
  is_planned Revive found can fits ghost plan =
      elim plan [
        | inl sets ↦ (Change.Revive 0, refl, revives 0 (no_value fits) sets)
        | inr sets ↦ absurd (let there = ghost refl bucket reads in none-some there.0 (sym (nowhere_found (is_ghost_of key context.tx) bucket.slots (position (is_ghost_of key context.tx) bucket.slots) refl sets.0) ∙ there.1))
      ]
  is_planned (Plus n) None can fits ghost plan = absurd (false≢true can)
  is_planned (Plus n) (Some v) can fits ghost plan = (Change.Set _, refl, updates _ plan)
  is_planned (Minus n) None can fits ghost plan = absurd (false≢true can)
  is_planned (Minus n) (Some v) can fits ghost plan = (Change.Set _, refl, updates _ plan)

-- a change that is made, as the slot that is set
pub record IsMade (context : WalkContext) (change : RecChange) (found : Option ℕ) (key q : ℕ) (old new : View) : Type 0 where
  pub done : Change
  pub performs : Performs change found done
  pub writes : WritesRecord context done key q old new

-- **What a pair makes is the change of a slot,**
pub is_made : (context : WalkContext) (change : RecChange) (found : Option ℕ) (key q : ℕ) (old new : View) → CanChange (Some change) found → FitsThere (Some (asked_of change found)) key q old → GhostThere context change key q old
    → MakesChange (asked_of change found) context.active context.tx key q old new → IsMade context change found key q old new
is_made context change found key q old new can fits ghost makes =
    let planned = is_planned context key q old makes.bucket makes.reads makes.write change found can (fits makes.bucket makes.reads) ghost makes.plan in
    let same : planned.2.bucket ≡ makes.bucket = one_reading old q planned.2.bucket makes.bucket planned.2.reads makes.reads in
    record {
      done = planned.0;
      performs = planned.1;
      writes = record {
        write = makes.write;
        plan = planned.2;
        writes = subst (λ (b : BucketFields). WritesPage old new q (planned_page b makes.write)) (sym same) makes.writes;
      };
    }

-- a change that is owed, as the slot that is to be set
pub record IsOwed (context : WalkContext) (change : RecChange) (found : Option ℕ) (key q : ℕ) (view : View) (owed : Option WriteFields) : Type 0 where
  pub write : WriteFields
  pub owed_is : owed ≡ Some write
  pub done : Change
  pub performs : Performs change found done
  pub plan : PlansRecord context done key q view write

-- **and so is what it owes.**
pub is_owed : (context : WalkContext) (change : RecChange) (found : Option ℕ) (key q : ℕ) (view : View) (owed : Option WriteFields) → CanChange (Some change) found → FitsThere (Some (asked_of change found)) key q view → GhostThere context change key q view
    → OwesChange (Some (asked_of change found)) context.active context.tx key q view owed → IsOwed context change found key q view owed
is_owed context change found key q view owed can fits ghost owes =
    let asked : owes.change ≡ asked_of change found = (let both : Some (asked_of change found) ≡ Some owes.change = owes.asked_is in cc) in
    let planned = is_planned context key q view owes.bucket owes.reads owes.write change found can (fits owes.bucket owes.reads) ghost (subst (λ (a : RecordChange). IsPlan a context.active context.tx key q owes.bucket owes.write) asked owes.plan) in
    record { write = owes.write; owed_is = owes.owed_is; done = planned.0; performs = planned.1; plan = planned.2 }

-- what is planned on a page is planned there still, once another page is written
abbrev pub planned_beside : (context : WalkContext) (done : Change) (key q n : ℕ) (old new : View) (page : Page) (write : WriteFields) → WritesPage old new n page → q ≢ n → PlansRecord context done key q old write → PlansRecord context done key q new write
planned_beside context done key q n old new page write writes ne plan =
    record { bucket = plan.bucket; reads = reads_beside_still old new n q page plan.bucket writes ne plan.reads; number = plan.number; within = plan.within; slot = plan.slot; was = plan.was }

-- and it was planned there before
abbrev pub planned_beside_before : (context : WalkContext) (done : Change) (key q n : ℕ) (old new : View) (page : Page) (write : WriteFields) → WritesPage old new n page → q ≢ n → PlansRecord context done key q new write → PlansRecord context done key q old write
planned_beside_before context done key q n old new page write writes ne plan =
    record { bucket = plan.bucket; reads = reads_beside old new n q page plan.bucket writes ne plan.reads; number = plan.number; within = plan.within; slot = plan.slot; was = plan.was }
