-- What the changes of a pair make of a file
use Rattle.std.proofs.Common.{◌≡◌, ◌≢◌, ℕ, ◌<◌, ◌/◌, ◌%◌, Bool, true, List, Option, None, Some, sym, ap, subst, ◌∙◌, inl, inr, slice_index, slice_index_or, nat_cmp}
use Rattle.std.specs.FinSet as set
use Rattle.std.proofs.lemmas.Bool.{not-true}
use Rattle.mlt_page.specs.{Bits.first_bits, Slots.is_kept}
use Rattle.mlt_hash_pair.proofs.Names.{is_ghost_of, is_live_of, Page, Slot, Free, Ghost, Live, BucketFields, HeadFields, HasForm, look_up, value_in, Agrees, own_or_clean, View, SetsFirst, WriteFields, has_room, planned_page, IsHolding, IsFound, PairFields, FitsFound, IsPlan, HasRead, IsThere, page_of, RecordChange, Descent}
use Rattle.mlt_hash_form.{specs.Changes.ChangesRecord, specs.Changes.IsHome, specs.Changes.slot_change, specs.Held.over, proofs.SingleChanges.put_changes, proofs.SingleChanges.revive_changes, proofs.SingleChanges.set_value_changes, proofs.SingleChanges.to_ghost_changes}
use Rattle.mlt_hash_form.specs.File.{GivesPseudokeys, Writes, bucket_of, buckets_of, lead_of}
use Rattle.mlt_hash_access.proofs.Views.{writes_over_clean}
use Rattle.mlt_hash_pair.specs.{Changes.MakesChange, Changes.WritesBucketsAlone, Plans.slot_after, Plans.value_after}

-- a page that is held and not written is over clean pages what it was seen as
as_seen : (view : View) (clean : ℕ → Option Page) (q : ℕ) (first : Option Page) → Agrees view.seen clean → view.seen q ≡ Some first → view.own q ≡ None → over clean view.own q ≡ first
as_seen view clean q first agree sees none = ap (λ own. own_or_clean own (clean q)) none ∙ agree q first sees

-- a page of the directory is no bucket that is seen
not_bucket : (view : View) (p : ℕ) (read : Page) (key : ℕ) (bits : ℕ → ℕ) (root : ℕ) (descent : Descent) → IsThere descent → HasRead bits root key view descent → view.seen p ≡ Some (Some read) → ((fields : BucketFields) → read ≡ Page.Bucket fields → ⊥) → p ≢ page_of descent
not_bucket view p read key bits root (Descent.AtBucket dir bucket found) there has sees other same =
    let both : Some (Some read) ≡ Some (Some (Page.Bucket has.fields)) = sym sees ∙ ap view.seen same ∙ has.at in
    let is : read ≡ Page.Bucket has.fields = cc in
    other has.fields is
not_bucket view p read key bits root descent there has sees other same = absurd there

no_head : (header : HeadFields) (fields : BucketFields) → Page.Head header ≡ Page.Bucket fields → ⊥
no_head header fields same = cc

no_dir : (entries : List ℕ) (fields : BucketFields) → Page.Dir entries ≡ Page.Bucket fields → ⊥
no_dir entries fields same = cc

-- by its header and its page of the directory a pseudokey leads to its bucket
led_by : (pages : ℕ → Option Page) (root x : ℕ) (header : HeadFields) (entries : List ℕ) (bucket : ℕ) → pages root ≡ Some (Page.Head header) → pages (slice_index header.dirs (first_bits header.depth x / 256)) ≡ Some (Page.Dir entries) → slice_index entries (first_bits header.depth x % 256) ≡ bucket → lead_of pages root x ≡ bucket
led_by pages root x header entries bucket head listed is = rw head (rw listed is)

module _ (bits : ℕ → ℕ) (root : ℕ) (pair : PairFields) (view : View) (clean : ℕ → Option Page) (found : IsFound pair) (holding : IsHolding bits root pair view) (agree : Agrees view.seen clean) (alone : WritesBucketsAlone pair view) where
  unwritten_here : (p : ℕ) (read : Page) → view.seen p ≡ Some (Some read) → ((fields : BucketFields) → read ≡ Page.Bucket fields → ⊥) → view.own p ≡ None
  unwritten_here p read sees other = alone p (not_bucket view p read pair.left bits root pair.left_descent found.0 holding.left sees other) (not_bucket view p read pair.right bits root pair.right_descent found.1 holding.right sees other)

  leads : (key : ℕ) (descent : Descent) → IsThere descent → HasRead bits root key view descent → lead_of (over clean view.own) root (bits key) ≡ page_of descent
  leads key (Descent.AtBucket dir bucket found) there has =
      let placed = has.placed in
      let head = as_seen view clean root (Some (Page.Head placed.header)) agree placed.head (unwritten_here root (Page.Head placed.header) placed.head (no_head placed.header)) in
      let listed = as_seen view clean dir (Some (Page.Dir placed.entries)) agree placed.listed (unwritten_here dir (Page.Dir placed.entries) placed.listed (no_dir placed.entries)) in
      led_by (over clean view.own) root (bits key) placed.header placed.entries bucket head (sym (ap (over clean view.own) placed.dir_is) ∙ listed) (sym placed.bucket_is)
  leads key descent there has = absurd there

  -- **Each key leads to its bucket.**
  pub both_lead : (lead_of (over clean view.own) root (bits pair.left) ≡ page_of pair.left_descent) × (lead_of (over clean view.own) root (bits pair.right) ≡ page_of pair.right_descent)
  both_lead = (leads pair.left pair.left_descent found.0 holding.left, leads pair.right pair.right_descent found.1 holding.right)

-- which slot is set, to what, and what stood there
first_spot : (q : ℕ) (bucket : BucketFields) (has : Slot → Bool) (slot : Slot) (write : WriteFields) → SetsFirst q bucket has slot write → (write.at < 8) × (write.slot ≡ slot) × (has (slice_index_or bucket.slots write.at Free) ≡ true)
first_spot q bucket has slot write sets = (
  subst (λ (w : WriteFields). w.at < 8) (sym sets.written) sets.within,
  ap (λ (w : WriteFields). w.slot) sets.written,
  subst (λ (w : WriteFields). has (slice_index_or bucket.slots w.at Free) ≡ true) (sym sets.written) sets.was,
)

module _ (bits : ℕ → ℕ) (pages pages' : ℕ → Option Page) (root : ℕ) (active : set.FinSet nat_cmp) (tx key q : ℕ) (bucket : BucketFields) (home : IsHome bits pages root key q bucket) (write : WriteFields) (writes : Writes pages pages' q (planned_page bucket write)) where
  abbrev Changed : RecordChange → Type 0
  Changed change = ChangesRecord bits pages pages' root (slot_change key (value_after change) q write.at (slot_after change key tx))

  writes_as : (slot : Slot) → write.slot ≡ slot → Writes pages pages' q (planned_page bucket (record write { slot = slot }))
  writes_as slot is = subst (λ slot. Writes pages pages' q (planned_page bucket (record write { slot = slot }))) is writes

  changes_by : (change : RecordChange) → IsPlan change active tx key q bucket write → FitsFound (Some change) (value_in key bucket.slots) → Changed change
  changes_by (RecordChange.Insert value) plan none =
      elim plan [
        | inl revives ↦
            let spot = first_spot q bucket (is_ghost_of key tx) (Live key value) write revives in
            revive_changes bits pages pages' root key tx value q write.at bucket home none spot.0 spot.2 (writes_as (Live key value) spot.1)
        | inr puts ↦
            let spot = first_spot q bucket (has_room active) (Live key value) write puts.1 in
            put_changes bits active pages pages' root key value q write.at bucket home none spot.0 (not-true (is_kept active (slice_index_or bucket.slots write.at Free)) spot.2) (writes_as (Live key value) spot.1)
      ]
  changes_by (RecordChange.Update value) plan some =
      let spot = first_spot q bucket (is_live_of key) (Live key value) write plan in
      set_value_changes bits pages pages' root key value q write.at bucket home spot.0 spot.2 (writes_as (Live key value) spot.1)
  changes_by RecordChange.Remove plan some =
      let spot = first_spot q bucket (is_live_of key) (Ghost key 0 tx) write plan in
      to_ghost_changes bits pages pages' root key tx q write.at bucket home spot.0 spot.2 (writes_as (Ghost key 0 tx) spot.1)

-- **A change that is made changes one record of the file.**
pub changes_one : (bits : ℕ → ℕ) (root : ℕ) (active : set.FinSet nat_cmp) (tx key q : ℕ) (change : RecordChange) (old new : View) (clean : ℕ → Option Page) → GivesPseudokeys bits → Agrees old.seen clean → HasForm bits (over clean old.own) root
    → lead_of (over clean old.own) root (bits key) ≡ q → FitsFound (Some change) (look_up bits (over clean old.own) root key) → (makes : MakesChange change active tx key q old new)
    → ChangesRecord bits (over clean old.own) (over clean new.own) root (slot_change key (value_after change) q makes.write.at (slot_after change key tx))
changes_one bits root active tx key q change old new clean bounded agree form leads fits makes =
    let there : over clean old.own q ≡ Some (Page.Bucket makes.bucket) = ap (own_or_clean (old.own q)) (agree q makes.reads.0 makes.reads.1) ∙ makes.reads.2 in
    let home : IsHome bits (over clean old.own) root key q makes.bucket = record { bounded = bounded; form = form; leads = leads; found = there } in
    let value : look_up bits (over clean old.own) root key ≡ value_in key makes.bucket.slots = ap (λ n. value_in key (buckets_of (over clean old.own) n).slots) leads ∙ ap (λ (o : Option Page). value_in key (bucket_of o).slots) there in
    changes_by bits (over clean old.own) (over clean new.own) root active tx key q makes.bucket home makes.write (writes_over_clean old new q (planned_page makes.bucket makes.write) clean makes.writes) change makes.plan (subst (FitsFound (Some change)) value fits)
