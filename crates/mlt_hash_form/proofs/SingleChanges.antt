-- The four changes of a record: put, set_value, to_ghost, revive. Other crates cite this module.
use Rattle.std.proofs.Common.{ℕ, ◌≡◌, ◌<◌, true, false, length, get_or, set, Option, Some, None, refl, sym, ◌∙◌, ap, arith, ◌↔◌, nat_cmp}
use Rattle.std.specs.FinSet as fin
use Rattle.mlt_hash_form.proofs.Names.{both_ways, none-some, is_live_of, is_kept, key_of, Slot, Free, Live, Ghost, BucketFields, Page, IsHome, ChangesRecord, slot_change, bucket_of, buckets_of, lead_of, look_up, Writes, MaySet, value_in, slot_value, slot_at}
use Rattle.mlt_page.specs.Slots.{is_ghost_of}
use Rattle.mlt_hash_form.proofs.Lookup.{live_is, value_from_live}
use Rattle.mlt_hash_form.proofs.InPages.{file_change, file_change_holds, value_other, value_here, sets, set_here}

pub none_from : (o : Option ℕ) → ((v : ℕ) → o ≡ Some v → ⊥) → o ≡ None
none_from None h = refl
none_from (Some v) h = absurd (h v refl)

module _ (bits : ℕ → ℕ) (pages pages' : ℕ → Option Page) (root key n i : ℕ) (was : BucketFields) (home : IsHome bits pages root key n was) (within : i < 8) where
  same_slots : (buckets_of pages n).slots ≡ was.slots
  same_slots = ap (λ p. (bucket_of p).slots) home.found

  full : length was.slots ≡ 8
  full = rw (home.leads, home.found) at (home.form.form.whole (bits key) (home.bounded key))

  -- the slot before, as the pages have it
  slot_is : slot_at (buckets_of pages) n i ≡ get_or was.slots i Free
  slot_is = ap (λ ss. get_or ss i Free) same_slots

  in_bucket : i < length (buckets_of pages n).slots
  in_bucket = rw same_slots (omega (arith, full))

  -- an absent key has no live slot here
  no_other : value_in key was.slots ≡ None → (j w : ℕ) → slot_at (buckets_of pages) n j ≡ Live key w → ⊥
  no_other none j w e =
      let once : (l v : ℕ) → get_or (buckets_of pages n).slots l Free ≡ Live key v → j ≡ l = λ l v f. home.form.form.once n j l key w v e f in
      let some = value_from_live key w j (buckets_of pages n).slots once e in
      none-some w (sym none ∙ ap (value_in key) (sym same_slots) ∙ some)

  -- a slot with the key's record may be set to what has the key
  may_change : (s : Slot) → key_of s ≡ key → is_live_of key (get_or was.slots i Free) ≡ true → MaySet bits (lead_of pages root) (buckets_of pages) n i s
  may_change s k live =
      let here : slot_at (buckets_of pages) n i ≡ Live key (slot_value (get_or was.slots i Free)) = slot_is ∙ live_is key _ live in
      record {
        within = in_bucket;
        leads = rw k home.leads;
        alone = λ j w e. sym (home.form.form.once n i j key _ w here (e ∙ ap (λ q. Live q w) k));
        own = λ q w e. let same : Live q w ≡ Live key (slot_value (get_or was.slots i Free)) = sym e ∙ here in let at : q ≡ key = ap key_of same in at ∙ sym k;
      }

  -- a slot without a record may be set to what has the key, if the key is absent
  may_add : (s : Slot) → key_of s ≡ key → value_in key was.slots ≡ None → ((q w : ℕ) → get_or was.slots i Free ≡ Live q w → ⊥) → MaySet bits (lead_of pages root) (buckets_of pages) n i s
  may_add s k none dead = record {
    within = in_bucket;
    leads = rw k home.leads;
    alone = λ j w e. absurd (no_other none j w (e ∙ ap (λ q. Live q w) k));
    own = λ q w e. absurd (dead q w (sym slot_is ∙ e));
  }

  module _ (s : Slot) (k : key_of s ≡ key) (writes : Writes pages pages' n (Page.Bucket (record was { slots = set was.slots i s }))) (fits : MaySet bits (lead_of pages root) (buckets_of pages) n i s) where
    abbrev now : BucketFields
    now = record was { slots = set was.slots i s }

    changes : (value : Option ℕ) → look_up bits pages' root key ≡ value → ChangesRecord bits pages pages' root (slot_change key value n i s)
    changes value here = record {
      form = file_change bits pages pages' root n i s was now home.bounded home.form home.found writes refl refl fits;
      here = here;
      others = λ q ne. value_other bits pages pages' root n i s was now home.bounded home.form home.found writes refl refl fits q (λ e. ne (e ∙ k));
      sets = sets bits pages pages' root n i s was now home.bounded home.form home.found writes refl refl fits;
      gained = set_here bits pages pages' root n i s was now home.bounded home.form home.found writes refl refl fits;
      kept = λ t new old. file_change_holds bits pages pages' root n i s was now home.bounded home.form home.found writes refl refl fits t new (λ e. old (sym e));
    }

    found_now : (v : ℕ) → (look_up bits pages' root (key_of s) ≡ Some v) ↔ (s ≡ Live (key_of s) v)
    found_now = value_here bits pages pages' root n i s was now home.bounded home.form home.found writes refl refl fits

  live_changes : (value : ℕ) → Writes pages pages' n (Page.Bucket (record was { slots = set was.slots i (Live key value) })) → MaySet bits (lead_of pages root) (buckets_of pages) n i (Live key value) → ChangesRecord bits pages pages' root (slot_change key (Some value) n i (Live key value))
  live_changes value writes fits = changes (Live key value) refl writes fits (Some value) ((found_now (Live key value) refl writes fits value).1 refl)

  ghost_changes : (owner : ℕ) → Writes pages pages' n (Page.Bucket (record was { slots = set was.slots i (Ghost key 0 owner) })) → MaySet bits (lead_of pages root) (buckets_of pages) n i (Ghost key 0 owner) → ChangesRecord bits pages pages' root (slot_change key None n i (Ghost key 0 owner))
  ghost_changes owner writes fits = changes (Ghost key 0 owner) refl writes fits None (none_from _ (λ v e. let q : Ghost key 0 owner ≡ Live key v = (found_now (Ghost key 0 owner) refl writes fits v).0 e in cc))

pub put_changes : (bits : ℕ → ℕ) (active : fin.FinSet nat_cmp) (pages pages' : ℕ → Option Page) (root key value n i : ℕ) (was : BucketFields)
    → IsHome bits pages root key n was → value_in key was.slots ≡ None → i < 8 → is_kept active (get_or was.slots i Free) ≡ false
    → Writes pages pages' n (Page.Bucket (record was { slots = set was.slots i (Live key value) })) → ChangesRecord bits pages pages' root (slot_change key (Some value) n i (Live key value))
put_changes bits active pages pages' root key value n i was home none lt free writes =
    live_changes bits pages pages' root key n i was home lt value writes (may_add bits pages pages' root key n i was home lt (Live key value) refl none (λ q w e. both_ways _ free (ap (is_kept active) e)))

pub set_value_changes : (bits : ℕ → ℕ) (pages pages' : ℕ → Option Page) (root key value n i : ℕ) (was : BucketFields)
    → IsHome bits pages root key n was → i < 8 → is_live_of key (get_or was.slots i Free) ≡ true
    → Writes pages pages' n (Page.Bucket (record was { slots = set was.slots i (Live key value) })) → ChangesRecord bits pages pages' root (slot_change key (Some value) n i (Live key value))
set_value_changes bits pages pages' root key value n i was home lt live writes =
    live_changes bits pages pages' root key n i was home lt value writes (may_change bits pages pages' root key n i was home lt (Live key value) refl live)

pub to_ghost_changes : (bits : ℕ → ℕ) (pages pages' : ℕ → Option Page) (root key owner n i : ℕ) (was : BucketFields)
    → IsHome bits pages root key n was → i < 8 → is_live_of key (get_or was.slots i Free) ≡ true
    → Writes pages pages' n (Page.Bucket (record was { slots = set was.slots i (Ghost key 0 owner) })) → ChangesRecord bits pages pages' root (slot_change key None n i (Ghost key 0 owner))
to_ghost_changes bits pages pages' root key owner n i was home lt live writes =
    ghost_changes bits pages pages' root key n i was home lt owner writes (may_change bits pages pages' root key n i was home lt (Ghost key 0 owner) refl live)

pub revive_changes : (bits : ℕ → ℕ) (pages pages' : ℕ → Option Page) (root key owner value n i : ℕ) (was : BucketFields)
    → IsHome bits pages root key n was → value_in key was.slots ≡ None → i < 8 → is_ghost_of key owner (get_or was.slots i Free) ≡ true
    → Writes pages pages' n (Page.Bucket (record was { slots = set was.slots i (Live key value) })) → ChangesRecord bits pages pages' root (slot_change key (Some value) n i (Live key value))
revive_changes bits pages pages' root key owner value n i was home none lt ghost writes =
    live_changes bits pages pages' root key n i was home lt value writes (may_add bits pages pages' root key n i was home lt (Live key value) refl none (λ q w e. both_ways _ (ap (is_ghost_of key owner) e) ghost))
