-- The map of the records, and what changes do to it. Other crates cite this module.
use Rattle.std.proofs.Common.{ℕ, ◌≡◌, ◌<◌, ◌^◌, cond, Option, Some, None, sym, ◌∙◌, ap, subst, inl, inr, nat_cmp}
use Rattle.mlt_hash_form.proofs.Names.{eq_by_cmp, nat_cmp-IsAntisymmetric, nat_cmp_total, cases_Bool, both_ways, cond-true, cond-false, Slot, Free, Live, Page, ChangesRecord, IsOpening, IsSplit, slot_change, buckets_of, lead_of, HasForm, look_up, slot_at, Agrees, ChangesFile, over, live_records}
use Rattle.std.specs.FinMap as map
use Rattle.std.specs.FinSet as set
use Rattle.mlt_types.specs.Maps.{with_entry}
use Rattle.mlt_hash_form.{specs.File.FilePages, specs.File.GivesPseudokeys, specs.Held.SeenPages, proofs.HeldPages.changed_values, proofs.InPages.same_option, proofs.Lookup.found, proofs.OpeningFile.opening_is_free, proofs.SingleChanges.none_from, proofs.PrefixForm.once_live, proofs.RecordMap.records_are_the_map, proofs.RecordMap.tied, proofs.RecordMap.tied_itself}

pub map_is_look_up : (bits : ℕ → ℕ) (pages : map.FinMap nat_cmp Page) (root : ℕ) → ((k : ℕ) → bits k < 2 ^ 64) → HasForm bits (map.get pages) root → (key : ℕ) → map.get (live_records pages) key ≡ look_up bits (map.get pages) root key
map_is_look_up bits pages root bounded file key =
    let is = records_are_the_map pages (once_live bits (map.get pages) root bounded file) key in
    let at = found bits _ (lead_of (map.get pages) root) (buckets_of (map.get pages)) file.form key in
    same_option _ _ (λ v e. (at v).0 ((is v).0 e)) (λ v e. (is v).1 ((at v).1 e))

-- two maps with one answer at a key, and the answers of a third elsewhere
module _ (bits : ℕ → ℕ) (pages pages' : map.FinMap nat_cmp Page) (root key : ℕ) (value : Option ℕ) (bounded : (k : ℕ) → bits k < 2 ^ 64) (file : HasForm bits (map.get pages) root) (file' : HasForm bits (map.get pages') root) (here : look_up bits (map.get pages') root key ≡ value) (others : (k : ℕ) → (k ≡ key → ⊥) → look_up bits (map.get pages') root k ≡ look_up bits (map.get pages) root k) where
  change_at : (q : ℕ) → map.get (live_records pages') q ≡ cond (eq_by_cmp nat_cmp q key) value (map.get (live_records pages) q)
  change_at q =
      elim (cases_Bool (eq_by_cmp nat_cmp q key)) [
        | inl e ↦
            map_is_look_up bits pages' root bounded file' q ∙ ap (look_up bits (map.get pages') root) (tied q key e) ∙ here ∙ sym (cond-true _ value _ e)
        | inr e ↦
            let ne : q ≡ key → ⊥ = λ s. both_ways _ e (ap (λ k. eq_by_cmp nat_cmp q k) (sym s) ∙ tied_itself q) in
            map_is_look_up bits pages' root bounded file' q ∙ others q ne ∙ sym (map_is_look_up bits pages root bounded file q) ∙ sym (cond-false _ value _ e)
      ]

-- a map with another value of one key, or none, looked up
with_entry_at : (records : map.FinMap nat_cmp ℕ) (key : ℕ) (value : Option ℕ) (q : ℕ)
    → map.get (with_entry records key value) q ≡ cond (eq_by_cmp nat_cmp q key) value (map.get records q)
with_entry_at records key None q = map.get-remove nat_cmp_total records key q
with_entry_at records key (Some value) q = map.get-insert nat_cmp_total records key value q

-- where the look-ups of all keys but one are the same, the map changes at this key alone
module _ (bits : ℕ → ℕ) (pages pages' : map.FinMap nat_cmp Page) (root key : ℕ) (value : Option ℕ) (bounded : GivesPseudokeys bits) (file : HasForm bits (map.get pages) root) where
  pub changed_map : HasForm bits (map.get pages') root → look_up bits (map.get pages') root key ≡ value
      → ((k : ℕ) → (k ≡ key → ⊥) → look_up bits (map.get pages') root k ≡ look_up bits (map.get pages) root k)
      → live_records pages' ≡ with_entry (live_records pages) key value
  changed_map file' here others =
      map.same_map nat_cmp_total nat_cmp-IsAntisymmetric _ _ (λ q.
      change_at bits pages pages' root key value bounded file file' here others q ∙ sym (with_entry_at (live_records pages) key value q))

pub inserted : (bits : ℕ → ℕ) (pages pages' : map.FinMap nat_cmp Page) (root key value n i : ℕ) (after : Slot) → GivesPseudokeys bits → HasForm bits (map.get pages) root
    → ChangesRecord bits (map.get pages) (map.get pages') root (slot_change key (Some value) n i after) → live_records pages' ≡ map.insert (live_records pages) key value
inserted bits pages pages' root key value n i after bounded file changes =
    changed_map bits pages pages' root key (Some value) bounded file changes.form changes.here changes.others

pub removed : (bits : ℕ → ℕ) (pages pages' : map.FinMap nat_cmp Page) (root key n i : ℕ) (after : Slot) → GivesPseudokeys bits → HasForm bits (map.get pages) root
    → ChangesRecord bits (map.get pages) (map.get pages') root (slot_change key None n i after) → live_records pages' ≡ map.remove (live_records pages) key
removed bits pages pages' root key n i after bounded file changes =
    changed_map bits pages pages' root key None bounded file changes.form changes.here changes.others

-- a walk's change of the file, where its pages become clean
pub changed_file_map : (bits : ℕ → ℕ) (active : set.FinSet nat_cmp) (root key n i : ℕ) (value : Option ℕ) (after : Slot) (seen : SeenPages) (rest own : FilePages) (pages pages' : map.FinMap nat_cmp Page)
    → ChangesFile bits active root seen rest own (slot_change key value n i after)
    → Agrees seen (map.get pages) → GivesPseudokeys bits → HasForm bits (map.get pages) root
    → ((q : ℕ) → map.get pages' q ≡ over (map.get pages) own q)
    → HasForm bits (map.get pages') root × (live_records pages' ≡ with_entry (live_records pages) key value)
changed_file_map bits active root key n i value after seen rest own pages pages' changes agrees bounded file ends =
    let values = changed_values bits active root key n i value after seen rest own (map.get pages) changes agrees file in
    let same : over (map.get pages) own ≡ map.get pages' = λ j q. sym (ends q) j in
    let file' = subst (λ (p : FilePages). HasForm bits p root) same values.0 in
    let here = subst (λ (p : FilePages). look_up bits p root key ≡ value) same values.1 in
    let others = subst (λ (p : FilePages). (k : ℕ) → (k ≡ key → ⊥) → look_up bits p root k ≡ look_up bits (map.get pages) root k) same values.2 in
    (file', changed_map bits pages pages' root key value bounded file file' here others)

pub left_by_split : (bits : ℕ → ℕ) (active : set.FinSet nat_cmp) (pages pages' : map.FinMap nat_cmp Page) (root n new : ℕ) → ((k : ℕ) → bits k < 2 ^ 64) → HasForm bits (map.get pages) root
    → IsSplit bits active (map.get pages) (map.get pages') root n new → live_records pages' ≡ live_records pages
left_by_split bits active pages pages' root n new bounded file split =
    map.same_map nat_cmp_total nat_cmp-IsAntisymmetric _ _ (λ q. map_is_look_up bits pages' root bounded split.form q ∙ split.values q ∙ sym (map_is_look_up bits pages root bounded file q))

-- the opening file has no live slot, so its map is empty
pub opening_map : (pages : map.FinMap nat_cmp Page) (root d n : ℕ) → IsOpening (map.get pages) root d n → live_records pages ≡ map.empty
opening_map pages root d n is =
    let free = opening_is_free (λ _. 0) (map.get pages) root d n is in
    let dead : (m i k v : ℕ) → slot_at (buckets_of (map.get pages)) m i ≡ Live k v → ⊥ = λ m i k v e. let q : Free ≡ Live k v = sym (free m i) ∙ e in cc in
    let records = records_are_the_map pages (λ m l i j k v w e f. absurd (dead m i k v e)) in
    map.same_map nat_cmp_total nat_cmp-IsAntisymmetric _ _ (λ q. none_from _ (λ v e. let r = (records q v).0 e in dead r.0 r.1 q v r.2) ∙ sym (map.get-empty nat_cmp q))
