-- The records of a file as a finite map
use Rattle.std.specs.Prelude.{ℕ, ◌≡◌, List, [], ◌∷◌, Some, ◌↔◌, flat_map}
use Rattle.std.specs.Ordering.{nat_cmp}
use Rattle.std.specs.FinMap as map
use Rattle.mlt_page.specs.declared.{slot.Slot.Slot, slot.Slot.TheVariants.Free, slot.Slot.TheVariants.Live, slot.Slot.TheVariants.Ghost, page.Page.Page}
use Rattle.mlt_hash_form.specs.File.{FilePages, HasRecord, buckets_of}

-- the key and the value of a live slot
abbrev pub live_pairs : Slot → List (ℕ × ℕ)
live_pairs Free = []
live_pairs (Live key value) = (key, value) ∷ []
live_pairs (Ghost key value owner) = []

-- The pairs of all live slots of all bucket pages, as a map from keys to values. It says the records where no key
-- stands in two live slots.
abbrev pub live_records : map.FinMap nat_cmp Page → map.FinMap nat_cmp ℕ
live_records pages =
    let pairs_on = λ (n : ℕ). flat_map live_pairs (buckets_of (map.get pages) n).slots in
    map.from_entries (flat_map pairs_on (map.keys pages))

-- a map has just the records of these pages
abbrev pub IsRecordMap : map.FinMap nat_cmp ℕ → FilePages → Type 0
IsRecordMap records pages =
    (key value : ℕ) → (map.get records key ≡ Some value) ↔ HasRecord pages key value
