-- The directory of the clean pages, and the buckets to which its places lead
use Rattle.std.specs.Prelude.{ℕ, ◌≡◌, ◌≤◌, ◌/◌, ◌==◌, if◌then◌else◌, List, [], ◌∷◌, flat_map, Option, Some, option_to_list, slice_index}
use Rattle.std.specs.Ordering.{nat_cmp}
use Rattle.std.specs.FinMap as map
use Rattle.mlt_page.specs.{Bits.first_bits, Values.BucketFields, Values.HeadFields, declared.page.Page.Page, declared.slot.Slot.Slot, declared.slot.Slot.TheVariants.Free, declared.slot.Slot.TheVariants.Live, declared.slot.Slot.TheVariants.Ghost}
use Rattle.mlt_hash_form.specs.File.{FilePages, dirs_of, entry, lead_of, look_up}
use Rattle.mlt_manager.specs.{Bases.HasCleanPages, Managers.ManagerFields}

-- this is true of the clean pages
abbrev pub IsTrueOfClean : {P : Type 0} → ManagerFields P → (FilePages → Type 0) → Type 0
IsTrueOfClean m Is =
    (clean : map.FinMap nat_cmp Page) → HasCleanPages m clean → Is (map.get clean)

-- the header of the clean pages
abbrev pub IsCleanHead : {P : Type 0} → ManagerFields P → HeadFields → Type 0
IsCleanHead m head = IsTrueOfClean m (λ pages. pages m.root.page ≡ Some (Page.Head head))

-- the page of the directory that has this place, on the clean pages
abbrev pub IsCleanDirectory : {P : Type 0} → ManagerFields P → ℕ → List ℕ → Type 0
IsCleanDirectory m place dir = IsTrueOfClean m (λ pages.
    pages (slice_index (dirs_of pages m.root.page) (place / 256)) ≡ Some (Page.Dir dir))

-- the bucket to which this place leads, on the clean pages
abbrev pub IsCleanBucket : {P : Type 0} → ManagerFields P → ℕ → BucketFields → Type 0
IsCleanBucket m place bucket = IsTrueOfClean m (λ pages.
    pages (entry pages (dirs_of pages m.root.page) place) ≡ Some (Page.Bucket bucket))

-- the values of the live slots of a key
abbrev pub live_value : ℕ → Slot → List ℕ
live_value key Free = []
live_value key (Live other value) = if other == key then value ∷ [] else []
live_value key (Ghost other value owner) = []

abbrev pub live_values : ℕ → List Slot → List ℕ
live_values key slots = flat_map (live_value key) slots

-- this is what operations find that read each key, on the clean pages
pub record Finds {P : Type 0} (bits_of : P → ℕ → ℕ) (m : ManagerFields P) (found : ℕ → Option ℕ)
    : Type 0 where
  pub clean : map.FinMap nat_cmp Page
  pub is_clean : HasCleanPages m clean
  pub finds : (key : ℕ)
      → look_up (bits_of m.root.pseudo) (map.get clean) m.root.page key ≡ found key

-- The bucket to which a pseudokey leads on the clean pages. Each key whose pseudokey begins with the same bits, as many as the
-- bucket's depth says, has what is found of it there, in one slot; no other key has a live slot there.
pub record IsBucketOfPseudokey {P : Type 0} (bits_of : P → ℕ → ℕ) (m : ManagerFields P) (x : ℕ)
    (bucket : BucketFields) : Type 0 where
  pub leads : IsTrueOfClean m (λ pages.
      pages (lead_of pages m.root.page x) ≡ Some (Page.Bucket bucket))
  pub shallow : bucket.depth ≤ 32
  pub has : (found : ℕ → Option ℕ) → Finds bits_of m found → (key : ℕ)
      → let bits = bits_of m.root.pseudo in
      live_values key bucket.slots
      ≡ (if first_bits bucket.depth (bits key) == first_bits bucket.depth x
      then option_to_list (found key) else [])
