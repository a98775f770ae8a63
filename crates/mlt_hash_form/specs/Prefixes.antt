-- The form of an extendible hash file, said of the entries of its directory
use Rattle.std.specs.Prelude.{ℕ, List, ◌≡◌, ◌<◌, ◌≤◌, ◌-◌, ◌/◌, ◌^◌, true, length, slice_index, Option, Some, ◌↔◌}
use Rattle.std.specs.Ordering.{nat_cmp}
use Rattle.std.specs.FinSet as set
use Rattle.mlt_page.specs.{Bits.first_bits, Slots.is_kept, Slots.key_of, Values.BucketFields, declared.page.Page.Page}
use Rattle.mlt_hash_form.specs.Form.{slot_at}
use Rattle.mlt_hash_form.specs.File.{FilePages, entry, header_of, depth_of, dirs_of, buckets_of, IsOnceLive}

-- a page of the directory is full, and a bucket has eight slots
abbrev pub IsDirPage : Option Page → Type 0
IsDirPage p = (dir : List ℕ) × (p ≡ Some (Page.Dir dir)) × (length dir ≡ 256)

abbrev pub IsBucketPage : Option Page → BucketFields → Type 0
IsBucketPage p bucket = (p ≡ Some (Page.Bucket bucket)) × (length bucket.slots ≡ 8)

-- of the places of a directory of depth g, those that name page n are just those of one prefix of l bits; there
-- are 2^(g-l) of them
abbrev pub HasOnePrefix : (ℕ → ℕ) → ℕ → ℕ → ℕ → Type 0
HasOnePrefix names g l n =
    (prefix : ℕ) × (prefix < 2 ^ l)
    × ((place : ℕ) → place < 2 ^ g → (names place ≡ n) ↔ (place / 2 ^ (g - l) ≡ prefix))

-- the bucket page that the directory of these pages names at a place
abbrev pub named_at : FilePages → ℕ → ℕ → ℕ
named_at pages root place = entry pages (dirs_of pages root) place

-- An extendible hash file: its header, its directory, and where its records and ghosts lie.
-- `HasForm` says nearly the same, of pseudokeys.
pub record IsExtendibleHashFile (bits : ℕ → ℕ) (active : set.FinSet nat_cmp) (pages : FilePages)
    (root : ℕ) : Type 0 where
  -- the header names the depth g, at most 16, and the directory's pages: one where g is at most 8, and above
  -- that 2^(g-8); each is of 256 entries, and none stands twice
  pub header : pages root ≡ Some (Page.Head (header_of (pages root)))
  pub small : depth_of pages root ≤ 16
  pub directory : (q : ℕ) → q < 2 ^ (depth_of pages root - 8)
      → IsDirPage (pages (slice_index (dirs_of pages root) q))
  pub apart : (q r : ℕ) → q < 2 ^ (depth_of pages root - 8) → r < 2 ^ (depth_of pages root - 8)
      → slice_index (dirs_of pages root) q ≡ slice_index (dirs_of pages root) r → q ≡ r
  -- each of the 2^g entries names a bucket page
  pub named : (place : ℕ) → place < 2 ^ depth_of pages root
      → (bucket : BucketFields) × IsBucketPage (pages (named_at pages root place)) bucket
  -- those that name a bucket page of depth l are just the 2^(g-l) places of one prefix of l bits
  pub prefix : (n : ℕ) (bucket : BucketFields) → IsBucketPage (pages n) bucket
      → (bucket.depth ≤ depth_of pages root)
      × HasOnePrefix (named_at pages root) (depth_of pages root) bucket.depth n
  -- each record, and each ghost of an open owner, lies in the bucket that the first g bits of its key lead to
  pub home : (n i : ℕ) → let slot = slot_at (buckets_of pages) n i in
      is_kept active slot ≡ true
      → named_at pages root (first_bits (depth_of pages root) (bits (key_of slot))) ≡ n
  -- no key has two live slots
  pub once : IsOnceLive pages
