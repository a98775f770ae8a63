-- A hash file in pages: its header, the pages of its directory, and its buckets. Pages are seen as a look-up by
-- page number; `root` is the page of the header.
use Rattle.std.specs.Prelude.{ℕ, ◌≡◌, ◌<◌, ◌≤◌, ◌-◌, ◌/◌, ◌%◌, ◌^◌, List, [], length, slice_index, Option, Some, None}
use Rattle.mlt_page.specs.{Bits.first_bits, declared.slot.Slot.TheVariants.Live, Values.BucketFields, Values.HeadFields, declared.page.Page.Page}
use Rattle.mlt_hash_form.specs.Form.{IsSpread, HasSlot, slot_at, value_by_lead}

-- the page of each number, if there is one
abbrev pub FilePages : Type 0
FilePages = ℕ → Option Page

-- a function from keys to pseudokeys, which have 64 bits
abbrev pub GivesPseudokeys : (ℕ → ℕ) → Type 0
GivesPseudokeys bits = (key : ℕ) → bits key < 2 ^ 64

-- the three readings of a page, each empty for a page of another kind
abbrev pub header_of : Option Page → HeadFields
header_of (Some (Page.Head header)) = header
header_of (Some (Page.Dir dir)) = record { depth = 0; dirs = [] }
header_of (Some (Page.Bucket bucket)) = record { depth = 0; dirs = [] }
header_of None = record { depth = 0; dirs = [] }

abbrev pub entries_of : Option Page → List ℕ
entries_of (Some (Page.Head header)) = []
entries_of (Some (Page.Dir dir)) = dir
entries_of (Some (Page.Bucket bucket)) = []
entries_of None = []

-- the bucket that a page is, and an empty one of depth 0 for any other page
abbrev pub bucket_of : Option Page → BucketFields
bucket_of (Some (Page.Head header)) = record { depth = 0; slots = [] }
bucket_of (Some (Page.Dir dir)) = record { depth = 0; slots = [] }
bucket_of (Some (Page.Bucket bucket)) = bucket
bucket_of None = record { depth = 0; slots = [] }

-- the depth and the pages of the directory, as the header has them
abbrev pub depth_of : FilePages → ℕ → ℕ
depth_of pages root = (header_of (pages root)).depth

abbrev pub dirs_of : FilePages → ℕ → List ℕ
dirs_of pages root = (header_of (pages root)).dirs

-- the entry at a place of the directory on these pages
abbrev pub entry : FilePages → List ℕ → ℕ → ℕ
entry pages dirs place =
    slice_index (entries_of (pages (slice_index dirs (place / 256)))) (place % 256)

-- the bucket page that a pseudokey leads to, and the bucket on each page
abbrev pub lead_of : FilePages → ℕ → ℕ → ℕ
lead_of pages root x =
    entry pages (header_of (pages root)).dirs (first_bits (header_of (pages root)).depth x)

abbrev pub buckets_of : FilePages → ℕ → BucketFields
buckets_of pages n = bucket_of (pages n)

-- the directory has as many full pages as its depth asks for, and no page stands twice
pub record IsDirectory (pages : FilePages) (depth : ℕ) (dirs : List ℕ) : Type 0 where
  pub small : depth ≤ 16
  pub full : (q : ℕ) → q < 2 ^ (depth - 8)
      → length (entries_of (pages (slice_index dirs q))) ≡ 256
  pub once : (q r : ℕ) → q < 2 ^ (depth - 8) → r < 2 ^ (depth - 8)
      → slice_index dirs q ≡ slice_index dirs r → q ≡ r

-- the pages have the form of an extendible hash file
pub record HasForm (bits : ℕ → ℕ) (pages : FilePages) (root : ℕ) : Type 0 where
  pub head : pages root ≡ Some (Page.Head (header_of (pages root)))
  pub listed : IsDirectory pages (header_of (pages root)).depth (header_of (pages root)).dirs
  pub form : IsSpread bits (header_of (pages root)).depth (lead_of pages root) (buckets_of pages)

-- the pages have a record: its key and its value stand in a live slot of some bucket
abbrev pub HasRecord : FilePages → ℕ → ℕ → Type 0
HasRecord pages key value = HasSlot (buckets_of pages) (Live key value)

-- the records are defined: no key stands in two live slots
abbrev pub IsOnceLive : FilePages → Type 0
IsOnceLive pages = (n m i j key v w : ℕ)
    → slot_at (buckets_of pages) n i ≡ Live key v → slot_at (buckets_of pages) m j ≡ Live key w
    → (n ≡ m) × (i ≡ j)

-- the look-up of a key
abbrev pub look_up : (ℕ → ℕ) → FilePages → ℕ → ℕ → Option ℕ
look_up bits pages root key = value_by_lead bits (lead_of pages root) (buckets_of pages) key

-- by a header: the place of a pseudokey's directory page, that page, and the pseudokey's entry there
abbrev pub place_of : HeadFields → ℕ → ℕ
place_of header x = first_bits header.depth x / 256

abbrev pub dir_of : HeadFields → ℕ → ℕ
dir_of header x = slice_index header.dirs (place_of header x)

abbrev pub row_of : HeadFields → ℕ → ℕ
row_of header x = first_bits header.depth x % 256

-- what three steps by a pseudokey read: the header, the directory page of its place, and the bucket named there
pub record IsPath (pages : FilePages) (root x : ℕ) (header : HeadFields) (dir : List ℕ) (n : ℕ)
    (bucket : BucketFields) : Type 0 where
  pub head : pages root ≡ Some (Page.Head header)
  pub listed : pages (dir_of header x) ≡ Some (Page.Dir dir)
  pub at : slice_index dir (row_of header x) ≡ n
  pub found : pages n ≡ Some (Page.Bucket bucket)

-- a path leads from the header, whose depth is at most 16, to this bucket on page n
abbrev pub LeadsTo : FilePages → ℕ → ℕ → ℕ → BucketFields → Type 0
LeadsTo pages root x n bucket =
    (header : HeadFields) × (dir : List ℕ) × (header.depth ≤ 16)
    × IsPath pages root x header dir n bucket

-- page n becomes p, and no other page changes
pub record Writes (pages pages' : FilePages) (n : ℕ) (p : Page) : Type 0 where
  pub here : pages' n ≡ Some p
  pub others : (m : ℕ) → (m ≡ n → ⊥) → pages' m ≡ pages m
