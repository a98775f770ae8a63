-- What a running walk knows of the pages that it holds, so that what other walks do on other pages can't touch it
use Rattle.std.specs.Prelude.{ℕ, ◌≡◌, ◌⊎◌, true, false, Option, Some, None, is_some, slice_index_or}
use Rattle.std.specs.Ordering.{nat_cmp}
use Rattle.std.specs.FinSet as set
use Rattle.mlt_page.specs.{Slots.is_kept, Values.BucketFields, declared.slot.Slot.Slot, declared.slot.Slot.TheVariants.Free, declared.page.Page.Page}
use Rattle.mlt_hash_form.specs.{Form.HasSlot, Form.is_used, Form.slot_at, File.FilePages, File.buckets_of, File.HasForm, Changes.ChangesRecord, Changes.SlotChange}

-- Of each page that a walk holds, what the clean pages have of it: None of a page that it doesn't hold, and
-- `Some None` of one that it made
abbrev pub SeenPages : Type 0
SeenPages = ℕ → Option (Option Page)

-- the walk's own page, where it wrote one, and else the clean page
abbrev pub own_or_clean : Option Page → Option Page → Option Page
own_or_clean None clean = clean
own_or_clean (Some own) clean = Some own

-- the clean pages with the walk's writes in place
abbrev pub over : FilePages → FilePages → FilePages
over clean own n = own_or_clean (own n) (clean n)

-- the clean pages are as the walk saw each page that it holds
abbrev pub Agrees : SeenPages → FilePages → Type 0
Agrees seen clean = (n : ℕ) (p : Option Page) → seen n ≡ Some p → clean n ≡ p

-- the slot stood on a page that the walk holds
abbrev pub StoodOnHeld : SeenPages → FilePages → Slot → Type 0
StoodOnHeld seen before t =
    (n : ℕ) × (i : ℕ) × (is_some (seen n) ≡ true) × (slot_at (buckets_of before) n i ≡ t)

-- The file has its form. A record or a ghost is lost only from a page that the walk holds, where
-- its room was not kept; and each that is there stood before at the same place of the same page, or
-- of one that the walk holds.
pub record RearrangesSlots (bits : ℕ → ℕ) (active : set.FinSet nat_cmp) (seen : SeenPages)
    (before after : FilePages) (root : ℕ) : Type 0 where
  pub form : HasForm bits after root
  pub lost : (t : Slot) → is_used t ≡ true → HasSlot (buckets_of before) t
      → HasSlot (buckets_of after) t ⊎ ((is_kept active t ≡ false) × StoodOnHeld seen before t)
  pub stood : (m i : ℕ) → is_used (slot_at (buckets_of after) m i) ≡ true
      → (o : ℕ) × (slot_at (buckets_of before) o i ≡ slot_at (buckets_of after) m i)
      × ((o ≡ m) ⊎ (is_some (seen o) ≡ true))

-- each slot of the bucket whose room is kept for these owners has it kept for those too
abbrev pub AreKeptToo : set.FinSet nat_cmp → set.FinSet nat_cmp → BucketFields → Type 0
AreKeptToo these those bucket =
    (i : ℕ) → is_kept these (slice_index_or bucket.slots i Free) ≡ true
    → is_kept those (slice_index_or bucket.slots i Free) ≡ true

-- so it is whatever the clean pages are elsewhere, if they have the form of a file, and have it with the walk's writes
abbrev pub WhereverClean : (ℕ → ℕ) → ℕ → SeenPages → FilePages → (FilePages → Type 0) → Type 0
WhereverClean bits root seen own Fact =
    (clean : FilePages) → Agrees seen clean → HasForm bits clean root
    → HasForm bits (over clean own) root → Fact clean

-- Whatever the clean pages are elsewhere, the walk's writes only rearrange slots. This remains true whatever other
-- walks do, since it names no state of theirs.
abbrev pub KeepsFile : (ℕ → ℕ) → set.FinSet nat_cmp → ℕ → SeenPages → FilePages → Type 0
KeepsFile bits active root seen own =
    (clean : FilePages) → Agrees seen clean → HasForm bits clean root
    → RearrangesSlots bits active seen clean (over clean own) root

-- Whatever the clean pages are elsewhere, the walk's writes rearrange slots (those up to `rest`), and then change one
-- record, by setting one slot.
pub record ChangesFile (bits : ℕ → ℕ) (active : set.FinSet nat_cmp) (root : ℕ) (seen : SeenPages)
    (rest own : FilePages) (change : SlotChange) : Type 0 where
  pub keeps : KeepsFile bits active root seen rest
  pub changes : (clean : FilePages) → Agrees seen clean → HasForm bits clean root
      → ChangesRecord bits (over clean rest) (over clean own) root change
