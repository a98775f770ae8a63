-- Where the descent of one key stands: what it has read, and which pages it holds. Each fact is about these pages alone, so that
-- what other transactions do can't touch it.
use Rattle.std.specs.Prelude.{ℕ, ◌≡◌, ◌⊎◌, Option, None, Some}
use Rattle.mlt_types.specs.declared.mode.Mode.{Mode, TheVariants.Exclusive, TheVariants.Shared}
use Rattle.mlt_page.specs.{declared.page.Page.Page, Values.HeadFields}
use Rattle.mlt_hash_form.specs.File.{dir_of, place_of, row_of}
use Rattle.mlt_hash_access.specs.{Reading.HasReadBucket, Reading.HasReadPlace, Views.View}
use Rattle.mlt_hash_pair.specs.declared.descent.Descent.{Descent}

-- the header is read
pub record IsHeaded (bits : ℕ → ℕ) (root key : ℕ) (view : View) (place dir row : ℕ) : Type 0 where
  pub header : HeadFields
  pub head : view.seen root ≡ Some (Some (Page.Head header))
  pub place_is : place ≡ place_of header (bits key)
  pub dir_is : dir ≡ dir_of header (bits key)
  pub row_is : row ≡ row_of header (bits key)

-- what the descent of a key has read, which the clean pages have
abbrev pub HasRead : (ℕ → ℕ) → ℕ → ℕ → View → Descent → Type 0
HasRead bits root key view Descent.Start = Unit {0}
HasRead bits root key view (Descent.Headed place dir row) = IsHeaded bits root key view place dir row
HasRead bits root key view (Descent.Placed dir bucket) = HasReadPlace bits root key view dir bucket
HasRead bits root key view (Descent.AtBucket dir bucket found) =
    HasReadBucket bits root key view dir bucket found

-- Page q is locked for this descent, in this mode: the header and the directory page shared, and the bucket exclusively.
abbrev pub IsLocked : ℕ → Descent → ℕ → Mode → Type 0
IsLocked root Descent.Start q mode = ⊥
IsLocked root (Descent.Headed place dir row) q mode = (q ≡ root) × (mode ≡ Shared)
IsLocked root (Descent.Placed dir bucket) q mode = ((q ≡ root) ⊎ (q ≡ dir)) × (mode ≡ Shared)
IsLocked root (Descent.AtBucket dir bucket found) q mode =
    (((q ≡ root) ⊎ (q ≡ dir)) × (mode ≡ Shared)) ⊎ ((q ≡ bucket) × (mode ≡ Exclusive))

-- page q is the next one of the descent
abbrev pub IsNext : ℕ → Descent → ℕ → Type 0
IsNext root Descent.Start q = q ≡ root
IsNext root (Descent.Headed place dir row) q = q ≡ dir
IsNext root (Descent.Placed dir bucket) q = q ≡ bucket
IsNext root (Descent.AtBucket dir bucket found) q = ⊥

-- how many pages the descent has still to read
abbrev pub pages_to_read : Descent → ℕ
pages_to_read Descent.Start = 3
pages_to_read (Descent.Headed place dir row) = 2
pages_to_read (Descent.Placed dir bucket) = 1
pages_to_read (Descent.AtBucket dir bucket found) = 0

-- a descent is at its bucket; the page of the bucket, and what was found there
abbrev pub IsThere : Descent → Type 0
IsThere (Descent.AtBucket dir bucket found) = Unit {0}
IsThere other = ⊥

abbrev pub page_of : Descent → ℕ
page_of (Descent.AtBucket dir bucket found) = bucket
page_of other = 0

abbrev pub found_of : Descent → Option ℕ
found_of (Descent.AtBucket dir bucket found) = found
found_of other = None
