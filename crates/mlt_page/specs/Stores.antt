-- What a contract sees of a store: its pages, by their numbers, and how many there may be.
use Rattle.std.specs.Prelude.{ℕ, ◌≡◌, Option, Some, refl}
use Rattle.std.specs.{Ordering.nat_cmp, Coded.Coded, Coded.code_by, Coded.coded×, Coded.coded_ℕ}
use Rattle.std.specs.FinMap as map
use Rattle.mlt_page.specs.{declared.page.Page.Page, declared.slot.Slot.Slot, contracts.page.Page.the_row, Values.BucketFields, Pages.page_with_slot}

-- a finite map from page numbers to pages
abbrev pub Pages : Type 0
Pages = map.FinMap nat_cmp Page

-- the page of a number, if there is one
abbrev pub page_at : Pages → ℕ → Option Page
page_at pages number = map.get pages number

-- a store: its pages by their numbers, and how many there may be
pub record PageStore : Type 0 where
  pub pages : Pages
  pub max_pages : ℕ

-- a store is stored as the pair of its fields
abbrev pub coded_store : Coded PageStore
coded_store =
    code_by (Pages × ℕ)
    (coded× (map.code coded_ℕ the_row.coded) coded_ℕ)
    (λ s. (s.pages, s.max_pages))
    (λ p. record { pages = p.0; max_pages = p.1 })
    (λ _. refl)

-- the page of this number is a bucket
abbrev pub HasBucketAt : Pages → ℕ → Type 0
HasBucketAt pages number = (bucket : BucketFields) × (page_at pages number ≡ Some (Page.Bucket bucket))

-- the page of this number, which is a bucket, has slot i set to s, and nothing else changes
abbrev pub SetsSlot : PageStore → PageStore → ℕ → ℕ → Slot → Type 0
SetsSlot old new number i s = (bucket : BucketFields) → page_at old.pages number ≡ Some (Page.Bucket bucket)
    → new ≡ record old { pages = map.insert old.pages number (page_with_slot bucket i s) }
