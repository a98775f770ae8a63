-- A bucket as a page.
use Rattle.std.specs.Prelude.{ℕ, ◌≡◌}
use Rattle.mlt_page.specs.{declared.slot.Slot.Slot, declared.page.Page.Page, Values.BucketFields, Values.with_slot}

-- the page is a bucket
abbrev pub IsBucket : Page → Type 0
IsBucket this = (bucket : BucketFields) × (this ≡ Page.Bucket bucket)

-- the page of a bucket that has slot i set to s
abbrev pub page_with_slot : BucketFields → ℕ → Slot → Page
page_with_slot bucket i s = Page.Bucket (with_slot bucket i s)
