-- What the pages of a manager mean
use Rattle.std.specs.Prelude.{ℕ, ◌≡◌, ◌↔◌, ◌<◌, ◌+◌, ◌*◌, ◌^◌, Option, None, Some, is_some, slice_index_or, unwrap_or}
use Rattle.std.specs.Ordering.{nat_cmp}
use Rattle.std.specs.FinMap as map
use Rattle.mlt_object_kinds.specs.Bases.{Base, counter_at, element_at, size_at}
use Rattle.mlt_page.specs.{Values.BucketFields, declared.page.Page.Page, declared.page.Page.TheVariants.Bucket, declared.slot.Slot.TheVariants.Free, declared.slot.Slot.TheVariants.Live}

-- slot i of a bucket page is live
abbrev pub IsLiveAt : map.FinMap nat_cmp Page → ℕ → ℕ → ℕ → ℕ → Type 0
IsLiveAt pages number i key value =
    (bucket : BucketFields) × (map.get pages number ≡ Some (Bucket bucket))
    × (slice_index_or bucket.slots i Free ≡ Live key value)

-- the value of the key's live slot, None where it has none
pub record IsRecordOf (pages : map.FinMap nat_cmp Page) (key : ℕ) (live : Option ℕ) : Type 0 where
  pub some : (value : ℕ) → ((number : ℕ) × (i : ℕ) × IsLiveAt pages number i key value) ↔ (live ≡ Some value)
  pub once : (n m i j v w : ℕ) → IsLiveAt pages n i key v → IsLiveAt pages m j key w → (n ≡ m) × (i ≡ j)

-- in range this holds of the record of the key, and beyond as of no record
abbrev pub HoldsIn : map.FinMap nat_cmp Page → Type 0 → ℕ → (Option ℕ → Type 0) → Type 0
HoldsIn pages InRange key Holds =
    (InRange → (live : Option ℕ) × IsRecordOf pages key live × Holds live) × ((InRange → ⊥) → Holds None)

-- the base has what the records of the keys say
pub record PagesMean (pages : map.FinMap nat_cmp Page) (b : Base) : Type 0 where
  pub accounts : (a : ℕ) → HoldsIn pages (a < 2 ^ 32) (2 ^ 48 + a) (λ live. map.get b.accounts a ≡ live)
  pub counters : (c : ℕ) → HoldsIn pages (c < 2 ^ 32) (2 * 2 ^ 48 + c) (λ live. counter_at b c ≡ unwrap_or live 0)
  pub elements : (s e : ℕ) → HoldsIn pages ((s < 2 ^ 16) × (e < 2 ^ 32)) (3 * 2 ^ 48 + s * 2 ^ 32 + e)
      (λ live. element_at b s e ≡ is_some live)
  pub sizes : (s : ℕ) → HoldsIn pages (s < 2 ^ 16) (4 * 2 ^ 48 + s) (λ live. size_at b s ≡ unwrap_or live 0)
