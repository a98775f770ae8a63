-- The live pairs of a bucket, and what a change makes of them
use Rattle.std.specs.Prelude.{ℕ, ◌≡◌, List, slice_index_or, Option, Some, ◌↔◌}
use Rattle.mlt_page.specs.declared.slot.Slot.{Slot, TheVariants.Free, TheVariants.Live}

-- the key and the value stand in a live slot
abbrev pub IsPair : List Slot → ℕ → ℕ → Type 0
IsPair slots key value = (i : ℕ) × (slice_index_or slots i Free ≡ Live key value)

-- the key has one live slot at most
abbrev pub HasOnePair : List Slot → ℕ → Type 0
HasOnePair slots key = (i j v w : ℕ)
    → slice_index_or slots i Free ≡ Live key v → slice_index_or slots j Free ≡ Live key w → i ≡ j

-- afterwards the key has this value, or none; the pairs of all other keys are as before
pub record SetsPair (before after : List Slot) (key : ℕ) (value : Option ℕ) : Type 0 where
  pub here : (v : ℕ) → IsPair after key v ↔ (value ≡ Some v)
  pub others : (k v : ℕ) → (k ≡ key → ⊥) → IsPair after k v ↔ IsPair before k v
