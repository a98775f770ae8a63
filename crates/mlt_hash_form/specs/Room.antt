-- When an addition finds no room, however far the directory is split
use Rattle.std.specs.Prelude.{ℕ, ◌≡◌, ◌<◌, ◌==◌, ◌&&◌, Bool, true, List}
use Rattle.std.specs.{List.list_all, Ordering.nat_cmp}
use Rattle.std.specs.FinSet as set
use Rattle.mlt_page.specs.{Bits.first_bits, Slots.is_kept, Slots.key_of, Values.BucketFields, declared.slot.Slot.Slot}
use Rattle.mlt_hash_form.specs.Form.{slot_at}

-- a record or an open transaction's ghost, whose key agrees with the pseudokey x in the first d bits: it takes room
-- from x in a bucket of depth d
abbrev pub crowds : (ℕ → ℕ) → set.FinSet nat_cmp → ℕ → ℕ → Slot → Bool
crowds bits active d x s = is_kept active s && (first_bits d (bits (key_of s)) == first_bits d x)

-- the slots would leave no room for x in a bucket of depth d
abbrev pub is_crowded : (ℕ → ℕ) → set.FinSet nat_cmp → ℕ → ℕ → List Slot → Bool
is_crowded bits active d x slots = list_all (crowds bits active d x) slots

-- eight slots of the file agree with x in d bits: the i-th is slot `at i` of page `page i`
pub record IsCrowded (bits : ℕ → ℕ) (active : set.FinSet nat_cmp) (buckets : ℕ → BucketFields)
    (d x : ℕ) : Type 0 where
  pub page : ℕ → ℕ
  pub at : ℕ → ℕ
  pub differ : (i j : ℕ) → i < 8 → j < 8 → page i ≡ page j → at i ≡ at j → i ≡ j
  pub each : (i : ℕ) → i < 8 → crowds bits active d x (slot_at buckets (page i) (at i)) ≡ true
