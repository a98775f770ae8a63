-- An extendible hash file apart from its directory: the bucket page that each pseudokey leads to (`lead`), and
-- the bucket on each page (`buckets`; of a page that is no bucket, one without slots).
use Rattle.std.specs.Prelude.{ℕ, ◌≡◌, ◌<◌, ◌≤◌, ◌+◌, ◌^◌, Bool, true, false, List, length, slice_index_or, slice_set, map, Option, option_map, position}
use Rattle.std.specs.Ordering.{nat_cmp}
use Rattle.std.specs.FinSet as set
use Rattle.mlt_page.specs.{Bits.first_bits, Bits.bit_at, Slots.is_live_of, Slots.key_of, Slots.half, declared.slot.Slot.Slot, declared.slot.Slot.TheVariants.Free, declared.slot.Slot.TheVariants.Live, declared.slot.Slot.TheVariants.Ghost, Values.BucketFields}

-- slot i of page n; it reads as free where the page has no such slot
abbrev pub slot_at : (ℕ → BucketFields) → ℕ → ℕ → Slot
slot_at buckets n i = slice_index_or (buckets n).slots i Free

-- this slot stands in some bucket
abbrev pub HasSlot : (ℕ → BucketFields) → Slot → Type 0
HasSlot buckets s = (n : ℕ) × (i : ℕ) × (slot_at buckets n i ≡ s)

-- a record or a ghost, whoever left it
abbrev pub is_used : Slot → Bool
is_used Free = false
is_used (Live key value) = true
is_used (Ghost key value owner) = true

-- The form of the file, with a directory of this depth. Only `fine` speaks of the depth.
pub record IsSpread (bits : ℕ → ℕ) (depth : ℕ) (lead : ℕ → ℕ) (buckets : ℕ → BucketFields)
    : Type 0 where
  -- each pseudokey leads to a bucket, no deeper than the directory
  pub whole : (x : ℕ) → x < 2 ^ 64 → length (buckets (lead x)).slots ≡ 8
  pub fine : (x : ℕ) → x < 2 ^ 64 → (buckets (lead x)).depth ≤ depth
  -- the pseudokeys that lead to a bucket of depth l are just those of one prefix of l bits
  pub apart : (x y : ℕ) → x < 2 ^ 64 → y < 2 ^ 64 → lead x ≡ lead y
      → first_bits (buckets (lead x)).depth x ≡ first_bits (buckets (lead x)).depth y
  pub together : (x y : ℕ) → x < 2 ^ 64 → y < 2 ^ 64
      → first_bits (buckets (lead x)).depth x ≡ first_bits (buckets (lead x)).depth y
      → lead x ≡ lead y
  -- each bucket has a pseudokey that leads to it
  pub reached : (n : ℕ) → length (buckets n).slots ≡ 8 → (x : ℕ) × (x < 2 ^ 64) × (lead x ≡ n)
  -- each record and each ghost lies where its key leads
  pub home : (n i : ℕ) → is_used (slot_at buckets n i) ≡ true
      → lead (bits (key_of (slot_at buckets n i))) ≡ n
  -- a key has one live slot at most
  pub once : (n i j key v w : ℕ)
      → slot_at buckets n i ≡ Live key v → slot_at buckets n j ≡ Live key w → i ≡ j

-- the value of a record or of a ghost; of a free slot the number says nothing
abbrev pub slot_value : Slot → ℕ
slot_value Free = 0
slot_value (Live key value) = value
slot_value (Ghost key value owner) = value

-- the value of a key's first live slot, if there is one
abbrev pub value_in : ℕ → List Slot → Option ℕ
value_in key slots =
    option_map (λ i. slot_value (slice_index_or slots i Free)) (position (is_live_of key) slots)

-- what is found of a key where it leads
abbrev pub value_by_lead : (ℕ → ℕ) → (ℕ → ℕ) → (ℕ → BucketFields) → ℕ → Option ℕ
value_by_lead bits lead buckets key = value_in key (buckets (lead (bits key))).slots

-- slot i of page n is set to s, and nothing else changes
pub record SetsOneSlot (buckets buckets' : ℕ → BucketFields) (n i : ℕ) (s : Slot) : Type 0 where
  pub depth : (buckets' n).depth ≡ (buckets n).depth
  pub slots : (buckets' n).slots ≡ slice_set (buckets n).slots i s
  pub others : (m : ℕ) → (m ≡ n → ⊥) → buckets' m ≡ buckets m

-- what setting slot i of page n to s asks for: the key of s leads there and is live in no other slot, and what
-- stood in the slot is no record of another key
pub record MaySet (bits : ℕ → ℕ) (lead : ℕ → ℕ) (buckets : ℕ → BucketFields) (n i : ℕ) (s : Slot)
    : Type 0 where
  pub within : i < length (buckets n).slots
  pub leads : lead (bits (key_of s)) ≡ n
  pub alone : (j w : ℕ) → slot_at buckets n j ≡ Live (key_of s) w → j ≡ i
  pub own : (key w : ℕ) → slot_at buckets n i ≡ Live key w → key ≡ key_of s

-- one half of a bucket that is split by the bit behind its depth
abbrev pub half_of : (ℕ → ℕ) → set.FinSet nat_cmp → BucketFields → ℕ → BucketFields
half_of bits active bucket bit = record {
  depth = bucket.depth + 1;
  slots = map (half bits active bucket.depth bit) bucket.slots;
}

-- a file apart from its directory
pub record Spread : Type 0 where
  pub lead : ℕ → ℕ
  pub buckets : ℕ → BucketFields

abbrev pub spread : (ℕ → ℕ) → (ℕ → BucketFields) → Spread
spread lead buckets = record { lead = lead; buckets = buckets }

-- The bucket on page n is split: the half of the bit 0 stays there, and the half of the bit 1 goes to page new.
-- The pseudokeys of the second half lead to page new, and all others as before.
pub record SplitsBucket (bits : ℕ → ℕ) (active : set.FinSet nat_cmp) (before after : Spread)
    (n new : ℕ) : Type 0 where
  pub zeros : after.buckets n ≡ half_of bits active (before.buckets n) 0
  pub ones : after.buckets new ≡ half_of bits active (before.buckets n) 1
  pub others : (m : ℕ) → (m ≡ n → ⊥) → (m ≡ new → ⊥) → after.buckets m ≡ before.buckets m
  pub goes : (x : ℕ) → x < 2 ^ 64
      → before.lead x ≡ n → bit_at (before.buckets n).depth x ≡ 1 → after.lead x ≡ new
  pub stays : (x : ℕ) → x < 2 ^ 64
      → (before.lead x ≡ n → bit_at (before.buckets n).depth x ≡ 1 → ⊥)
      → after.lead x ≡ before.lead x
