-- What the slots of a bucket say, as functions of one slot; open transactions are a finite set of numbers.
use Rattle.std.specs.Prelude.{ℕ, ◌==◌, Bool, true, false, ◌&&◌}
use Rattle.std.specs.Ordering.{nat_cmp}
use Rattle.std.specs.FinSet as set
use Rattle.mlt_page.specs.{Bits.bit_at, declared.slot.Slot.Slot, declared.slot.Slot.TheVariants.Free, declared.slot.Slot.TheVariants.Live, declared.slot.Slot.TheVariants.Ghost}

-- the slot has the record of the key
abbrev pub is_live_of : ℕ → Slot → Bool
is_live_of key Free = false
is_live_of key (Live own value) = own == key
is_live_of key (Ghost own value owner) = false

-- the slot has the ghost that this owner left of the key
abbrev pub is_ghost_of : ℕ → ℕ → Slot → Bool
is_ghost_of key owner Free = false
is_ghost_of key owner (Live own value) = false
is_ghost_of key owner (Ghost own value left_by) = (own == key) && (left_by == owner)

-- a record, or a ghost of an open transaction: its room is taken
abbrev pub is_kept : set.FinSet nat_cmp → Slot → Bool
is_kept active Free = false
is_kept active (Live key value) = true
is_kept active (Ghost key value owner) = set.contains active owner

-- the key of a slot that is not free; of a free one the number says nothing
abbrev pub key_of : Slot → ℕ
key_of Free = 0
key_of (Live key value) = key
key_of (Ghost key value owner) = key

-- the slot, where the test is true, and else a free one
abbrev pub kept_if : Bool → Slot → Slot
kept_if true s = s
kept_if false s = Free

-- what stands at a slot's place in one half of a split: the slot itself, where its room is taken and the
-- pseudokey of its key has this bit behind its first n, and else a free slot
abbrev pub half : (ℕ → ℕ) → set.FinSet nat_cmp → ℕ → ℕ → Slot → Slot
half bits active n bit s = kept_if (is_kept active s && (bit_at n (bits (key_of s)) == bit)) s
