-- The slot of a key's record
use Rattle.std.proofs.Common.{◌≡◌, ℕ, List, Some, true, refl, slice_index_or, position}
use Rattle.std.proofs.lemmas.{Bool.false≢true, List.Quantifiers.position-Some}
use Rattle.mlt_hash_form.proofs.Names.{is_live_of, Slot, Free, Live, Ghost}

live_slot : (key : ℕ) (slot : Slot) → is_live_of key slot ≡ true → (own : ℕ) × (value : ℕ) × (slot ≡ Live own value)
live_slot key Free live = absurd (false≢true live)
live_slot key (Live own value) live = (own, value, refl)
live_slot key (Ghost own value owner) live = absurd (false≢true live)

-- where a search for a record ends, there is one
pub finds_record : (key : ℕ) (slots : List Slot) (i : ℕ) (other : Slot) → position (is_live_of key) slots ≡ Some i → ((own value : ℕ) → slice_index_or slots i other ≡ Live own value → ⊥) → ⊥
finds_record key slots i other found no_record =
    let slot = live_slot key (slice_index_or slots i other) (position-Some (is_live_of key) slots i other found).1 in
    no_record slot.0 slot.1 slot.2
