-- Ghosts, and the operations for whose sake they are there
use Rattle.std.specs.Prelude.{ℕ, ◌≡◌, ◌≤◌, Bool, false, [], Option, Some, None}
use Rattle.mlt_page.specs.declared.slot.Slot.TheVariants.{Ghost}
use Rattle.mlt_hash_form.specs.{Form.slot_at, File.FilePages, File.HasRecord, File.buckets_of, File.lead_of}
use Rattle.mlt_hash_ghosts.specs.{Ledgers.IsOpenIn, Ledgers.Ledger, Ledgers.last_by, Operations.Presence, Operations.Added, Operations.Removed, Operations.TakeTurns}

-- a ghost of the transaction and key, with value 0, stands in the bucket that the key's bits lead to
abbrev pub HasGhost : (ℕ → ℕ) → FilePages → ℕ → ℕ → ℕ → Type 0
HasGhost bits pages root owner key =
    (i : ℕ) × (slot_at (buckets_of pages) (lead_of pages root (bits key)) i ≡ Ghost key 0 owner)

-- no live slot has the key
abbrev pub IsAbsent : FilePages → ℕ → Type 0
IsAbsent pages key = (value : ℕ) → HasRecord pages key value → ⊥

-- a ghost of the transaction and key stands in slot i of page n
abbrev pub IsGhostAt : FilePages → ℕ → ℕ → ℕ → ℕ → Type 0
IsGhostAt pages owner key n i =
    (value : ℕ) × (slot_at (buckets_of pages) n i ≡ Ghost key value owner)

-- it stands in this slot alone, if anywhere
abbrev pub HasOneGhost : FilePages → ℕ → ℕ → Type 0
HasOneGhost pages owner key = (n i m j : ℕ)
    → IsGhostAt pages owner key n i → IsGhostAt pages owner key m j → (n ≡ m) × (i ≡ j)

-- Where the last standing operation of an open transaction on a key is a removal, its ghost stands
-- where the key leads, and no live slot has the key. An open transaction has at most one ghost of a
-- key.
pub record GhostsAreKept (ledger : Ledger) : Type 0 where
  pub ghost : (owner key : ℕ) → IsOpenIn ledger owner → last_by ledger owner key ≡ Some Removed
      → HasGhost ledger.bits ledger.pages ledger.root owner key
  pub absent : (owner key : ℕ) → IsOpenIn ledger owner → last_by ledger owner key ≡ Some Removed
      → IsAbsent ledger.pages key
  pub once : (owner key : ℕ) → IsOpenIn ledger owner → HasOneGhost ledger.pages owner key

-- What the pages have of a key for one open transaction, by the last of its standing operations on the key's
-- presence
pub record IsInStep (bits : ℕ → ℕ) (undoing : Bool) (last : Option Presence) (pages : FilePages)
    (root owner key : ℕ) : Type 0 where
  -- a removal: its ghost is there, and the key is absent
  pub ghost : last ≡ Some Removed → HasGhost bits pages root owner key
  pub absent : last ≡ Some Removed → IsAbsent pages key
  -- an addition: the key is present, and the transaction has no ghost of it
  pub present : last ≡ Some Added → (value : ℕ) × HasRecord pages key value
  pub revived : last ≡ Some Added → (n i : ℕ) → IsGhostAt pages owner key n i → ⊥
  -- it has at most one ghost of the key; and before its abort begins, one only for a removal
  pub once : HasOneGhost pages owner key
  pub forward : undoing ≡ false → (n i : ℕ) → IsGhostAt pages owner key n i → last ≡ Some Removed

-- What keeps the ghosts kept: for each key and open transaction the pages have what its last
-- standing operation on the key asks for.
pub record PagesMatchOperations (ledger : Ledger) : Type 0 where
  pub step : (owner key : ℕ) → IsOpenIn ledger owner
      → IsInStep ledger.bits (ledger.undoing owner) (last_by ledger owner key) ledger.pages
      ledger.root owner key
  -- a transaction adds and removes a key in turns, and no two open ones have standing operations on its presence
  pub turns : (owner key : ℕ) → IsOpenIn ledger owner → TakeTurns None (ledger.standing owner key)
  pub alone : (one two key : ℕ) → IsOpenIn ledger one → IsOpenIn ledger two
      → (ledger.standing one key ≡ [] → ⊥) → (ledger.standing two key ≡ [] → ⊥) → one ≡ two
  -- numbers that were not given out are not open, and left no ghost
  pub opened : (owner : ℕ) → IsOpenIn ledger owner → owner ≤ ledger.begun
  pub left : (owner key n i : ℕ) → IsGhostAt ledger.pages owner key n i → owner ≤ ledger.begun
