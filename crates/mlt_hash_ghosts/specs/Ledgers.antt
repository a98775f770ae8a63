-- What the laws of ghosts are about: a file, its transactions, and what these did to the presence of its keys
use Rattle.std.specs.Prelude.{ℕ, ◌≡◌, Bool, true, List, Option, Some}
use Rattle.std.specs.Ordering.{nat_cmp}
use Rattle.std.specs.FinSet as set
use Rattle.mlt_page.specs.declared.slot.Slot.{Slot}
use Rattle.mlt_hash_form.specs.File.{FilePages, buckets_of, lead_of}
use Rattle.mlt_hash_ghosts.specs.Operations.{Presence, Standing, last_of}

-- What the laws of ghosts are about: a file, its transactions, and what these did to the presence
-- of keys.
pub record Ledger : Type 0 where
  -- the file: the function from keys to pseudokeys, the page of the header, and the clean pages
  pub bits : ℕ → ℕ
  pub root : ℕ
  pub pages : FilePages
  -- The transactions: the numbers up to `begun` were given out, `active` are open, and `undoing` tells those whose
  -- abort has begun.
  pub begun : ℕ
  pub active : set.FinSet nat_cmp
  pub undoing : ℕ → Bool
  -- their operations on keys' presence that stand
  pub standing : Standing

-- the transaction is open
abbrev pub IsOpenIn : Ledger → ℕ → Type 0
IsOpenIn ledger owner = set.contains ledger.active owner ≡ true

-- the bucket page that a key leads to
abbrev pub home_of : Ledger → ℕ → ℕ
home_of ledger key = lead_of ledger.pages ledger.root (ledger.bits key)

-- the slots of the bucket that a key leads to
abbrev pub home_slots : Ledger → ℕ → List Slot
home_slots ledger key = (buckets_of ledger.pages (home_of ledger key)).slots

-- the last standing operation of a transaction on the presence of a key, if there is one
abbrev pub last_by : Ledger → ℕ → ℕ → Option Presence
last_by ledger owner key = last_of (ledger.standing owner key)

-- no other open transaction has p as the last of its standing operations on the key
abbrev pub NoOtherLast : Ledger → ℕ → ℕ → Presence → Type 0
NoOtherLast ledger owner key p =
    (other : ℕ) → IsOpenIn ledger other → (other ≡ owner → ⊥)
    → last_by ledger other key ≡ Some p → ⊥
