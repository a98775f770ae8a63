-- Classes of operations of all kinds, and sets of them as the bits of a number.
use Rattle.std.specs.Prelude.{ℕ, ◌≡◌, ◌⊎◌, Bool, true, false, Option, None, Some, option_map}
use Rattle.std.specs.Int.{bit_at}
use Rattle.mlt_object_kinds.specs.declared.operation.{ObjOp.ObjOp, ObjReply.ObjReply}
use Rattle.mlt_object_conflicts.specs.{declared.accounts.AccountClass.AccountClass, declared.elements.ElementClass.ElementClass, declared.counters.CounterClass.CounterClass, AccountTable.account_class, AccountTable.account_marks, CounterTable.counter_class, CounterTable.counter_marks, ElementTable.element_class, ElementTable.element_marks, Sizes.counts}
use Rattle.mlt_object_locks.specs.declared.classes.Class.{Class, TheVariants.Account, TheVariants.Element, TheVariants.Counter, TheVariants.Size}

-- the class of one that asks for the size of a set
abbrev pub size_class : ObjReply → Option Class
size_class (ObjReply.Is n) = Some Size
size_class _ = None

-- the class of an operation with its reply, None where the table of its kind has no such row
abbrev pub class_of : ObjOp × ObjReply → Option Class
class_of (ObjOp.Account a asked, told) = option_map Account (account_class asked told)
class_of (ObjOp.Element s e asked, told) = option_map Element (element_class asked told)
class_of (ObjOp.Counter c asked, told) = option_map Counter (counter_class asked told)
class_of (ObjOp.Size s, told) = size_class told

-- The table of their kind marks the two, held and then requested; or the one tells a size, and the other changes it.
abbrev pub marks : Class → Class → Bool
marks (Account held) (Account requested) = account_marks held requested
marks (Element held) (Element requested) = element_marks held requested
marks (Counter held) (Counter requested) = counter_marks held requested
marks (Element held) Size = counts held
marks Size (Element requested) = counts requested
marks _ _ = false

-- the bit of a class
abbrev pub bit_of : Class → ℕ
bit_of (Account AccountClass.Opened) = 0
bit_of (Account AccountClass.Exists) = 1
bit_of (Account AccountClass.Closed) = 2
bit_of (Account AccountClass.NotEmpty) = 3
bit_of (Account AccountClass.Deposited) = 4
bit_of (Account AccountClass.Over) = 5
bit_of (Account AccountClass.Withdrawn) = 6
bit_of (Account AccountClass.Short) = 7
bit_of (Account AccountClass.Balance) = 8
bit_of (Account AccountClass.Missing) = 9
bit_of (Element ElementClass.Added) = 10
bit_of (Element ElementClass.Present) = 11
bit_of (Element ElementClass.Removed) = 12
bit_of (Element ElementClass.Absent) = 13
bit_of (Element ElementClass.Yes) = 14
bit_of (Element ElementClass.No) = 15
bit_of (Counter CounterClass.Counted) = 16
bit_of (Counter CounterClass.Read) = 17
bit_of Size = 18

-- the bit of an operation's class, where it has one
abbrev pub bit_of_item : ObjOp × ObjReply → Option ℕ
bit_of_item item = option_map bit_of (class_of item)

-- the bit is one of the set
abbrev pub InSet : ℕ → ℕ → Type 0
InSet set bit = bit_at set bit ≡ 1

-- the new set has the bit, and else what the old one has
pub record Adds (old new bit : ℕ) : Type 0 where
  pub has : InSet new bit
  pub keeps : (k : ℕ) → InSet old k → InSet new k
  pub only : (k : ℕ) → InSet new k → InSet old k ⊎ (k ≡ bit)

-- the same of a bit, where there is one
pub record AddsItem (old new : ℕ) (bit : Option ℕ) : Type 0 where
  pub has : (k : ℕ) → bit ≡ Some k → InSet new k
  pub keeps : (k : ℕ) → InSet old k → InSet new k
  pub only : (k : ℕ) → InSet new k → InSet old k ⊎ (bit ≡ Some k)

-- the set has the bits of both others
pub record IsUnion (set one other : ℕ) : Type 0 where
  pub has_one : (k : ℕ) → InSet one k → InSet set k
  pub has_other : (k : ℕ) → InSet other k → InSet set k

-- two sets have a bit in common
abbrev pub Meets : ℕ → ℕ → Type 0
Meets one other = (k : ℕ) × InSet one k × InSet other k

-- the set has the bits of the held classes that are marked beside the requested one, and no others
pub record IsColumn (set : ℕ) (requested : Class) : Type 0 where
  pub has : (held : Class) → marks held requested ≡ true → InSet set (bit_of held)
  pub only : (k : ℕ) → InSet set k → (held : Class) × (bit_of held ≡ k) × (marks held requested ≡ true)

-- a held class of this bit is marked beside that of the requested operation
abbrev pub Hinders : ℕ → ObjOp × ObjReply → Type 0
Hinders bit requested =
    (held class : Class) × (class_of requested ≡ Some class) × (bit_of held ≡ bit) × (marks held class ≡ true)

-- the set has the bits that hinder the requested operation, and no others
pub record AreInTheWay (set : ℕ) (requested : ObjOp × ObjReply) : Type 0 where
  pub has : (k : ℕ) → Hinders k requested → InSet set k
  pub only : (k : ℕ) → InSet set k → Hinders k requested
