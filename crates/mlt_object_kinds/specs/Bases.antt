-- Bases: what all cells hold, without pages; and the runs of operations over them.
use Rattle.std.specs.Prelude.{◌≡◌, ◌≢◌, ◌==◌, ℕ, zero, suc, ◌+◌, Bool, true, false, Option, None, Some, is_some, List, [], ◌∷◌, refl}
use Rattle.std.specs.{declared.cmp.Ordering.Ordering, Ordering.nat_cmp, Ordering.ordering_then, Coded.Coded, Coded.code_by, Coded.coded_ℕ, Coded.coded×}
use Rattle.std.specs.FinMap as map
use Rattle.std.specs.FinSet as set
use Rattle.mlt_types.specs.{declared.cell.Cell.Cell, declared.cell.Cell.TheVariants.Account, declared.cell.Cell.TheVariants.Element, declared.cell.Cell.TheVariants.Counter, declared.cell.Cell.TheVariants.Size, Maps.with_entry}
use Rattle.mlt_object_kinds.specs.{declared.operation.ObjOp.ObjOp, declared.operation.ObjReply.ObjReply, declared.operation.ObjReply.TheVariants.Is, Cells.CellState, Cells.CellStep, Cells.CellState.AccountState, Cells.CellState.ElementState, Cells.CellState.CounterState, Cells.CellState.NoState, Operations.cell_of}

-- elements by their sets, and in one set by their numbers
abbrev pub element_cmp : ℕ × ℕ → ℕ × ℕ → Ordering
element_cmp x y = ordering_then (nat_cmp x.0 y.0) (nat_cmp x.1 y.1)

-- The balances of the accounts that there are; the elements that are in their sets, each as its set and its number;
-- and the values of the counters that are not 0, each less 1, so that no base has a counter at 0.
pub record Base : Type 0 where
  pub accounts : map.FinMap nat_cmp ℕ
  pub elements : map.FinMap element_cmp (Unit {0})
  pub counters : map.FinMap nat_cmp ℕ

-- a base is stored as its maps
abbrev pub coded_base : Coded Base
coded_base =
    code_by (map.FinMap nat_cmp ℕ × (map.FinMap element_cmp (Unit {0}) × map.FinMap nat_cmp ℕ))
    (coded× (map.code coded_ℕ coded_ℕ) (coded× (set.code (coded× coded_ℕ coded_ℕ)) (map.code coded_ℕ coded_ℕ)))
    (λ b. (b.accounts, (b.elements, b.counters)))
    (λ m. record { accounts = m.0; elements = m.1.0; counters = m.1.1 })
    (λ _. refl)

-- no account and no element, and every counter at 0
abbrev pub empty_base : Base
empty_base = record { accounts = map.empty; elements = map.empty; counters = map.empty }

-- the balance of an account, None where there is no such account
abbrev pub account_at : Base → ℕ → Option ℕ
account_at b a = map.get b.accounts a

-- whether an element is in its set
abbrev pub element_at : Base → ℕ → ℕ → Bool
element_at b s e = is_some (map.get b.elements (s, e))

-- the value of a counter of which this is kept
abbrev pub counter_value : Option ℕ → ℕ
counter_value None = 0
counter_value (Some less_one) = less_one + 1

-- the value of a counter
abbrev pub counter_at : Base → ℕ → ℕ
counter_at b c = counter_value (map.get b.counters c)

-- how many elements a set has
unfoldable pub size_at : Base → ℕ → ℕ
size_at b s = map.len (map.retain_keys b.elements (λ element. element.0 == s))

-- what a cell holds
abbrev pub state_at : Base → Cell → CellState
state_at b (Account a) = AccountState (account_at b a)
state_at b (Element s e) = ElementState (element_at b s e)
state_at b (Counter c) = CounterState (counter_at b c)
state_at b (Size s) = NoState

-- what is kept of an element
abbrev pub element_entry : Bool → Option (Unit {0})
element_entry true = Some tt
element_entry false = None

-- what is kept of a counter's value
abbrev pub counter_entry : ℕ → Option ℕ
counter_entry zero = None
counter_entry (suc less_one) = Some less_one

-- the base with this in one cell; the same base, where a cell of this kind can't hold it
abbrev pub with_state : Base → Cell → CellState → Base
with_state b (Account a) (AccountState s) = record b { accounts = with_entry b.accounts a s }
with_state b (Element s e) (ElementState p) = record b { elements = with_entry b.elements (s, e) (element_entry p) }
with_state b (Counter c) (CounterState v) = record b { counters = with_entry b.counters c (counter_entry v) }
with_state b _ _ = b

-- the two bases differ in this cell alone
abbrev pub SameBut : Base → Base → Cell → Type 0
SameBut b b' cell = (other : Cell) → other ≢ cell → state_at b' other ≡ state_at b other

-- an operation that asks for the size of a set gets the number of its elements
abbrev pub TellsSize : Base → ObjOp × ObjReply → Type 0
TellsSize b (ObjOp.Size s, reply) = reply ≡ Is (size_at b s)
TellsSize b _ = Unit {0}

-- An operation with its reply is a step of its cell; all other cells are as before. `size` returns the size as it is.
abbrev pub Step : Base → ObjOp × ObjReply → Base → Type 0
Step b x b' =
    CellStep (state_at b (cell_of x.0)) x (state_at b' (cell_of x.0)) × SameBut b b' (cell_of x.0) × TellsSize b x

-- operations with their replies, in order
abbrev pub Transcript : Type 0
Transcript = List (ObjOp × ObjReply)

-- the transcript leads from the base to the other one
abbrev pub TranscriptLeads : Base → Transcript → Base → Type 0
TranscriptLeads b [] b' = b ≡ b'
TranscriptLeads b (x ∷ t) b' = (m : Base) × Step b x m × TranscriptLeads m t b'
