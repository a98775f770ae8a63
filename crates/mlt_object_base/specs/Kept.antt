-- What the maps and the set of a base are kept as: lists of entries and keys.
use Rattle.std.specs.Prelude.{◌≡◌, ℕ, ◌-◌, ◌^◌, ◌<◌, ◌≤◌, true, List, Option, None, Some, is_some, unwrap_or, map}
use Rattle.std.specs.{Ordering.nat_cmp, Map.lookup, BTreeMap.is_at}
use Rattle.std.specs.FinMap as finmap
use Rattle.mlt_types.specs.Maps.{with_entry}
use Rattle.mlt_object_kinds.specs.{declared.account.AccountOp.AccountOp, declared.counter.CounterOp.CounterOp, declared.operation.ObjReply.ObjReply, Accounts.AccountStep, Accounts.IsAccount, Counters.CounterStep}
use Rattle.mlt_object_kinds.specs.Bases.{Base, counter_entry, counter_value, element_cmp, size_at}

-- the base of these accounts, elements and counters
abbrev pub base_of
    : finmap.FinMap nat_cmp ℕ → finmap.FinMap element_cmp (Unit {0}) → finmap.FinMap nat_cmp ℕ
    → Base
base_of accounts elements counters =
    record { accounts = accounts; elements = elements; counters = counters }

-- every balance is in range
abbrev pub AreBalances : List (ℕ × ℕ) → Type 0
AreBalances entries = (account : ℕ) → IsAccount (lookup (is_at (nat_cmp account)) entries)

-- from some balances to others: the operation on this account is told the reply, and no other account changes
abbrev pub DoesAt
    : finmap.FinMap nat_cmp ℕ → ℕ → AccountOp → ObjReply → finmap.FinMap nat_cmp ℕ → Type 0
DoesAt old account op reply new =
    (after : Option ℕ) × AccountStep (finmap.get old account) op reply after
    × (new ≡ with_entry old account after)

-- from some counters to others: the operation on this counter is told the reply, and no other counter changes
abbrev pub CountsAt
    : finmap.FinMap nat_cmp ℕ → ℕ → CounterOp → ObjReply → finmap.FinMap nat_cmp ℕ → Type 0
CountsAt old counter op reply new =
    (after : ℕ) × CounterStep (counter_value (finmap.get old counter)) op reply after
    × (new ≡ with_entry old counter (counter_entry after))

-- nothing, or a number other than 0
abbrev pub IsNotZero : Option ℕ → Type 0
IsNotZero None = Unit {0}
IsNotZero (Some value) = 1 ≤ value

-- no value is 0
abbrev pub AreNotZero : List (ℕ × ℕ) → Type 0
AreNotZero entries = (counter : ℕ) → IsNotZero (lookup (is_at (nat_cmp counter)) entries)

-- the entries with their values less 1
abbrev pub less_one : List (ℕ × ℕ) → List (ℕ × ℕ)
less_one = map (λ e. (e.0, e.1 - 1))

-- the keys as entries that have nothing beside them
abbrev pub with_nothing : List (ℕ × ℕ) → List ((ℕ × ℕ) × Unit {0})
with_nothing = map (λ k. (k, tt))

-- how many of the elements are in a set
abbrev pub size_in : finmap.FinMap element_cmp (Unit {0}) → ℕ → ℕ
size_in elements set = size_at (base_of finmap.empty elements finmap.empty) set

-- what is kept of the size of a set, which is 0 where nothing is
abbrev pub kept_size : List (ℕ × ℕ) → ℕ → ℕ
kept_size sizes set = unwrap_or (lookup (is_at (nat_cmp set)) sizes) 0

-- the sizes are those of the sets of these keys, and every element has 32 bits
abbrev pub AreCounted : List (ℕ × ℕ) → List (ℕ × ℕ) → Type 0
AreCounted keys sizes =
    let elements = finmap.from_entries {R = element_cmp} (with_nothing keys) in
    ((set : ℕ) → kept_size sizes set ≡ size_in elements set)
    × ((set element : ℕ) → is_some (finmap.get elements (set, element)) ≡ true → element < 2 ^ 32)
