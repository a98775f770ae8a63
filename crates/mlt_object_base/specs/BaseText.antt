-- The text of a base.
use Rattle.std.specs.Prelude.{ℕ, ◌+◌, List, [], ◌∷◌, ◌++◌, codes, flat_map}
use Rattle.std.specs.FinMap as map
use Rattle.std.specs.Ordering.{nat_cmp}
use Rattle.mlt_object_kinds.specs.{Bases.Base, Bases.element_cmp, Texts.with_number}

-- a word and two numbers, and the end of the line
abbrev pub line_of : List ℕ → ℕ → ℕ → List ℕ
line_of word m n = with_number (with_number word m) n ++ 10 ∷ []

-- the line of an account and its balance
abbrev pub account_line : ℕ × ℕ → List ℕ
account_line e = line_of (codes "account") e.0 e.1

-- the line of an element: its set and its number
abbrev pub key_line : ℕ × ℕ → List ℕ
key_line k = line_of (codes "element") k.0 k.1

abbrev pub element_line : (ℕ × ℕ) × Unit {0} → List ℕ
element_line e = key_line e.0

-- the line of a counter and its value
abbrev pub value_line : ℕ × ℕ → List ℕ
value_line e = line_of (codes "counter") e.0 e.1

-- the same of a value that is kept less 1
abbrev pub counter_line : ℕ × ℕ → List ℕ
counter_line e = value_line (e.0, e.1 + 1)

-- a line for each account, by rising number
abbrev pub account_lines : map.FinMap nat_cmp ℕ → List ℕ
account_lines accounts = flat_map account_line (map.entries accounts)

-- a line for each element, by rising set and then by rising number
abbrev pub element_lines : map.FinMap element_cmp (Unit {0}) → List ℕ
element_lines elements = flat_map element_line (map.entries elements)

-- a line for each counter that is not 0, by rising number
abbrev pub counter_lines : map.FinMap nat_cmp ℕ → List ℕ
counter_lines counters = flat_map counter_line (map.entries counters)

-- a line for each account, then for each element, then for each counter that is not 0, each by
-- rising numbers
abbrev pub base_text : Base → List ℕ
base_text base =
    account_lines base.accounts ++ (element_lines base.elements ++ counter_lines base.counters)
