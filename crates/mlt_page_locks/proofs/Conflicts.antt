-- The lowest transaction that has a lock in the way, over the lists one after another.
use Rattle.std.proofs.Common.{◌≡◌, ℕ, eqb, min, Bool, true, false, not, cond, ◌&&◌, ◌||◌, Option, Some, None, is_some, unwrap_or, List, [], ◌∷◌, ◌++◌, refl, sym, ◌∙◌, arith, MatchOption, nat_cmp}
use Rattle.std.specs.FinMap as map
use Rattle.mlt_page_locks.proofs.Names.{nat_tests, Mode, Modes, conflicts, is_against, IsNobody, HeldPages, is_free, table_of, lists_in_use, lock_table}
use Rattle.mlt_page_locks.{specs.Requests.IsLowest, proofs.Tables.OneEach, proofs.Tables.get-table_of, proofs.Tables.later, proofs.Tables.no_second}

-- whether a list has a lock that does not go with one of tx
abbrev pub in_way : ℕ → ℕ → Mode → HeldPages → Bool
in_way tx q mode pages = not (eqb pages.tx tx) && is_against (map.get pages.modes q) mode

-- whether some list with the number u has one
abbrev pub in_way_of : ℕ → ℕ → Mode → List HeldPages → ℕ → Bool
in_way_of tx q mode [] u = false
in_way_of tx q mode (pages ∷ lists) u = (eqb pages.tx u && in_way tx q mode pages) || in_way_of tx q mode lists u

-- the lowest number that has the property, if one has it
abbrev pub IsLowestIfAny : (ℕ → Bool) → Option ℕ → Type 0
IsLowestIfAny has lowest = MatchOption lowest (IsNobody has) (IsLowest has)

in_way_of-append : (tx q : ℕ) (mode : Mode) (lists : List HeldPages) (pages : HeldPages) (u : ℕ) → in_way_of tx q mode (lists ++ pages ∷ []) u ≡ (in_way_of tx q mode lists u || (eqb pages.tx u && in_way tx q mode pages))
in_way_of-append tx q mode [] pages u = grind arith
in_way_of-append tx q mode (first ∷ lists) pages u = grind (arith, in_way_of-append tx q mode lists pages u)

-- a list that is not in the way changes nothing
pub nothing_more : (tx q : ℕ) (mode : Mode) (lists : List HeldPages) (pages : HeldPages) (u : ℕ) → in_way tx q mode pages ≡ false → in_way_of tx q mode lists u ≡ in_way_of tx q mode (lists ++ pages ∷ []) u
nothing_more tx q mode lists pages u clear = grind (arith, in_way_of-append tx q mode lists pages u, clear)

-- one list more is looked at
pub lowest_more : (tx q : ℕ) (mode : Mode) (lists : List HeldPages) (pages : HeldPages) (lowest : Option ℕ) (b : Bool) → b ≡ in_way tx q mode pages → IsLowestIfAny (in_way_of tx q mode lists) lowest
    → IsLowestIfAny (in_way_of tx q mode (lists ++ pages ∷ [])) (cond b (Some (min (unwrap_or lowest pages.tx) pages.tx)) lowest)
lowest_more tx q mode lists pages None false is so_far = λ u. grind (arith, in_way_of-append tx q mode lists pages u, so_far u)
lowest_more tx q mode lists pages None true is so_far = record {
  has_it = grind (arith, nat_tests, in_way_of-append tx q mode lists pages pages.tx);
  least = λ u has. grind (arith, nat_tests, in_way_of-append tx q mode lists pages u, so_far u);
}
lowest_more tx q mode lists pages (Some by) false is so_far = record {
  has_it = grind (arith, in_way_of-append tx q mode lists pages by, so_far.has_it);
  least = λ u has. grind (arith, in_way_of-append tx q mode lists pages u, so_far.least u);
}
lowest_more tx q mode lists pages (Some by) true is so_far = record {
  has_it = grind (arith, nat_tests, in_way_of-append tx q mode lists pages by, in_way_of-append tx q mode lists pages pages.tx, so_far.has_it);
  least = λ u has. grind (arith, nat_tests, in_way_of-append tx q mode lists pages u, so_far.least u);
}

none_in_way : (tx q : ℕ) (mode : Mode) (lists : List HeldPages) (u : ℕ) → is_some (map.get (table_of lists) u) ≡ false → conflicts (lock_table lists) tx q mode u ≡ false
none_in_way tx q mode lists u none = grind (arith, map.get-empty {X = Mode} nat_cmp q)

nothing_in_way : (tx q : ℕ) (mode : Mode) (pages : HeldPages) → is_free pages ≡ true → in_way tx q mode pages ≡ false
nothing_in_way tx q mode pages free =
    let none : pages.modes ≡ map.empty = map.empty_of_len pages.modes (grind (arith, nat_tests)) in
    grind (arith, map.get-empty {X = Mode} nat_cmp q)

-- what the lists have is what the table says
pub in_way-conflicts : (tx q : ℕ) (mode : Mode) (lists : List HeldPages) → OneEach lists → (u : ℕ) → in_way_of tx q mode lists u ≡ conflicts (lock_table lists) tx q mode u
in_way-conflicts tx q mode [] one u = sym (none_in_way tx q mode [] u (grind (arith, map.get-empty {X = Modes} nat_cmp u)))
in_way-conflicts tx q mode (pages ∷ lists) one u =
    elim (is_free pages) as (λ b. is_free pages ≡ b → in_way_of tx q mode (pages ∷ lists) u ≡ conflicts (lock_table (pages ∷ lists)) tx q mode u) [
      | true ↦ λ free. grind (arith, nat_tests, nothing_in_way tx q mode pages free, get-table_of pages lists u, in_way-conflicts tx q mode lists (later pages lists one) u)
      | false ↦ λ used.
          let rest = in_way-conflicts tx q mode lists (later pages lists one) u in
          let none = none_in_way tx q mode lists pages.tx (no_second pages lists one used) in
          grind (arith, nat_tests, rest, none, get-table_of pages lists u)
    ] refl

-- who has the property is the same
pub same_lowest : (has has' : ℕ → Bool) (lowest : Option ℕ) → ((u : ℕ) → has u ≡ has' u) → IsLowestIfAny has lowest → IsLowestIfAny has' lowest
same_lowest has has' None same is = λ u. sym (same u) ∙ is u
same_lowest has has' (Some by) same is = record { has_it = sym (same by) ∙ is.has_it; least = λ u h. is.least u (same u ∙ h) }

-- the lowest in the lists is the lowest of the table
pub lowest_of_table : (tx q : ℕ) (mode : Mode) (lists : List HeldPages) (lowest : Option ℕ) → map.len (table_of lists) ≡ lists_in_use lists → IsLowestIfAny (in_way_of tx q mode lists) lowest → IsLowestIfAny (conflicts (lock_table lists) tx q mode) lowest
lowest_of_table tx q mode lists lowest one is = same_lowest _ _ lowest (in_way-conflicts tx q mode lists (record { as_many = one })) is
