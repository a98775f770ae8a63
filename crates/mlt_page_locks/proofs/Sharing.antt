-- Where one transaction shares a page, nobody has it exclusively.
use Rattle.mlt_page_locks.proofs.Names.{zero, option_map_or, cases_Bool, nat_tests, Mode, Shared, Exclusive, allows_write, can_write, goes_with, mode_held, HeldPages, IsSound, is_free, is_list_of, lock_table, table_of, IsNobody, conflicts}
use Rattle.std.proofs.Common.{◌≡◌, ℕ, suc, ◌<◌, true, false, ◌⊎◌, Option, Some, None, is_some, List, [], ◌∷◌, length, get_or, refl, sym, ap, ◌∙◌, subst, inl, inr, true≢false, arith, nat_cmp}
use Rattle.std.specs.FinMap as map
use Rattle.mlt_page_locks.proofs.{LockLaws.conflicts-shared, Tables.OneEach, Tables.get-table_of, Tables.later, Tables.no_second}

-- a list that has a page is somebody's
used_with_page : (q : ℕ) (pages : HeldPages) (mode : Mode) → map.get pages.modes q ≡ Some mode → is_free pages ≡ false
used_with_page q pages mode has = by (cases_Bool (is_free pages))
  where
    by : (is_free pages ≡ true) ⊎ (is_free pages ≡ false) → is_free pages ≡ false
    by (inl free) =
        let none : pages.modes ≡ map.empty = map.empty_of_len pages.modes (grind (arith, nat_tests)) in
        absurd (true≢false (ap is_some (sym has ∙ ap (λ m. map.get m q) none ∙ map.get-empty {X = Mode} nat_cmp q)))
    by (inr used) = used

-- what a list has is what its transaction has
held_at : (lists : List HeldPages) (q place : ℕ) (mode : Mode) (d : HeldPages) → OneEach lists → place < length lists → map.get (get_or lists place d).modes q ≡ Some mode
    → map.get (table_of lists) (get_or lists place d).tx ≡ Some (get_or lists place d).modes
held_at [] q place mode d one within has = absurd (omega (arith, within))
held_at (pages ∷ lists) q zero mode d one within has = grind (arith, nat_tests, used_with_page q pages mode has, get-table_of pages lists pages.tx)
held_at (pages ∷ lists) q (suc place) mode d one within has =
    by (get_or lists place d) (held_at lists q place mode d (later pages lists one) (omega (arith, within)) has) (cases_Bool (is_list_of (get_or lists place d).tx pages))
  where
    by : (p : HeldPages) → map.get (table_of lists) p.tx ≡ Some p.modes → (is_list_of p.tx pages ≡ true) ⊎ (is_list_of p.tx pages ≡ false) → map.get (table_of (pages ∷ lists)) p.tx ≡ Some p.modes
    by p rest (inl same) =
        let second = no_second pages lists one (grind (arith, nat_tests)) in
        grind (arith, nat_tests, second, rest)
    by p rest (inr other) = grind (arith, get-table_of pages lists p.tx, rest)

-- what goes with each other is shared
shared_both : (held : Option Mode) (asked : Mode) → option_map_or (λ mode. goes_with mode asked) held false ≡ true → (held ≡ Some Shared) × (asked ≡ Shared)
shared_both None asked is = absurd (true≢false (sym is))
shared_both (Some Shared) Shared is = (refl, refl)
shared_both (Some Shared) Exclusive is = absurd (true≢false (sym is))
shared_both (Some Exclusive) asked is = absurd (true≢false (sym is))

-- nobody stands against a shared lock where a list shares the page
nobody_against : (lists : List HeldPages) (tx q place : ℕ) (d : HeldPages) → IsSound lists → place < length lists → map.get (get_or lists place d).modes q ≡ Some Shared
    → IsNobody (conflicts (lock_table lists) tx q Shared)
nobody_against lists tx q place d sound within shared u = by (cases_Bool (conflicts (lock_table lists) tx q Shared u))
  where
    held : mode_held (lock_table lists) (get_or lists place d).tx q ≡ Some Shared
    held = let at = held_at lists q place Shared d (record { as_many = sound.one_list_each }) within shared in grind (arith, at, shared)

    by : (conflicts (lock_table lists) tx q Shared u ≡ true) ⊎ (conflicts (lock_table lists) tx q Shared u ≡ false) → conflicts (lock_table lists) tx q Shared u ≡ false
    by (inr none) = none
    by (inl against) =
        let writes : can_write (lock_table lists) u q ≡ true = grind (arith, conflicts-shared (lock_table lists) tx q u, against) in
        let same : u ≡ (get_or lists place d).tx = sound.compatible u (get_or lists place d).tx q writes (ap is_some held) in
        absurd (true≢false (sym writes ∙ ap (λ t. can_write (lock_table lists) t q) same ∙ ap allows_write held))

-- **Nobody stands against a lock that goes with one that is held.**
pub nobody_against_shared : (lists : List HeldPages) (tx q place : ℕ) (mode : Mode) (d : HeldPages) → IsSound lists → place < length lists
    → option_map_or (λ held. goes_with held mode) (map.get (get_or lists place d).modes q) false ≡ true → IsNobody (conflicts (lock_table lists) tx q mode)
nobody_against_shared lists tx q place mode d sound within goes =
    let both = shared_both (map.get (get_or lists place d).modes q) mode goes in
    let P : Mode → Type 0 = λ m. IsNobody (conflicts (lock_table lists) tx q m) in
    subst P (sym both.1) (nobody_against lists tx q place d sound within both.0)
