-- A lock that is granted in one list, and a list that is cleared, over the whole table.
use Rattle.std.proofs.Common.{◌≡◌, ℕ, ◌≤◌, true, false, Some, None, is_some, unwrap_or, List, length, get_or, set, refl, sym, ap, subst, ◌∙◌, arith, position, nat_cmp}
use Rattle.mlt_page_locks.proofs.Names.{nat_cmp_total, nat_tests, position-Some, Mode, Modes, LockTable, pages_of, page_count, AreCompatible, HasRoom, stronger, with_page, granted, released, HeldPages, is_free, is_list_of, table_of, lists_in_use, lock_table, IsSound}
use Rattle.std.specs.FinMap as map
use Rattle.mlt_page_locks.proofs.LockLaws.{pages_of-granted, compatible_released}
use Rattle.mlt_page_locks.proofs.Tables.{Changed, own_list, new_list, freed_list, get-table_of_place, some_list_is_free}

-- the lists make this table, and are sound
pub record Makes (lists : List HeldPages) (table : LockTable) : Type 0 where
  pub makes_it : lock_table lists ≡ table
  pub sound : IsSound lists

makes : (lists lists' : List HeldPages) (held : map.FinMap nat_cmp Modes) (table : LockTable) → Changed lists lists' held → record { held = held; max_open = length lists } ≡ table → AreCompatible table → Makes lists' table
makes lists lists' held table changed same ok = record {
  makes_it = changed.table ∙ same;
  sound = record { one_list_each = changed.one_list_each; compatible = subst (λ (t : LockTable). AreCompatible t) (sym (changed.table ∙ same)) ok };
}

-- a page that is granted keeps its transaction's list in use
not_free : (modes : Modes) (tx q : ℕ) (mode : Mode) → is_free (record { tx = tx; modes = with_page modes q mode }) ≡ false
not_free modes tx q mode = grind (arith, nat_tests, map.len-insert nat_cmp_total modes q (stronger (map.get modes q) mode), present modes q)
  where
    present : (modes : Modes) (q : ℕ) → is_some (map.get modes q) ≡ true → map.len modes ≡ 0 → false ≡ true
    present modes q some none =
        let empty : modes ≡ map.empty = map.empty_of_len modes none in
        grind (arith, map.get-empty {X = Mode} nat_cmp q)

-- a free list has no page
pub blank : (lists : List HeldPages) (i : ℕ) (d : HeldPages) → Some i ≡ position is_free lists → (get_or lists i d).modes ≡ map.empty
blank lists i d at = no_pages (get_or lists i d) (position-Some is_free lists i d (sym at)).1
  where
    no_pages : (pages : HeldPages) → is_free pages ≡ true → pages.modes ≡ map.empty
    no_pages pages h = map.empty_of_len pages.modes (grind (arith, nat_tests))

-- who has no list holds none
pub none_held : (lists : List HeldPages) (tx : ℕ) → map.get (table_of lists) tx ≡ None → pages_of (lock_table lists) tx ≡ map.empty
none_held lists tx none = ap (λ o. unwrap_or o map.empty) none

-- and a list of tx has what tx holds
pub theirs : (lists : List HeldPages) (tx i : ℕ) (d : HeldPages) → Some i ≡ position (is_list_of tx) lists → (get_or lists i d).modes ≡ pages_of (lock_table lists) tx
theirs lists tx i d at = sym (ap (λ o. unwrap_or o map.empty) (get-table_of_place lists tx i d (sym at)))

-- tx has a list already
pub grown : (lists : List HeldPages) (tx q i : ℕ) (mode : Mode) (d new : HeldPages) → IsSound lists → Some i ≡ position (is_list_of tx) lists
    → new ≡ record { tx = (get_or lists i d).tx; modes = with_page (get_or lists i d).modes q mode } → AreCompatible (granted (lock_table lists) tx q mode) → Makes (set lists i new) (granted (lock_table lists) tx q mode)
grown lists tx q i mode d new sound at is ok =
    let old = get_or lists i d in
    let pages : old.modes ≡ pages_of (lock_table lists) tx = theirs lists tx i d at in
    let mine : new.tx ≡ tx = ap (λ (p : HeldPages). p.tx) is ∙ owner tx old (position-Some (is_list_of tx) lists i d (sym at)).1 in
    let used : is_free new ≡ false = ap is_free is ∙ not_free old.modes old.tx q mode in
    makes lists (set lists i new) (map.insert (table_of lists) tx new.modes) (granted (lock_table lists) tx q mode) (own_list lists tx i d new sound.one_list_each at mine used)
    (ap (λ modes. record { held = map.insert (table_of lists) tx modes; max_open = length lists }) (ap (λ (p : HeldPages). p.modes) is ∙ ap (λ m. with_page m q mode) pages)) ok
  where
    owner : (tx : ℕ) (pages : HeldPages) → is_list_of tx pages ≡ true → pages.tx ≡ tx
    owner tx pages h = grind (arith, nat_tests)

-- tx takes a list that is nobody's
pub started : (lists : List HeldPages) (tx q i : ℕ) (mode : Mode) (d new : HeldPages) → IsSound lists → map.get (table_of lists) tx ≡ None → Some i ≡ position is_free lists
    → new ≡ record { tx = tx; modes = with_page (get_or lists i d).modes q mode } → AreCompatible (granted (lock_table lists) tx q mode) → Makes (set lists i new) (granted (lock_table lists) tx q mode)
started lists tx q i mode d new sound none at is ok =
    let old = get_or lists i d in
    let pages : old.modes ≡ pages_of (lock_table lists) tx = blank lists i d at ∙ sym (none_held lists tx none) in
    let used : is_free new ≡ false = ap is_free is ∙ not_free old.modes tx q mode in
    makes lists (set lists i new) (map.insert (table_of lists) tx new.modes) (granted (lock_table lists) tx q mode) (new_list lists tx i d new sound.one_list_each none at (ap (λ (p : HeldPages). p.tx) is) used)
    (ap (λ modes. record { held = map.insert (table_of lists) tx modes; max_open = length lists }) (ap (λ (p : HeldPages). p.modes) is ∙ ap (λ m. with_page m q mode) pages)) ok

-- tx gives its locks back
pub cleared : (lists looked : List HeldPages) (tx i : ℕ) (d new : HeldPages) → IsSound lists → looked ≡ lists → Some i ≡ position (is_list_of tx) looked → new ≡ record { tx = (get_or lists i d).tx; modes = map.empty } → Makes (set lists i new) (released (lock_table lists) tx)
cleared lists looked tx i d new sound look at is =
    makes lists (set lists i new) (map.remove (table_of lists) tx) (released (lock_table lists) tx)
    (freed_list lists looked tx i d new sound.one_list_each look at (ap is_free is ∙ grind (arith, nat_tests, map.len-empty nat_cmp Mode))) refl
    (compatible_released (lock_table lists) tx sound.compatible)

-- where there is room for the lock, there is room in the list
pub room_in_list : (lists : List HeldPages) (tx q : ℕ) (mode : Mode) (modes : Modes) → HasRoom (granted (lock_table lists) tx q mode) → modes ≡ pages_of (lock_table lists) tx → map.len (map.insert modes q mode) ≤ 300
room_in_list lists tx q mode modes room same =
    let table = lock_table lists in
    let most : page_count (granted table tx q mode) tx ≤ 300 = room.pages tx in
    let pages : pages_of (granted table tx q mode) tx ≡ with_page modes q mode = grind (arith, nat_tests, pages_of-granted table tx q mode tx, same) in
    grind (arith, ap map.len pages, map.len-insert nat_cmp_total modes q mode, map.len-insert nat_cmp_total modes q (stronger (map.get modes q) mode))

-- and for a transaction that has no list, a list is nobody's
pub list_left : (lists : List HeldPages) (tx q : ℕ) (mode : Mode) → IsSound lists → HasRoom (granted (lock_table lists) tx q mode) → map.get (table_of lists) tx ≡ None → None ≡ position is_free lists → false ≡ true
list_left lists tx q mode sound room none full =
    let used : lists_in_use lists ≡ length lists = some_list_is_free lists (sym full) in
    grind (arith, room.holders, sound.one_list_each, map.len-insert nat_cmp_total (table_of lists) tx (with_page (pages_of (lock_table lists) tx) q mode))
