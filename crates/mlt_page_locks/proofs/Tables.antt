-- The table of lists: the first list of a transaction counts.
use Rattle.mlt_page_locks.proofs.Names.{zero, nat_cmp_total, nat_tests, length-replicate, position-Some, Mode, Modes, LockTable, mode_held, no_locks, AreCompatible, released, HeldPages, is_free, is_list_of, table_of, lists_in_use, lock_table, IsSound}
use Rattle.std.proofs.Common.{◌≡◌, ℕ, suc, ◌≤◌, ◌<◌, ◌+◌, eqb, true, false, not, cond, ◌&&◌, Some, None, is_some, unwrap_or, List, [], ◌∷◌, length, get_or, set, length-set, replicate, refl, sym, ap, subst, ◌∙◌, arith, position, nat_cmp}
use Rattle.std.{specs.List.position_from, proofs.lemmas.Iterator.Adapters.position_from-zero}
use Rattle.std.specs.FinMap as map
use Rattle.mlt_page_locks.proofs.Maps.{get_inserted, get_removed, same_entries}

-- what is seen of tx is what its first list has
pub get-table_of : (pages : HeldPages) (lists : List HeldPages) (u : ℕ) → map.get (table_of (pages ∷ lists)) u ≡ cond (is_list_of u pages) (Some pages.modes) (map.get (table_of lists) u)
get-table_of pages lists u =
    elim (is_free pages) as (λ b. map.get (cond b (table_of lists) (map.insert (table_of lists) pages.tx pages.modes)) u ≡ cond (eqb pages.tx u && not b) (Some pages.modes) (map.get (table_of lists) u)) [
      | true ↦ grind arith
      | false ↦ grind (arith, nat_tests, get_inserted (table_of lists) pages.tx pages.modes u)
    ]

-- the transactions are no more than the lists in use
len-table_of : (lists : List HeldPages) → map.len (table_of lists) ≤ lists_in_use lists
len-table_of [] = grind (arith, map.len-empty nat_cmp Modes)
len-table_of (pages ∷ lists) = grind (arith, len-table_of lists, map.len-insert nat_cmp_total (table_of lists) pages.tx pages.modes)

-- where there are as many transactions as lists in use, no transaction has a second list
pub record OneEach (lists : List HeldPages) : Type 0 where
  pub as_many : map.len (table_of lists) ≡ lists_in_use lists

pub later : (pages : HeldPages) (lists : List HeldPages) → OneEach (pages ∷ lists) → OneEach lists
later pages lists one = record { as_many = grind (arith, one.as_many, len-table_of lists, map.len-insert nat_cmp_total (table_of lists) pages.tx pages.modes) }

pub no_second : (pages : HeldPages) (lists : List HeldPages) → OneEach (pages ∷ lists) → is_free pages ≡ false → is_some (map.get (table_of lists) pages.tx) ≡ false
no_second pages lists one used = grind (arith, one.as_many, len-table_of lists, map.len-insert nat_cmp_total (table_of lists) pages.tx pages.modes)

found : (lists : List HeldPages) (tx i : ℕ) (d : HeldPages) → i < length lists → is_list_of tx (get_or lists i d) ≡ true → ((k : ℕ) → k < i → is_list_of tx (get_or lists k d) ≡ false) → map.get (table_of lists) tx ≡ Some (get_or lists i d).modes
found [] tx i d within there before = absurd (omega arith)
found (pages ∷ lists) tx zero d within there before = grind (arith, get-table_of pages lists tx)
found (pages ∷ lists) tx (suc i) d within there before =
    let first : is_list_of tx pages ≡ false = before 0 (omega arith) in
    grind (arith, get-table_of pages lists tx, found lists tx i d (omega arith) there (λ k h. before (suc k) (omega arith)))

absent_from : (lists : List HeldPages) (tx n : ℕ) → position_from (is_list_of tx) n lists ≡ None → map.get (table_of lists) tx ≡ None
absent_from [] tx n none = map.get-empty nat_cmp tx
absent_from (pages ∷ lists) tx n none =
    elim (is_list_of tx pages) as (λ b. is_list_of tx pages ≡ b → cond b (Some n) (position_from (is_list_of tx) (n + 1) lists) ≡ None → map.get (table_of (pages ∷ lists)) tx ≡ None) [
      | true ↦ λ is none. cc
      | false ↦ λ is none. grind (arith, get-table_of pages lists tx, absent_from lists tx (n + 1) none)
    ] refl none

-- what the first list of tx has
pub get-table_of_place : (lists : List HeldPages) (tx i : ℕ) (d : HeldPages) → position (is_list_of tx) lists ≡ Some i → map.get (table_of lists) tx ≡ Some (get_or lists i d).modes
get-table_of_place lists tx i d at = let p = position-Some (is_list_of tx) lists i d at in found lists tx i d p.0 p.1 p.2

pub get-table_of_none : (lists : List HeldPages) (tx : ℕ) → position (is_list_of tx) lists ≡ None → map.get (table_of lists) tx ≡ None
get-table_of_none lists tx none = absent_from lists tx 0 (sym (position_from-zero (is_list_of tx) lists) ∙ none)

-- one list is replaced
lists_in_use-set : (lists : List HeldPages) (i : ℕ) (d new : HeldPages) → i < length lists → lists_in_use (set lists i new) + cond (is_free (get_or lists i d)) 0 1 ≡ lists_in_use lists + cond (is_free new) 0 1
lists_in_use-set [] i d new within = absurd (omega arith)
lists_in_use-set (pages ∷ lists) zero d new within = grind arith
lists_in_use-set (pages ∷ lists) (suc i) d new within = grind (arith, lists_in_use-set lists i d new (omega arith))

replaced : (lists : List HeldPages) (tx i : ℕ) (d new : HeldPages) → i < length lists → is_list_of tx (get_or lists i d) ≡ true → ((k : ℕ) → k < i → is_list_of tx (get_or lists k d) ≡ false) → new.tx ≡ tx → is_free new ≡ false
    → (u : ℕ) → map.get (table_of (set lists i new)) u ≡ cond (eqb u tx) (Some new.modes) (map.get (table_of lists) u)
replaced [] tx i d new within there before mine used u = absurd (omega arith)
replaced (pages ∷ lists) tx zero d new within there before mine used u = grind (arith, nat_tests, get-table_of pages lists u, get-table_of new lists u)
replaced (pages ∷ lists) tx (suc i) d new within there before mine used u =
    let first : is_list_of tx pages ≡ false = before 0 (omega arith) in
    grind (arith, nat_tests, get-table_of pages lists u, get-table_of pages (set lists i new) u, replaced lists tx i d new (omega arith) there (λ k h. before (suc k) (omega arith)) mine used u)

taken : (lists : List HeldPages) (tx i : ℕ) (d new : HeldPages) → i < length lists → is_free (get_or lists i d) ≡ true → map.get (table_of lists) tx ≡ None → new.tx ≡ tx → is_free new ≡ false
    → (u : ℕ) → map.get (table_of (set lists i new)) u ≡ cond (eqb u tx) (Some new.modes) (map.get (table_of lists) u)
taken [] tx i d new within free none mine used u = absurd (omega arith)
taken (pages ∷ lists) tx zero d new within free none mine used u = grind (arith, nat_tests, get-table_of pages lists u, get-table_of new lists u)
taken (pages ∷ lists) tx (suc i) d new within free none mine used u =
    let first : is_list_of tx pages ≡ false = grind (arith, get-table_of pages lists tx) in
    let rest : map.get (table_of lists) tx ≡ None = grind (arith, get-table_of pages lists tx) in
    grind (arith, nat_tests, get-table_of pages lists u, get-table_of pages (set lists i new) u, taken lists tx i d new (omega arith) free rest mine used u)

cleared : (lists : List HeldPages) (tx i : ℕ) (d new : HeldPages) → OneEach lists → i < length lists → is_list_of tx (get_or lists i d) ≡ true → ((k : ℕ) → k < i → is_list_of tx (get_or lists k d) ≡ false) → is_free new ≡ true
    → (u : ℕ) → map.get (table_of (set lists i new)) u ≡ cond (eqb u tx) None (map.get (table_of lists) u)
cleared [] tx i d new one within there before free u = absurd (omega arith)
cleared (pages ∷ lists) tx zero d new one within there before free u =
    let used : is_free pages ≡ false = grind arith in
    grind (arith, nat_tests, get-table_of pages lists u, get-table_of new lists u, no_second pages lists one used)
cleared (pages ∷ lists) tx (suc i) d new one within there before free u =
    let first : is_list_of tx pages ≡ false = before 0 (omega arith) in
    grind (arith, nat_tests, get-table_of pages lists u, get-table_of pages (set lists i new) u, cleared lists tx i d new (later pages lists one) (omega arith) there (λ k h. before (suc k) (omega arith)) free u)

-- where no list is free, all are in use
all_used : (lists : List HeldPages) (n : ℕ) → position_from is_free n lists ≡ None → lists_in_use lists ≡ length lists
all_used [] n none = refl
all_used (pages ∷ lists) n none =
    elim (is_free pages) as (λ b. cond b (Some n) (position_from is_free (n + 1) lists) ≡ None → cond b 0 1 + lists_in_use lists ≡ suc (length lists)) [
      | true ↦ λ none. cc
      | false ↦ λ none. grind (arith, all_used lists (n + 1) none)
    ] none

pub some_list_is_free : (lists : List HeldPages) → position is_free lists ≡ None → lists_in_use lists ≡ length lists
some_list_is_free lists none = all_used lists 0 (sym (position_from-zero is_free lists) ∙ none)

length-replaced : (lists : List HeldPages) (i : ℕ) (new : HeldPages) → length (set lists i new) ≡ length lists
length-replaced lists i new = length-set {A = HeldPages} lists i new

-- lists that make the table with the locks of one transaction changed are as sound as they were
same_table : (lists lists' : List HeldPages) (held : map.FinMap nat_cmp Modes) → table_of lists' ≡ held → length lists' ≡ length lists → lock_table lists' ≡ record { held = held; max_open = length lists }
same_table lists lists' held is long i = record { held = is i; max_open = long i }

-- what a change of one list leaves: the table, and again one list for each transaction
pub record Changed (lists lists' : List HeldPages) (held : map.FinMap nat_cmp Modes) : Type 0 where
  pub table : lock_table lists' ≡ record { held = held; max_open = length lists }
  pub one_list_each : map.len (table_of lists') ≡ lists_in_use lists'

used_list : (tx : ℕ) (pages : HeldPages) → is_list_of tx pages ≡ true → is_free pages ≡ false
used_list tx pages h = grind arith

-- tx, which has a list, gets pages in it
pub own_list : (lists : List HeldPages) (tx i : ℕ) (d new : HeldPages) → map.len (table_of lists) ≡ lists_in_use lists → Some i ≡ position (is_list_of tx) lists → new.tx ≡ tx → is_free new ≡ false
    → Changed lists (set lists i new) (map.insert (table_of lists) tx new.modes)
own_list lists tx i d new one at mine used =
    let place : position (is_list_of tx) lists ≡ Some i = sym at in
    let p = position-Some (is_list_of tx) lists i d place in
    let there : map.get (table_of lists) tx ≡ Some (get_or lists i d).modes = get-table_of_place lists tx i d place in
    let table : table_of (set lists i new) ≡ map.insert (table_of lists) tx new.modes =
    same_entries _ _ (λ u. replaced lists tx i d new p.0 p.1 p.2 mine used u ∙ sym (get_inserted (table_of lists) tx new.modes u)) in
    let was_used : is_free (get_or lists i d) ≡ false = used_list tx (get_or lists i d) p.1 in
    record {
      table = same_table lists (set lists i new) _ table (length-replaced lists i new);
      one_list_each = ap map.len table ∙ grind (arith, map.len-insert nat_cmp_total (table_of lists) tx new.modes, lists_in_use-set lists i d new p.0);
    }

-- tx, which has none, gets pages in a list that is nobody's
pub new_list : (lists : List HeldPages) (tx i : ℕ) (d new : HeldPages) → map.len (table_of lists) ≡ lists_in_use lists → map.get (table_of lists) tx ≡ None → Some i ≡ position is_free lists → new.tx ≡ tx → is_free new ≡ false
    → Changed lists (set lists i new) (map.insert (table_of lists) tx new.modes)
new_list lists tx i d new one none at mine used =
    let p = position-Some is_free lists i d (sym at) in
    let table : table_of (set lists i new) ≡ map.insert (table_of lists) tx new.modes =
    same_entries _ _ (λ u. taken lists tx i d new p.0 p.1 none mine used u ∙ sym (get_inserted (table_of lists) tx new.modes u)) in
    record {
      table = same_table lists (set lists i new) _ table (length-replaced lists i new);
      one_list_each = ap map.len table ∙ grind (arith, p.1, map.len-insert nat_cmp_total (table_of lists) tx new.modes, lists_in_use-set lists i d new p.0);
    }

-- tx gives its list back
pub freed_list : (lists looked : List HeldPages) (tx i : ℕ) (d new : HeldPages) → map.len (table_of lists) ≡ lists_in_use lists → looked ≡ lists → Some i ≡ position (is_list_of tx) looked → is_free new ≡ true
    → Changed lists (set lists i new) (map.remove (table_of lists) tx)
freed_list lists looked tx i d new one look at free =
    let place : position (is_list_of tx) lists ≡ Some i = ap (position (is_list_of tx)) (sym look) ∙ sym at in
    let p = position-Some (is_list_of tx) lists i d place in
    let there : map.get (table_of lists) tx ≡ Some (get_or lists i d).modes = get-table_of_place lists tx i d place in
    let table : table_of (set lists i new) ≡ map.remove (table_of lists) tx =
    same_entries _ _ (λ u. cleared lists tx i d new (record { as_many = one }) p.0 p.1 p.2 free u ∙ sym (get_removed (table_of lists) tx u)) in
    let was_used : is_free (get_or lists i d) ≡ false = used_list tx (get_or lists i d) p.1 in
    record {
      table = same_table lists (set lists i new) _ table (length-replaced lists i new);
      one_list_each = ap map.len table ∙ grind (arith, map.len-remove nat_cmp_total (table_of lists) tx, lists_in_use-set lists i d new p.0);
    }

-- who has no list holds nothing that could be taken away
pub nothing_released : (lists looked : List HeldPages) (tx : ℕ) → looked ≡ lists → None ≡ position (is_list_of tx) looked → lock_table lists ≡ released (lock_table lists) tx
nothing_released lists looked tx look none =
    let absent : map.get (table_of lists) tx ≡ None = get-table_of_none lists tx (ap (position (is_list_of tx)) (sym look) ∙ sym none) in
    let held : table_of lists ≡ map.remove (table_of lists) tx = same_entries _ _ (λ u. unchanged u ∙ sym (get_removed (table_of lists) tx u)) in
    ap (λ held. record { held = held; max_open = length lists }) held
  where
    unchanged : (u : ℕ) → map.get (table_of lists) u ≡ cond (eqb u tx) None (map.get (table_of lists) u)
    unchanged u = grind (arith, nat_tests, get-table_of_none lists tx (ap (position (is_list_of tx)) (sym look) ∙ sym none))

-- the modes that tx holds are those of its list
pub mode_in_list : (lists looked read : List HeldPages) (tx q i : ℕ) (d : HeldPages) → looked ≡ lists → read ≡ lists → Some i ≡ position (is_list_of tx) looked → map.get (get_or read i d).modes q ≡ mode_held (lock_table lists) tx q
mode_in_list lists looked read tx q i d look reads at =
    let there : map.get (table_of lists) tx ≡ Some (get_or lists i d).modes = get-table_of_place lists tx i d (ap (position (is_list_of tx)) (sym look) ∙ sym at) in
    ap (λ xs. map.get (get_or xs i d).modes q) reads ∙ ap (λ o. map.get (unwrap_or o map.empty) q) (sym there)

pub no_mode : (lists looked : List HeldPages) (tx q : ℕ) → looked ≡ lists → position (is_list_of tx) looked ≡ None → None ≡ mode_held (lock_table lists) tx q
no_mode lists looked tx q look none =
    let absent : map.get (table_of lists) tx ≡ None = get-table_of_none lists tx (ap (position (is_list_of tx)) (sym look) ∙ none) in
    sym (map.get-empty {X = Mode} nat_cmp q) ∙ ap (λ o. map.get (unwrap_or o map.empty) q) (sym absent)

-- lists that are all free
pub all_free : (n : ℕ) (free : HeldPages) → is_free free ≡ true → (table_of (replicate n free) ≡ map.empty) × (lists_in_use (replicate n free) ≡ 0)
all_free zero free is = (refl, refl)
all_free (suc n) free is = let rest = all_free n free is in (grind (arith, rest.0), grind (arith, rest.1))

pub compatible_none : (n : ℕ) → AreCompatible (no_locks n)
compatible_none n t u q writes reads = grind (arith, map.get-empty {X = Modes} nat_cmp t, map.get-empty {X = Mode} nat_cmp q)

-- so many free lists hold nothing
pub blank_lists : (lists : List HeldPages) (n : ℕ) → lists ≡ replicate n (record { tx = 0; modes = map.empty }) → (lock_table lists ≡ no_locks n) × IsSound lists
blank_lists lists n is =
    let free : HeldPages = record { tx = 0; modes = map.empty } in
    let none = all_free n free (grind (arith, map.len-empty nat_cmp Mode)) in
    let held : table_of lists ≡ map.empty = ap table_of is ∙ none.0 in
    let many : length lists ≡ n = ap length is ∙ length-replicate n free in
    let table : lock_table lists ≡ no_locks n = (λ i. record { held = held i; max_open = many i }) in
    (table, record { one_list_each = ap map.len held ∙ map.len-empty nat_cmp Modes ∙ sym (ap lists_in_use is ∙ none.1); compatible = subst (λ (t : LockTable). AreCompatible t) (sym table) (compatible_none n) })
