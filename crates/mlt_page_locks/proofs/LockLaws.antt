-- Laws of lock tables: what a lock that is granted, and locks that are released, change. Other crates cite them.
use Rattle.std.proofs.Common.{◌≡◌, ℕ, ◌≤◌, ◌<◌, ◌+◌, eqb, true, false, not, cond, ◌&&◌, ◌||◌, ◌⊎◌, Option, Some, None, is_some, List, [], ◌∷◌, length, refl, sym, ap, ◌∙◌, inl, inr, arith, nat_cmp}
use Rattle.std.specs.List.{list_any}
use Rattle.mlt_page_locks.proofs.Names.{nat_cmp_total, false≢true, nat_tests, Mode, Shared, Exclusive, no_locks, Modes, LockTable, pages_of, mode_held, page_count, can_write, allows_write, AreCompatible, HasRoom, conflicts, stronger, with_page, granted, released, IsNobody, is_against}
use Rattle.std.specs.FinMap as map
use Rattle.mlt_page_locks.proofs.Maps.{get_inserted, get_removed, same_entries}
use Rattle.mlt_page_locks.specs.LockTables.{can_read, is_exclusive, KeepsOthers, HasAtMost, is_holder, HoldersAreAmong}

reads_where_writes : (mode : Option Mode) → allows_write mode ≡ true → is_some mode ≡ true
reads_where_writes None h = h
reads_where_writes (Some mode) h = refl

-- who may write a page may read it
pub writer_reads : (table : LockTable) (tx q : ℕ) → can_write table tx q ≡ true → can_read table tx q ≡ true
writer_reads table tx q h = reads_where_writes (mode_held table tx q) h

-- what tx holds once page q is granted
pub pages_of-granted : (table : LockTable) (tx q : ℕ) (mode : Mode) (u : ℕ) → pages_of (granted table tx q mode) u ≡ cond (eqb u tx) (with_page (pages_of table tx) q mode) (pages_of table u)
pages_of-granted table tx q mode u = grind (arith, get_inserted table.held tx (with_page (pages_of table tx) q mode) u)

pub pages_of-released : (table : LockTable) (tx u : ℕ) → pages_of (released table tx) u ≡ cond (eqb u tx) map.empty (pages_of table u)
pages_of-released table tx u = grind (arith, get_removed table.held tx u)

pub granted_keeps_others : (table : LockTable) (tx q : ℕ) (mode : Mode) → KeepsOthers tx table (granted table tx q mode)
granted_keeps_others table tx q mode u ne = grind (arith, nat_tests, pages_of-granted table tx q mode u)

pub released_keeps_others : (table : LockTable) (tx : ℕ) → KeepsOthers tx table (released table tx)
released_keeps_others table tx u ne = grind (arith, nat_tests, pages_of-released table tx u)

pub mode_held-granted : (table : LockTable) (tx q : ℕ) (mode : Mode) (u p : ℕ) → mode_held (granted table tx q mode) u p ≡ cond (eqb u tx && eqb p q) (Some (stronger (mode_held table tx q) mode)) (mode_held table u p)
mode_held-granted table tx q mode u p = grind (arith, nat_tests, pages_of-granted table tx q mode u, get_inserted (pages_of table tx) q (stronger (mode_held table tx q) mode) p)

pub mode_held-released : (table : LockTable) (tx u p : ℕ) → mode_held (released table tx) u p ≡ cond (eqb u tx) None (mode_held table u p)
mode_held-released table tx u p = grind (arith, nat_tests, pages_of-released table tx u, map.get-empty {X = Mode} nat_cmp p)

writes_stronger : (held : Option Mode) (mode : Mode) → is_exclusive (stronger held mode) ≡ (allows_write held || is_exclusive mode)
writes_stronger None mode = refl
writes_stronger (Some Shared) mode = refl
writes_stronger (Some Exclusive) mode = refl

-- a lock that is granted lets its transaction read the page, and nobody else anything new
pub can_read-granted : (table : LockTable) (tx q : ℕ) (mode : Mode) (u p : ℕ) → can_read (granted table tx q mode) u p ≡ (can_read table u p || (eqb u tx && eqb p q))
can_read-granted table tx q mode u p = grind (arith, nat_tests, mode_held-granted table tx q mode u p)

-- and write it, where it is exclusive
pub can_write-granted : (table : LockTable) (tx q : ℕ) (mode : Mode) (u p : ℕ) → can_write (granted table tx q mode) u p ≡ (can_write table u p || (is_exclusive mode && (eqb u tx && eqb p q)))
can_write-granted table tx q mode u p = grind (arith, nat_tests, mode_held-granted table tx q mode u p, writes_stronger (mode_held table tx q) mode)

pub can_read-released : (table : LockTable) (tx u p : ℕ) → can_read (released table tx) u p ≡ (not (eqb u tx) && can_read table u p)
can_read-released table tx u p = grind (arith, nat_tests, mode_held-released table tx u p)

pub can_write-released : (table : LockTable) (tx u p : ℕ) → can_write (released table tx) u p ≡ (not (eqb u tx) && can_write table u p)
can_write-released table tx u p = grind (arith, nat_tests, mode_held-released table tx u p)

against_shared : (held : Option Mode) → is_against held Shared ≡ allows_write held
against_shared None = refl
against_shared (Some Shared) = refl
against_shared (Some Exclusive) = refl

against_exclusive : (held : Option Mode) → is_against held Exclusive ≡ is_some held
against_exclusive None = refl
against_exclusive (Some Shared) = refl
against_exclusive (Some Exclusive) = refl

-- a shared lock goes with what others may read, an exclusive one with nothing of others
pub conflicts-shared : (table : LockTable) (tx q u : ℕ) → conflicts table tx q Shared u ≡ (not (eqb u tx) && can_write table u q)
conflicts-shared table tx q u = ap (λ b. not (eqb u tx) && b) (against_shared (mode_held table u q))

pub conflicts-exclusive : (table : LockTable) (tx q u : ℕ) → conflicts table tx q Exclusive u ≡ (not (eqb u tx) && can_read table u q)
conflicts-exclusive table tx q u = ap (λ b. not (eqb u tx) && b) (against_exclusive (mode_held table u q))

-- locks stay compatible where one is granted that goes with all others
pub compatible_granted : (table : LockTable) (tx q : ℕ) (mode : Mode) → AreCompatible table → IsNobody (conflicts table tx q mode) → AreCompatible (granted table tx q mode)
compatible_granted table tx q Shared ok free t u p w r =
    grind (arith, nat_tests, can_write-granted table tx q Shared t p, can_read-granted table tx q Shared u p, conflicts-shared table tx q t, free t, ok t u p)
compatible_granted table tx q Exclusive ok free t u p w r =
    grind (arith, nat_tests, can_write-granted table tx q Exclusive t p, can_read-granted table tx q Exclusive u p, conflicts-exclusive table tx q u, conflicts-exclusive table tx q t, free u, free t, ok t u p, writer_reads table t p)

pub compatible_released : (table : LockTable) (tx : ℕ) → AreCompatible table → AreCompatible (released table tx)
compatible_released table tx ok t u p w r = ok t u p (grind (arith, can_write-released table tx t p)) (grind (arith, can_read-released table tx u p))

-- a lock adds at most one page to those of its transaction
pub page_count-granted : (table : LockTable) (tx q : ℕ) (mode : Mode) (u : ℕ) → page_count (granted table tx q mode) u ≤ page_count table u + cond (eqb u tx) 1 0
page_count-granted table tx q mode u =
    grind (arith, nat_tests, pages_of-granted table tx q mode u, map.len-insert nat_cmp_total (pages_of table tx) q (stronger (mode_held table tx q) mode))

-- the holders are still among the open transactions, where tx is one of them
pub among_granted : (table : LockTable) (tx q : ℕ) (mode : Mode) (active : List ℕ) → HoldersAreAmong table active → list_any (λ n. eqb n tx) active ≡ true → HoldersAreAmong (granted table tx q mode) active
among_granted table tx q mode active among one u holds = grind (arith, nat_tests, get_inserted table.held tx (with_page (pages_of table tx) q mode) u, among u)

-- who has released its locks holds none
pub no_holder-released : (table : LockTable) (tx : ℕ) → is_holder (released table tx) tx ≡ false
no_holder-released table tx = grind (arith, nat_tests, get_removed table.held tx tx)

pub not_some : {X : Type 0} (o : Option X) → ¬ (is_some o ≡ true) → o ≡ None
not_some None h = refl
not_some (Some x) h = absurd (h refl)

-- nothing is stronger than an exclusive lock
pub stronger_exclusive : (held : Option Mode) → stronger held Exclusive ≡ Exclusive
stronger_exclusive None = refl
stronger_exclusive (Some Shared) = refl
stronger_exclusive (Some Exclusive) = refl

-- a map whose keys stand in a list has no more entries than the list
pub keys_within : {X : Type 0} (numbers : List ℕ) (m : map.FinMap nat_cmp X) → ((k : ℕ) → is_some (map.get m k) ≡ true → list_any (λ n. eqb n k) numbers ≡ true) → map.len m ≤ length numbers
keys_within {X = X} [] m within =
    let none : m ≡ map.empty = same_entries m map.empty (λ q. not_some (map.get m q) (λ some. false≢true (within q some)) ∙ sym (map.get-empty {X = X} nat_cmp q)) in
    grind (arith, ap map.len none, map.len-empty nat_cmp X)
keys_within (n ∷ numbers) m within =
    let fewer : map.len (map.remove m n) ≤ length numbers = keys_within numbers (map.remove m n) (λ k some. grind (arith, nat_tests, get_removed m n k, within k)) in
    grind (arith, map.len-remove nat_cmp_total m n)

page_for : (table : LockTable) (tx q : ℕ) (mode : Mode) → page_count table tx ≤ 300 → (page_count table tx < 300) ⊎ (can_read table tx q ≡ true) → map.len (with_page (pages_of table tx) q mode) ≤ 300
page_for table tx q mode most more =
    elim more [
      | inl fewer ↦ grind (arith, map.len-insert nat_cmp_total (pages_of table tx) q (stronger (mode_held table tx q) mode))
      | inr there ↦ grind (arith, map.len-insert nat_cmp_total (pages_of table tx) q (stronger (mode_held table tx q) mode))
    ]

-- where all holders are among the open transactions, which are no more than there is room for, there is room for a lock
pub room_to_grant : (table : LockTable) (tx q : ℕ) (mode : Mode) (active : List ℕ) → HoldersAreAmong table active → list_any (λ n. eqb n tx) active ≡ true → length active ≤ table.max_open
    → ((u : ℕ) → page_count table u ≤ 300) → (page_count table tx < 300) ⊎ (can_read table tx q ≡ true) → HasRoom (granted table tx q mode)
room_to_grant table tx q mode active among one few pages more = record {
  holders =
      let within : map.len (granted table tx q mode).held ≤ length active = keys_within active (granted table tx q mode).held (among_granted table tx q mode active among one) in
      omega arith;
  pages = λ u. grind (arith, nat_tests, pages_of-granted table tx q mode u, pages u, page_for table tx q mode (pages tx) more);
}

-- a lock makes at most one transaction more a holder
pub holders-granted : (table : LockTable) (tx q : ℕ) (mode : Mode) → map.len (granted table tx q mode).held ≤ map.len table.held + 1
holders-granted table tx q mode = grind (arith, map.len-insert nat_cmp_total table.held tx (with_page (pages_of table tx) q mode))

-- there is room for a lock where there is room for one more of everything
pub room_for_few : (table : LockTable) (tx q n : ℕ) (mode : Mode) → HasAtMost n table → n < table.max_open → n < 300 → HasRoom (granted table tx q mode)
room_for_few table tx q n mode few more fits = record {
  holders = grind (arith, few.holders, holders-granted table tx q mode);
  pages = λ u. grind (arith, few.pages u, page_count-granted table tx q mode u);
}

pub few_granted : (table : LockTable) (tx q n : ℕ) (mode : Mode) → HasAtMost n table → HasAtMost (n + 1) (granted table tx q mode)
few_granted table tx q n mode few = record {
  holders = grind (arith, few.holders, holders-granted table tx q mode);
  pages = λ u. grind (arith, few.pages u, page_count-granted table tx q mode u);
}

pub few_none : (n : ℕ) → HasAtMost 0 (no_locks n)
few_none n = record {
  holders = grind (arith, map.len-empty nat_cmp Modes);
  pages = λ u. grind (arith, map.get-empty {X = Modes} nat_cmp u, map.len-empty nat_cmp Mode);
}
