-- Laws of locked pages: they are there, whatever locks are granted and whatever is written. Other crates cite them.
use Rattle.std.proofs.Common.{◌≡◌, ℕ, true, is_some, sym, subst, inl, inr, arith, nat_cmp}
use Rattle.std.specs.FinMap as map
use Rattle.mlt_page_subtx.proofs.Names.{false≢true, nat_tests, Page, Pages, page_at, get_inserted}
use Rattle.std.proofs.lemmas.Bool.{cases_eq}
use Rattle.mlt_types.specs.declared.mode.Mode.{Mode}
use Rattle.mlt_page_locks.{specs.LockTables.LockTable, specs.LockTables.Modes, specs.LockTables.no_locks, specs.Requests.granted, proofs.LockLaws.can_read-granted}
use Rattle.mlt_page_subtx.specs.Locking.{LocksPagesThere}

-- locked pages are there: none is locked at first,
pub locks_there-none : (max_open : ℕ) (pages : Pages) → LocksPagesThere (no_locks max_open) pages
locks_there-none max_open pages u p reads = absurd (false≢true (grind (arith, reads, map.get-empty {X = Modes} nat_cmp u, map.get-empty {X = Mode} nat_cmp p)))

-- a lock is granted on one that is,
pub locks_there-granted : (locks : LockTable) (pages : Pages) (tx q : ℕ) (mode : Mode) → LocksPagesThere locks pages → is_some (page_at pages q) ≡ true → LocksPagesThere (granted locks tx q mode) pages
locks_there-granted locks pages tx q mode there is u p reads =
    elim (cases_eq p q) [
      | inl here ↦ subst (λ p. is_some (page_at pages p) ≡ true) (sym here) is
      | inr elsewhere ↦ there u p (grind (arith, nat_tests, reads, can_read-granted locks tx q mode u p))
    ]

-- or a page is written or made
pub locks_there-written : (locks : LockTable) (pages : Pages) (q : ℕ) (page : Page) → LocksPagesThere locks pages → LocksPagesThere locks (map.insert pages q page)
locks_there-written locks pages q page there u p reads = grind (arith, nat_tests, get_inserted pages q page p, there u p reads)
