-- A transaction alone that holds nothing: where it begins, ends or is rolled back
use Rattle.std.proofs.Common.{◌≡◌, ℕ, ◌≤◌, Option, is_some, unwrap_or, refl, ap, ◌∙◌, arith, nat_cmp, rules}
use Rattle.std.specs.FinMap as map
use Rattle.mlt_hash_file.proofs.Names.{IsAtStart, LocalState, view_of, IsAlone, IsIdle, KeepsBefore, pages_before, PageStore, page_at, Page, get_removed, same_entries, LockTable, Modes, page_at-put_back, put_back, nat_tests}
use Rattle.mlt_page_locks.{proofs.LockLaws.few_none, proofs.LockLaws.room_for_few, proofs.Tables.compatible_none, specs.LockTables.no_locks, specs.Requests.released}
use Rattle.mlt_page_subtx.{proofs.LockedPages.locks_there-none, specs.Images.Running, specs.Images.started}
use Rattle.mlt_hash_access.proofs.LocalStates.{may_start}
use Rattle.mlt_hash.proofs.Laws.{at_start}
use Rattle.mlt_hash_file.proofs.Alone.{no_place}

-- **A transaction that has done nothing, beside an empty table of locks, is alone and holds nothing,**
pub at_rest : (running : Running) (locks : LockTable) (store : PageStore) (tx n : ℕ) → running ≡ started tx → locks ≡ no_locks n → 1 ≤ n
    → IsAlone (record { running = running; locks = locks; store = store }) × IsIdle (record { running = running; locks = locks; store = store })
at_rest running locks store tx n is_started none places = rw (is_started, none) (
  record {
    may = may_start (no_locks n) store tx (compatible_none n) (locks_there-none n store.pages) (λ q mode. room_for_few (no_locks n) tx q 0 mode (few_none n) (omega arith) (omega arith));
    alone = λ u ne. ap is_some (map.get-empty {X = Modes} nat_cmp u);
    places = places;
  },
  record { unwritten = refl; unheld = refl },
)

-- it finds the store as it was before,
pub idle_before : (m : LocalState) (q : ℕ) → IsIdle m → pages_before m q ≡ page_at m.store.pages q
idle_before m q idle = grind (arith, idle.unwritten, map.get-empty {X = Option Page} nat_cmp q)

pub idle_store : (m : LocalState) → IsIdle m → pages_before m ≡ page_at m.store.pages
idle_store m idle i q = idle_before m q idle i

-- and may start a walk.
pub idle_starts : (m : LocalState) → IsIdle m → IsAtStart (view_of m)
idle_starts m idle = at_start m (ap (λ held. unwrap_or (map.get held m.running.tx) map.empty) idle.unheld ∙ ap (λ (o : Option Modes). unwrap_or o map.empty) (map.get-empty {X = Modes} nat_cmp m.running.tx))

-- **So it is once its locks are released,**
pub at_rest_then : (m : LocalState) (running : Running) (locks : LockTable) (store : PageStore) → IsAlone m → running ≡ started m.running.tx → locks ≡ released m.locks m.running.tx
    → IsAlone (record { running = running; locks = locks; store = store }) × IsIdle (record { running = running; locks = locks; store = store })
at_rest_then m running locks store alone is_started released_now =
    let none : (released m.locks m.running.tx).held ≡ map.empty = same_entries _ _ (λ u. grind (arith, nat_tests, get_removed m.locks.held m.running.tx u, no_place m u alone, map.get-empty {X = Modes} nat_cmp u)) in
    at_rest running locks store m.running.tx m.locks.max_open is_started (released_now ∙ (λ i. record { held = none i; max_open = m.locks.max_open })) alone.places

-- **and with its images put back, the store is as it was before.**
pub put_back_keeps : (m new : LocalState) → IsAlone m → new.running ≡ started m.running.tx → new.locks ≡ released m.locks m.running.tx → new.store ≡ record m.store { pages = put_back m.running.images m.store.pages } → KeepsBefore m new
put_back_keeps m new alone running locks store =
    let idle : IsIdle new = (at_rest_then m new.running new.locks new.store alone running locks).1 in
    let pages : (q : ℕ) → pages_before new q ≡ pages_before m q = λ q. idle_before new q idle ∙ ap (λ (s : PageStore). page_at s.pages q) store ∙ page_at-put_back m.running.images m.store.pages q in
    search rules
