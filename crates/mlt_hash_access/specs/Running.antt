-- All running subtransactions at once: what is always true of them, which pages are clean, and what each event makes of
-- them
use Rattle.std.specs.Prelude.{ℕ, ◌≡◌, ◌≢◌, ◌≤◌, Bool, true, false, is_some, unwrap_or, Option, Some}
use Rattle.std.specs.FinMap as map
use Rattle.mlt_page.specs.{declared.page.Page.Page, Stores.PageStore, Stores.page_at}
use Rattle.mlt_page_locks.specs.LockTables.{AreCompatible, LockTable, is_holder, no_locks, page_count}
use Rattle.mlt_page_locks.specs.Requests.{released}
use Rattle.mlt_page_subtx.specs.{Images.Images, Images.put_back, Locking.LocksPagesThere}
use Rattle.mlt_hash_access.specs.{LocalStates.LocalState, Views.view_of, CleanPages.ImagesAreLocked, CleanPages.ImagesAreThere, CleanPages.RunningImages, CleanPages.clean_pages}

-- the first images that each open transaction keeps, the page locks of all of them, and the store; a transaction that
-- is open and runs no subtransaction keeps none
pub record AllRunning : Type 0 where
  pub images : RunningImages
  pub locks : LockTable
  pub store : PageStore

-- whether the transaction is open
abbrev pub is_open : AllRunning → ℕ → Bool
is_open all tx = is_some (map.get all.images tx)

-- the images that it keeps
abbrev pub images_by : AllRunning → ℕ → Images
images_by all tx = unwrap_or (map.get all.images tx) map.empty

-- what the next step of a transaction works on
abbrev pub local_of : AllRunning → ℕ → LocalState
local_of all tx = record {
  running = record { tx = tx; images = images_by all tx };
  locks = all.locks;
  store = all.store;
}

-- the pages as they were before all running subtransactions
abbrev pub clean_of : AllRunning → ℕ → Option Page
clean_of all = page_at (clean_pages all.images all.store.pages)

-- What is always true, from which each open transaction may step: locks are compatible, and of
-- pages that are there; what a transaction wrote is there, and locked exclusively; who holds a page
-- is open, and holds at most 300; and no more are open than there is room for.
pub record AllMayStep (all : AllRunning) : Type 0 where
  pub compatible : AreCompatible all.locks
  pub locks_there : LocksPagesThere all.locks all.store.pages
  pub images_locked : ImagesAreLocked all.images all.locks
  pub images_there : ImagesAreThere all.images all.store.pages
  pub holders_open : (tx : ℕ) → is_holder all.locks tx ≡ true → is_open all tx ≡ true
  pub few_pages : (tx : ℕ) → page_count all.locks tx ≤ 300
  pub few_open : map.len all.images ≤ all.locks.max_open

-- the transaction is open, holds no page and keeps no image
pub record HoldsNothing (all : AllRunning) (tx : ℕ) : Type 0 where
  pub no_images : map.get all.images tx ≡ Some map.empty
  pub no_locks : is_holder all.locks tx ≡ false

-- what an event of one transaction leaves: all may still step, and each other holds, sees and keeps what it did
pub record KeepsRunning (tx : ℕ) (old new : AllRunning) : Type 0 where
  pub may : AllMayStep new
  pub views : (u : ℕ) → u ≢ tx → view_of (local_of new u) ≡ view_of (local_of old u)
  pub images : (u : ℕ) → u ≢ tx → map.get new.images u ≡ map.get old.images u
  pub holders : (u : ℕ) → u ≢ tx → is_holder new.locks u ≡ is_holder old.locks u

-- at first nobody is open
abbrev pub nobody_running : ℕ → PageStore → AllRunning
nobody_running max_open store = record {
  images = map.empty;
  locks = no_locks max_open;
  store = store;
}

-- a transaction begins
abbrev pub after_begin : AllRunning → ℕ → AllRunning
after_begin all tx = record all { images = map.insert all.images tx map.empty }

-- a step of one transaction leads to this state
abbrev pub after_step : AllRunning → LocalState → AllRunning
after_step all m = record {
  images = map.insert all.images m.running.tx m.running.images;
  locks = m.locks;
  store = m.store;
}

-- a subtransaction ends
abbrev pub after_end : AllRunning → ℕ → AllRunning
after_end all tx = record {
  images = map.insert all.images tx map.empty;
  locks = released all.locks tx;
  store = all.store;
}

-- a subtransaction is rolled back
abbrev pub after_roll_back : AllRunning → ℕ → AllRunning
after_roll_back all tx = record {
  images = map.insert all.images tx map.empty;
  locks = released all.locks tx;
  store = record all.store { pages = put_back (images_by all tx) all.store.pages };
}

-- a transaction closes
abbrev pub after_close : AllRunning → ℕ → AllRunning
after_close all tx = record all { images = map.remove all.images tx }
