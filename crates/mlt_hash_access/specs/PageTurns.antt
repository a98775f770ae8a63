-- What one event of an operation does to locks and pages: a step on one page, and perhaps a roll back
use Rattle.std.specs.Prelude.{◌≡◌, ◌≤◌}
use Rattle.mlt_page_locks.specs.{LockTables.page_count, Requests.released}
use Rattle.mlt_page_subtx.specs.Images.{put_back, started}
use Rattle.mlt_hash_access.specs.{LocalStates.LocalState, PageSteps.TouchesOnePage}

-- One page is touched at most: it is locked and then written, or one of the two; or it is made. The transaction holds at
-- most 300 pages.
pub record TakesTurn (old new : LocalState) : Type 0 where
  pub touches : TouchesOnePage old new
  pub few : page_count new.locks old.running.tx ≤ 300

-- the first images are put back, the pages that were made are dropped, and all locks are released
pub record IsRolledBack (old new : LocalState) : Type 0 where
  pub locks : new.locks ≡ released old.locks old.running.tx
  pub running : new.running ≡ started old.running.tx
  pub store : new.store ≡ record old.store { pages = put_back old.running.images old.store.pages }

-- a turn is taken, and all is rolled back
pub record TurnsBack (old new : LocalState) : Type 0 where
  pub mid : LocalState
  pub turn : TakesTurn old mid
  pub back : IsRolledBack mid new
