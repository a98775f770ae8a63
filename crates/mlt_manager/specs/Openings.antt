-- A manager as it is made
use Rattle.std.specs.Prelude.{ℕ, ◌≡◌, []}
use Rattle.std.specs.FinMap as map
use Rattle.std.specs.FinSet as set
use Rattle.mlt_types.specs.declared.limits.Limits.{Limits}
use Rattle.mlt_page.specs.Stores.{page_at}
use Rattle.mlt_page_locks.specs.LockTables.{no_locks}
use Rattle.mlt_object_locks.specs.Locks as objects
use Rattle.mlt_hash_form.specs.Changes.{IsOpening}
use Rattle.mlt_manager.specs.Managers.{ManagerFields}

-- It was made with these limits and this function from keys to pseudokeys. No event changes them.
pub record IsMadeWith {P : Type 0} (m : ManagerFields P) (limits : Limits) (pseudo : P)
    : Type 0 where
  pub open_at_most : m.max_open ≡ limits.max_open
  pub ids : m.max_ids ≡ limits.max_ids
  pub pages : m.max_pages ≡ limits.max_pages
  pub depth : m.root.max_depth ≡ limits.max_depth
  pub ops : m.max_ops ≡ limits.max_ops
  pub keys : m.root.pseudo ≡ pseudo

-- Nothing has begun, nothing is locked, and the pages are a file without records.
pub record IsNew {P : Type 0} (m : ManagerFields P) (limits : Limits) (pseudo : P) : Type 0 where
  pub made : IsMadeWith m limits pseudo
  pub dir : ℕ
  pub bucket : ℕ
  pub file : IsOpening (page_at m.shared.pages.store.pages) m.root.page dir bucket
  pub page_limit : m.shared.pages.store.max_pages ≡ limits.max_pages
  pub page_locks : m.shared.pages.locks ≡ no_locks limits.max_open
  pub object_locks : m.shared.objects ≡ objects.no_locks
  pub items : m.shared.history.items ≡ []
  pub handed : m.shared.history.handed ≡ []
  pub room : m.shared.history.room ≡ 0
  pub txs : m.txs ≡ map.empty
  pub active : m.active ≡ set.empty
  pub begun : m.begun ≡ 0
  pub commits : m.commits ≡ 0
  pub events : m.events ≡ 0
