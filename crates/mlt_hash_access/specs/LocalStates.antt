-- What one step of a walk works on, and what a transaction may rely on between its steps
use Rattle.std.specs.Prelude.{ℕ, ◌≡◌, ◌≢◌, ◌<◌, true, false, is_some, Option, None}
use Rattle.mlt_types.specs.declared.mode.Mode.{Mode}
use Rattle.mlt_page.specs.{declared.page.Page.Page, Stores.Pages, Stores.PageStore, Stores.page_at}
use Rattle.mlt_page_locks.specs.LockTables.{AreCompatible, HasRoom, LockTable, can_write, page_count}
use Rattle.mlt_page_locks.specs.Requests.{granted}
use Rattle.mlt_page_subtx.specs.Images.{AreThere, Images, Running, image_of, or_image}
use Rattle.mlt_page_subtx.specs.Locking.{LocksPagesThere}
use Rattle.mlt_hash_form.specs.{File.FilePages, File.HasForm, Held.over}
use Rattle.mlt_hash_access.specs.declared.locked_store.LockedStore.{LockedStore}

-- a running subtransaction, the page locks of all transactions, and the store
pub record LocalState : Type 0 where
  pub running : Running
  pub locks : LockTable
  pub store : PageStore

-- what a transaction with this subtransaction works on
abbrev pub local : Running → LockedStore → LocalState
local running pages = record { running = running; locks = pages.locks; store = pages.store }

-- the state as another transaction has it, whose subtransaction this is
abbrev pub beside : LocalState → Running → LocalState
beside m running = record m { running = running }

-- a page with the transaction's own first image put back
abbrev pub page_before : Images → Pages → ℕ → Option Page
page_before images pages q = or_image (image_of images q) (page_at pages q)

-- Clean pages, as far as this transaction can know them: wherever no other may write, they are what it sees with its
-- own images put back; and each of them is in the store, perhaps overwritten.
pub record IsCleanFor (m : LocalState) (clean : ℕ → Option Page) : Type 0 where
  pub seen : (q : ℕ) → ((u : ℕ) → u ≢ m.running.tx → can_write m.locks u q ≡ false)
      → clean q ≡ page_before m.running.images m.store.pages q
  pub there : (q : ℕ) → is_some (clean q) ≡ true → is_some (page_at m.store.pages q) ≡ true

-- no page is written
abbrev pub no_writes : FilePages
no_writes q = None

-- there are clean pages, and with these writes over them they are a hash file
pub record HasFileOver (bits : ℕ → ℕ) (root : ℕ) (before : FilePages) (m : LocalState) : Type 0 where
  pub clean : ℕ → Option Page
  pub is_clean : IsCleanFor m clean
  pub form : HasForm bits (over clean before) root

-- the clean pages themselves are one
abbrev pub HasCleanFile : (ℕ → ℕ) → ℕ → LocalState → Type 0
HasCleanFile bits root m = HasFileOver bits root no_writes m

-- What a step relies on and leaves so: locks are compatible, and of pages that are there; the
-- transaction holds exclusively what it wrote; and there is room for a lock more while it holds
-- fewer than 300 pages.
pub record MayStep (m : LocalState) : Type 0 where
  pub compatible : AreCompatible m.locks
  pub locks_there : LocksPagesThere m.locks m.store.pages
  pub images_locked : (q : ℕ) → is_some (image_of m.running.images q) ≡ true
      → can_write m.locks m.running.tx q ≡ true
  pub images_there : AreThere m.running.images m.store.pages
  pub room : (q : ℕ) (mode : Mode) → page_count m.locks m.running.tx < 300
      → HasRoom (granted m.locks m.running.tx q mode)
