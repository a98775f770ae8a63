-- One step on pages: it asks for at most one lock, and touches at most one page
use Rattle.std.specs.Prelude.{ℕ, ◌≡◌, ◌⊎◌, true, is_some, Option, None}
use Rattle.std.specs.FinMap as map
use Rattle.mlt_types.specs.declared.mode.Mode.{Mode, TheVariants.Exclusive}
use Rattle.mlt_page.specs.{declared.page.Page.Page, declared.slot.Slot.Slot, Values.BucketFields, Pages.page_with_slot, Stores.PageStore, Stores.page_at}
use Rattle.mlt_page_locks.specs.{LockTables.can_write, Requests.IsNobody, Requests.conflicts, Requests.granted}
use Rattle.mlt_page_subtx.specs.Images.{with_image}
use Rattle.mlt_hash_access.specs.{LocalStates.IsCleanFor, LocalStates.MayStep, LocalStates.LocalState, Views.ReadsHeldBucket, Views.view_of}

-- page q, which is there, is locked in this mode, against which nobody else's lock stands
pub record LocksPage (old new : LocalState) (q : ℕ) (mode : Mode) : Type 0 where
  pub free : IsNobody (conflicts old.locks old.running.tx q mode)
  pub there : is_some (page_at old.store.pages q) ≡ true
  pub locks : new.locks ≡ granted old.locks old.running.tx q mode
  pub running : new.running ≡ old.running
  pub store : new.store ≡ old.store

-- page q, which the transaction holds exclusively, is written; the first time its image is kept
pub record WritesHeldPage (old new : LocalState) (q : ℕ) (page : Page) : Type 0 where
  pub held : can_write old.locks old.running.tx q ≡ true
  pub locks : new.locks ≡ old.locks
  pub running : new.running
      ≡ record old.running { images = with_image old.running.images q (page_at old.store.pages q) }
  pub store : new.store ≡ record old.store { pages = map.insert old.store.pages q page }

-- slot i of page q, a bucket that the transaction holds exclusively, is set to s; the first time its image is kept
abbrev pub WritesHeldSlot : LocalState → LocalState → ℕ → ℕ → Slot → Type 0
WritesHeldSlot old new q i s =
    (bucket : BucketFields) → ReadsHeldBucket (view_of old) q bucket
    → WritesHeldPage old new q (page_with_slot bucket i s)

-- page q, which was not there, is made and locked
pub record MakesLockedPage (old new : LocalState) (q : ℕ) (page : Page) : Type 0 where
  pub fresh : page_at old.store.pages q ≡ None
  pub locks : new.locks ≡ granted old.locks old.running.tx q Exclusive
  pub running : new.running ≡ record old.running { images = map.insert old.running.images q None }
  pub store : new.store ≡ record old.store { pages = map.insert old.store.pages q page }

-- nothing happened, or the page was locked
abbrev pub LocksAtMost : LocalState → LocalState → ℕ → Type 0
LocksAtMost old new q = (new ≡ old) ⊎ ((mode : Mode) × LocksPage old new q mode)

-- nothing happened, or the page was written
abbrev pub WritesAtMost : LocalState → LocalState → ℕ → Type 0
WritesAtMost old new q = (new ≡ old) ⊎ ((page : Page) × WritesHeldPage old new q page)

-- a step locks and writes one page at most, or makes one
abbrev pub TouchesOnePage : LocalState → LocalState → Type 0
TouchesOnePage old new =
    (q : ℕ) × (((mid : LocalState) × LocksAtMost old mid q × WritesAtMost mid new q)
    ⊎ ((page : Page) × MakesLockedPage old new q page))

-- What each step leaves: one page was touched at most, the transaction may go on, and what was clean is.
pub record Leaves (old new : LocalState) : Type 0 where
  pub touches : TouchesOnePage old new
  pub may : MayStep new
  pub clean : (clean : ℕ → Option Page) → IsCleanFor old clean → IsCleanFor new clean

-- there are as many pages as there may be
abbrev pub HasNoPageLeft : PageStore → Type 0
HasNoPageLeft store = map.len store.pages ≡ store.max_pages
