-- What a walk holds, seen apart from all that it doesn't hold: facts about a view can't be touched by what others do
use Rattle.std.specs.Prelude.{ℕ, ◌≡◌, cond, true, is_some, Option, None, Some}
use Rattle.mlt_types.specs.declared.mode.Mode.{Mode, TheVariants.Exclusive}
use Rattle.mlt_page.specs.{declared.page.Page.Page, declared.slot.Slot.Slot, Values.BucketFields, Pages.page_with_slot, Stores.page_at}
use Rattle.mlt_page_locks.specs.{LockTables.Modes, LockTables.can_read, LockTables.pages_of, Requests.with_page}
use Rattle.mlt_page_subtx.specs.Images.{image_of}
use Rattle.mlt_hash_form.specs.{File.FilePages, Held.own_or_clean}
use Rattle.mlt_hash_access.specs.LocalStates.{LocalState, page_before}

-- What a walk holds, seen apart from all that it does not hold.
pub record View : Type 0 where
  -- the pages that the transaction holds, each with its mode
  pub modes : Modes
  -- what the clean pages have of a page: `None` of one that is not held, and `Some None` of one that was made
  pub seen : ℕ → Option (Option Page)
  -- what the transaction has written there, if it has
  pub own : ℕ → Option Page

-- the page, if it has a first image
abbrev pub page_written : Option (Option Page) → Option Page → Option Page
page_written None page = None
page_written (Some first) page = page

-- what the clean pages have of page q, if it is held: what it is with its image put back
abbrev pub seen_at : LocalState → ℕ → Option (Option Page)
seen_at m q =
    cond (can_read m.locks m.running.tx q)
    (Some (page_before m.running.images m.store.pages q)) None

-- what the transaction has written on page q, if it is held
abbrev pub own_at : LocalState → ℕ → Option Page
own_at m q =
    cond (can_read m.locks m.running.tx q)
    (page_written (image_of m.running.images q) (page_at m.store.pages q)) None

-- the view of the transaction that runs
abbrev pub view_of : LocalState → View
view_of m = record { modes = pages_of m.locks m.running.tx; seen = seen_at m; own = own_at m }

-- a view that is not changed
pub record IsSameView (old new : View) : Type 0 where
  pub modes : new.modes ≡ old.modes
  pub seen : (q : ℕ) → new.seen q ≡ old.seen q
  pub own : (q : ℕ) → new.own q ≡ old.own q

-- nothing is written
abbrev pub IsUnwritten : View → Type 0
IsUnwritten view = (q : ℕ) → view.own q ≡ None

-- page q, which is held, reads as this, on whatever clean pages agree with the view
abbrev pub ReadsHeldPage : View → ℕ → Page → Type 0
ReadsHeldPage view q page =
    (first : Option Page) × (view.seen q ≡ Some first) × (own_or_clean (view.own q) first ≡ Some page)

-- page q, which is held, reads as this bucket, on whatever clean pages agree with the view
abbrev pub ReadsHeldBucket : View → ℕ → BucketFields → Type 0
ReadsHeldBucket view q bucket = ReadsHeldPage view q (Page.Bucket bucket)

-- page q is locked in this mode and reads as this, on whatever clean pages agree with the view
pub record ReadsPage (old new : View) (q : ℕ) (mode : Mode) (page : Option Page) : Type 0 where
  pub modes : new.modes ≡ with_page old.modes q mode
  pub own : (p : ℕ) → new.own p ≡ old.own p
  pub before : (p : ℕ) (first : Option Page) → old.seen p ≡ Some first → new.seen p ≡ Some first
  pub others : (p : ℕ) → (p ≡ q → ⊥) → new.seen p ≡ old.seen p
  pub first : Option Page
  pub here : new.seen q ≡ Some first
  pub reads : own_or_clean (old.own q) first ≡ page

-- page q is locked in this mode, and is seen from now on
abbrev pub SeesPage : View → View → ℕ → Mode → Type 0
SeesPage old new q mode = (page : Option Page) × ReadsPage old new q mode page

-- page q, which was held, is written
pub record WritesPage (old new : View) (q : ℕ) (page : Page) : Type 0 where
  pub modes : new.modes ≡ old.modes
  pub seen : (p : ℕ) → new.seen p ≡ old.seen p
  pub here : new.own q ≡ Some page
  pub others : (p : ℕ) → (p ≡ q → ⊥) → new.own p ≡ old.own p

-- slot i of page q, a bucket that was held, is set to s
abbrev pub WritesSlot : View → View → ℕ → ℕ → Slot → Type 0
WritesSlot old new q i s =
    (bucket : BucketFields) → ReadsHeldBucket old q bucket
    → WritesPage old new q (page_with_slot bucket i s)

-- page q, which was not there, is made and held
pub record MakesPage (old new : View) (q : ℕ) (page : Page) : Type 0 where
  pub fresh : old.seen q ≡ None
  pub modes : new.modes ≡ with_page old.modes q Exclusive
  pub seen_here : new.seen q ≡ Some None
  pub seen_others : (p : ℕ) → (p ≡ q → ⊥) → new.seen p ≡ old.seen p
  pub own_before : old.own q ≡ None
  pub own_here : new.own q ≡ Some page
  pub own_others : (p : ℕ) → (p ≡ q → ⊥) → new.own p ≡ old.own p

-- what was seen of a page, with what was written on it taken as seen, if it was written
abbrev pub seen_with : Option Page → Option (Option Page) → Option (Option Page)
seen_with None seen = seen
seen_with (Some page) seen = Some (Some page)

-- the view with these writes taken as seen: each page that they wrote was as they left it, and any other as it was seen
abbrev pub rebased : FilePages → View → View
rebased before view = record view { seen = λ q. seen_with (before q) (view.seen q) }

-- the view of the transaction that runs, with these writes taken as seen
abbrev pub view_over : FilePages → LocalState → View
view_over before m = rebased before (view_of m)

-- nothing is written but these writes, which are taken as seen
pub record IsUnwrittenSince (before : FilePages) (view : View) : Type 0 where
  pub own : (q : ℕ) → view.own q ≡ before q
  pub seen : (q : ℕ) (page : Page) → before q ≡ Some page → view.seen q ≡ Some (Some page)

-- each page that was written before is held, and written
abbrev pub HasWritten : FilePages → View → Type 0
HasWritten before view =
    (q : ℕ) → is_some (before q) ≡ true
    → (is_some (view.seen q) ≡ true) × (is_some (view.own q) ≡ true)
