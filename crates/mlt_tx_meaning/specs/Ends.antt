-- What the changes of an operation, or of an inverse, leave of the clean pages.
use Rattle.std.specs.Prelude.{ℕ, ◌≡◌, ◌≤◌, List, [], ◌∷◌, None}
use Rattle.std.specs.Ordering.{nat_cmp}
use Rattle.std.specs.FinMap as map
use Rattle.mlt_types.specs.{declared.cell.Cell.Cell, Cells.key_number}
use Rattle.mlt_page.specs.{Slots.is_kept, declared.page.Page.Page}
use Rattle.mlt_object_base.specs.declared.record.RecChange.{RecChange}
use Rattle.mlt_hash_form.specs.Changes.{ChangesRecord, IsAtHome, Spot, slot_of, slot_change}
use Rattle.mlt_hash_form.specs.{File.FilePages, File.depth_of, Held.over}
use Rattle.mlt_hash_access.specs.Views.{View}
use Rattle.mlt_hash.specs.{Passes.slot_after, Passes.value_after, Walks.StoodBefore, declared.pass.Change.Change}
use Rattle.mlt_hash_ghosts.specs.Moves.{MovesSlots}
use Rattle.mlt_tx_two_records.specs.Performing.{Performs}
use Rattle.mlt_tx_meaning.specs.AbstractStates.{AbstractState, context_of, record_at}

-- Transaction tx has changed the record of a cell, and these are the clean pages then: slots of the pages before were
-- moved, up to `rest`, and then one slot of the bucket that the key leads to was set. Nothing is said of how that
-- bucket was found, so one subtransaction may leave two changes, one after the other.
pub record LeavesChange (state : AbstractState) (tx : ℕ) (cell : Cell) (change : RecChange)
    (pages : map.FinMap nat_cmp Page) : Type 0 where
  pub rest : FilePages
  pub moves : MovesSlots state.bits (is_kept state.active) (map.get state.pages) rest state.root
  pub spot : Spot
  pub home : IsAtHome state.bits rest state.root (key_number cell) spot
  pub done : Change
  pub performs : Performs change (record_at state cell) done
  pub was : StoodBefore done (context_of state tx) (key_number cell) spot.bucket.slots (slot_of spot)
  pub changes : ChangesRecord state.bits rest (map.get pages) state.root
      (slot_change (key_number cell) (value_after done) spot.number spot.at
      (slot_after done (key_number cell) tx))
  pub shallow : depth_of (map.get pages) state.root ≤ state.max_depth

-- the clean pages are as they were
abbrev pub KeepsPages : AbstractState → map.FinMap nat_cmp Page → Type 0
KeepsPages state pages = (q : ℕ) → map.get pages q ≡ map.get state.pages q

-- What changes of records leave of the clean pages, one after the other: each is one of the pages that the one before it left,
-- whose records need mean no base. Where there is none, they stay.
abbrev pub ChangesPages : AbstractState → ℕ → List (Cell × RecChange) → map.FinMap nat_cmp Page → Type 0
ChangesPages state tx [] pages = KeepsPages state pages
ChangesPages state tx (change ∷ []) pages = LeavesChange state tx change.0 change.1 pages
ChangesPages state tx (change ∷ changes) pages =
    (between : map.FinMap nat_cmp Page) × LeavesChange state tx change.0 change.1 between
    × ChangesPages (record state { pages = between }) tx changes pages

-- a page that is not held is not seen
abbrev pub SeesHeldAlone : View → Type 0
SeesHeldAlone view = (q : ℕ) → map.get view.modes q ≡ None → view.seen q ≡ None

-- What a transaction that ends, and holds this, has written is clean then.
pub record EndsWith (state : AbstractState) (view : View) (pages : map.FinMap nat_cmp Page) : Type 0 where
  pub held : SeesHeldAlone view
  pub ends : (q : ℕ) → map.get pages q ≡ over (map.get state.pages) view.own q
