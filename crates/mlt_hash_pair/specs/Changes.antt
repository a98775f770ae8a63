-- What the changes of a pair tell, and where it stands behind them
use Rattle.std.specs.Prelude.{ℕ, ◌≡◌, ◌≢◌, ◌<◌, ◌≤◌, ◌⊎◌, Option, None, Some}
use Rattle.std.specs.Ordering.{nat_cmp}
use Rattle.std.specs.FinMap as map
use Rattle.std.specs.FinSet as set
use Rattle.mlt_page.specs.{declared.page.Page.Page, Values.BucketFields}
use Rattle.mlt_hash_form.specs.File.{FilePages, GivesPseudokeys, HasForm, lead_of, look_up}
use Rattle.mlt_hash_form.specs.{Held.Agrees, Held.AreKeptToo, Held.over, Plans.WriteFields, Plans.planned_page}
use Rattle.mlt_hash_access.specs.LocalStates.{LocalState}
use Rattle.mlt_hash_access.specs.Views.{IsSameView, ReadsHeldBucket, View, WritesPage, view_of}
use Rattle.mlt_hash_pair.specs.{Pairs.HoldsDescents, Pairs.IsFound, Pairs.PairFields, Pairs.later_page, Plans.FitsFound, Plans.HasNoPlan, Plans.IsPlan, Descents.HasRead, Descents.found_of, Descents.page_of, declared.asked.PairChanges.PairChanges, declared.asked.RecordChange.RecordChange, declared.answer.ChangeAnswer.ChangeAnswer, declared.answer.Side.Side}

-- what is asked fits what was found of both keys
abbrev pub FitsBoth : PairChanges → PairFields → Type 0
FitsBoth changes pair =
    FitsFound changes.left (found_of pair.left_descent)
    × FitsFound changes.right (found_of pair.right_descent)

-- the change of a key's record in the bucket on page q fits the file as it is written, over these clean pages
pub record FitsWritten (bits : ℕ → ℕ) (root key q : ℕ) (change : RecordChange) (view : View)
    (clean : FilePages) : Type 0 where
  pub bounded : GivesPseudokeys bits
  pub agrees : Agrees view.seen clean
  pub form : HasForm bits (over clean view.own) root
  pub leads : lead_of (over clean view.own) root (bits key) ≡ q
  pub fits : FitsFound (Some change) (look_up bits (over clean view.own) root key)

-- transaction tx has changed the record of a key in the bucket on page q: the slot that is planned is set
pub record MakesChange (change : RecordChange) (active : set.FinSet nat_cmp) (tx key q : ℕ)
    (old new : View) : Type 0 where
  pub bucket : BucketFields
  pub reads : ReadsHeldBucket old q bucket
  pub write : WriteFields
  pub plan : IsPlan change active tx key q bucket write
  pub writes : WritesPage old new q (planned_page bucket write)

-- it has made the change that is asked for, if there is one
abbrev pub MakesAsked : Option RecordChange → set.FinSet nat_cmp → ℕ → ℕ → ℕ → View → View → Type 0
MakesAsked None active tx key q old new = IsSameView old new
MakesAsked (Some change) active tx key q old new = MakesChange change active tx key q old new

-- The change of a key's record in the bucket on page q is planned, and still to be written.
pub record OwesChange (asked : Option RecordChange) (active : set.FinSet nat_cmp)
    (tx key q : ℕ) (view : View) (owed : Option WriteFields) : Type 0 where
  pub change : RecordChange
  pub asked_is : asked ≡ Some change
  pub bucket : BucketFields
  pub reads : ReadsHeldBucket view q bucket
  pub write : WriteFields
  pub owed_is : owed ≡ Some write
  pub plan : IsPlan change active tx key q bucket write

-- the bucket on page q has no room for the record that is asked for
pub record IsFull (asked : Option RecordChange) (active : set.FinSet nat_cmp) (tx key q : ℕ)
    (view : View) : Type 0 where
  pub change : RecordChange
  pub asked_is : asked ≡ Some change
  pub bucket : BucketFields
  pub reads : ReadsHeldBucket view q bucket
  pub none : HasNoPlan change active tx key bucket

-- what a pair is to do, and where: the changes of these keys' records, in the buckets on these pages, with these
-- transactions open
pub record Task : Type 0 where
  pub active : set.FinSet nat_cmp
  pub left : ℕ
  pub right : ℕ
  pub left_page : ℕ
  pub right_page : ℕ
  pub changes : PairChanges

abbrev pub task_of : set.FinSet nat_cmp → PairFields → ℕ → ℕ → PairChanges → Task
task_of active pair left_page right_page changes = record {
  active = active;
  left = pair.left;
  right = pair.right;
  left_page = left_page;
  right_page = right_page;
  changes = changes;
}

-- in one bucket, on page q
abbrev pub task_in : set.FinSet nat_cmp → ℕ → ℕ → ℕ → PairChanges → Task
task_in active left right q changes = record {
  active = active;
  left = left;
  right = right;
  left_page = q;
  right_page = q;
  changes = changes;
}

-- Both changes are made: in one bucket the left one first, and then the right one. Of two buckets only the later one
-- is changed.
pub record MakesBoth (task : Task) (tx : ℕ) (old new : View) : Type 0 where
  pub mid : View
  pub left : MakesAsked task.changes.left task.active tx task.left task.left_page old mid
  pub right : MakesAsked task.changes.right task.active tx task.right task.right_page mid new
  pub no_left : task.left_page < task.right_page → task.changes.left ≡ None
  pub no_right : task.right_page < task.left_page → task.changes.right ≡ None

-- The change of the later bucket is made, if one is asked for, and that of the earlier one is owed.
pub record LeavesLeft (task : Task) (tx : ℕ) (old new : View) (owed : Option WriteFields)
    : Type 0 where
  pub earlier : task.left_page < task.right_page
  pub right : MakesAsked task.changes.right task.active tx task.right task.right_page old new
  pub owes : OwesChange task.changes.left task.active tx task.left task.left_page old owed

pub record LeavesRight (task : Task) (tx : ℕ) (old new : View) (owed : Option WriteFields)
    : Type 0 where
  pub earlier : task.right_page < task.left_page
  pub left : MakesAsked task.changes.left task.active tx task.left task.left_page old new
  pub owes : OwesChange task.changes.right task.active tx task.right task.right_page old owed

-- the right key's bucket has no room for its record, once the left one's change is in it
pub record IsFullBehind (task : Task) (tx : ℕ) (old : View) : Type 0 where
  pub mid : View
  pub left : MakesAsked task.changes.left task.active tx task.left task.left_page old mid
  pub right : IsFull task.changes.right task.active tx task.right task.right_page mid

-- the same, by the pages of the pair's buckets
abbrev pub TellsOfTwo : Task → LocalState → LocalState → PairFields → PairFields → ChangeAnswer → Type 0
TellsOfTwo task old new before after ChangeAnswer.Changed =
    MakesBoth task old.running.tx (view_of old) (view_of new) × (after ≡ before)
TellsOfTwo task old new before after ChangeAnswer.OneLeft =
    (LeavesLeft task old.running.tx (view_of old) (view_of new) after.owed
    ⊎ LeavesRight task old.running.tx (view_of old) (view_of new) after.owed)
    × (after ≡ record before { owed = after.owed })
TellsOfTwo task old new before after (ChangeAnswer.Full Side.Left) =
    IsFull task.changes.left task.active old.running.tx task.left task.left_page (view_of old)
    × (new ≡ old) × (after ≡ before)
TellsOfTwo task old new before after (ChangeAnswer.Full Side.Right) =
    IsFullBehind task old.running.tx (view_of old) × (new ≡ old) × (after ≡ before)

-- What the changes of a pair are told. Changed: all is written. OneLeft: but for the change of the
-- earlier bucket. Full: this key's bucket has no room, and nothing has changed.
abbrev pub TellsOfChanges
    : set.FinSet nat_cmp → LocalState → LocalState → PairFields → PairFields → PairChanges → ChangeAnswer
    → Type 0
TellsOfChanges active old new before after changes told =
    TellsOfTwo (task_of active before (page_of before.left_descent) (page_of before.right_descent) changes)
    old new before after told

-- what a pair has read and holds, whatever it has written
pub record IsHolding (bits : ℕ → ℕ) (root : ℕ) (pair : PairFields) (view : View) : Type 0 where
  pub left : HasRead bits root pair.left view pair.left_descent
  pub right : HasRead bits root pair.right view pair.right_descent
  pub holds : HoldsDescents root pair.left_descent pair.right_descent view
  pub few : map.len view.modes ≤ 5

-- one of the pair's keys, with the page of its bucket
abbrev pub IsSide : PairFields → ℕ → ℕ → Type 0
IsSide pair key q =
    ((key ≡ pair.left) × (q ≡ page_of pair.left_descent))
    ⊎ ((key ≡ pair.right) × (q ≡ page_of pair.right_descent))

-- The write that is owed is the change of a key's record, planned when `planners` were open: no slot's room is kept now that
-- was not then. Its bucket is the earlier one, and is as it was read.
pub record Owes (active : set.FinSet nat_cmp) (tx : ℕ) (pair : PairFields) (view : View)
    (write : WriteFields) : Type 0 where
  pub key : ℕ
  pub change : RecordChange
  pub planners : set.FinSet nat_cmp
  pub bucket : BucketFields
  pub side : IsSide pair key write.number
  pub earlier : write.number ≢ later_page pair
  pub seen : view.seen write.number ≡ Some (Some (Page.Bucket bucket))
  pub plan : IsPlan change planners tx key write.number bucket write
  pub fewer : AreKeptToo active planners bucket

abbrev pub OwesIf : Option WriteFields → set.FinSet nat_cmp → ℕ → PairFields → View → Type 0
OwesIf None active tx pair view = Unit {0}
OwesIf (Some write) active tx pair view = Owes active tx pair view write

-- A pair has changed its later bucket at most, and may owe the change of the earlier one.
pub record HasChanged (bits : ℕ → ℕ) (root : ℕ) (active : set.FinSet nat_cmp) (tx : ℕ)
    (pair : PairFields) (view : View) : Type 0 where
  pub found : IsFound pair
  pub holding : IsHolding bits root pair view
  pub unwritten : (q : ℕ) → q ≢ later_page pair → view.own q ≡ None
  pub owes : OwesIf pair.owed active tx pair view

-- where a pair stands that has made its changes
abbrev pub StandsBehind
    : ChangeAnswer → (ℕ → ℕ) → ℕ → set.FinSet nat_cmp → ℕ → PairFields → View → Type 0
StandsBehind ChangeAnswer.Changed bits root active tx pair view = HasChanged bits root active tx pair view
StandsBehind ChangeAnswer.OneLeft bits root active tx pair view = HasChanged bits root active tx pair view
StandsBehind (ChangeAnswer.Full side) bits root active tx pair view = Unit {0}

-- What the last step of a pair asks: it has changed its later bucket at most, and owes the change of the earlier one.
abbrev pub MayWriteEarlier : ℕ → PairFields → View → Type 0
MayWriteEarlier tx pair view =
    (bits : ℕ → ℕ) × (root : ℕ) × (active : set.FinSet nat_cmp)
    × HasChanged bits root active tx pair view

-- the change that was owed is made
abbrev pub MakesOwed : ℕ → PairFields → View → View → Type 0
MakesOwed tx pair old new =
    (active : set.FinSet nat_cmp) (write : WriteFields) → pair.owed ≡ Some write
    → (owes : Owes active tx pair old write)
    → MakesChange owes.change owes.planners tx owes.key write.number old new

-- what was read and held is so still
abbrev pub HoldsOn : PairFields → View → View → Type 0
HoldsOn pair old new =
    (bits : ℕ → ℕ) (root : ℕ) → IsHolding bits root pair old
    → IsHolding bits root (record pair { owed = None }) new

-- on the buckets that are held no slot's room is kept now that was not before
abbrev pub KeepsNoMore : set.FinSet nat_cmp → set.FinSet nat_cmp → View → Type 0
KeepsNoMore before now view =
    (q : ℕ) (bucket : BucketFields) → view.seen q ≡ Some (Some (Page.Bucket bucket))
    → AreKeptToo now before bucket

-- of the pages that are held only the two buckets are written
abbrev pub WritesBucketsAlone : PairFields → View → Type 0
WritesBucketsAlone pair view =
    (q : ℕ) → q ≢ page_of pair.left_descent → q ≢ page_of pair.right_descent → view.own q ≡ None
