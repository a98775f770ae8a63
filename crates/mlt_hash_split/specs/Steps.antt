-- Which page each step of a split locks, writes or makes
use Rattle.std.specs.Prelude.{ℕ, ◌≡◌, ◌/◌, slice_index, Some}
use Rattle.mlt_types.specs.declared.mode.Mode.TheVariants.{Exclusive}
use Rattle.mlt_page.specs.{Bits.first_bits, Values.HeadFields, declared.page.Page.Page}
use Rattle.mlt_hash_access.specs.{LocalStates.LocalState, PageSteps.LocksPage, PageSteps.MakesLockedPage, PageSteps.WritesHeldPage, Views.View, Views.view_over}
use Rattle.mlt_hash_split.specs.{Rests.SplitTarget, Rests.held_page, Rests.seed_of, Splits.SplitFields, declared.phase.SplitPhase.SplitPhase, declared.split.SplitAnswer.SplitAnswer}

-- page n of the directory is the one at this place of the header, which the walk holds
abbrev pub IsDirectoryPage : SplitTarget → View → ℕ → ℕ → Type 0
IsDirectoryPage target view place n =
    (header : HeadFields)
    × (held_page view target.root ≡ Some (Page.Head header))
    × (n ≡ slice_index header.dirs place)

-- page n of the directory is the one of the place that the key leads to, by the header that the walk holds
abbrev pub IsKeysPage : SplitTarget → View → ℕ → Type 0
IsKeysPage target view n = (header : HeadFields) × (held_page view target.root ≡ Some (Page.Head header))
    × (n ≡ slice_index header.dirs (first_bits header.depth (seed_of target) / 256))

-- page n is the next one to be locked, and then written: only pages of the directory that was there before are locked
abbrev pub IsNextPage : SplitPhase → SplitTarget → View → ℕ → Type 0
IsNextPage SplitPhase.OldBucket target view n = ⊥
IsNextPage (SplitPhase.InPlace place end) target view n = IsDirectoryPage target view place n
IsNextPage (SplitPhase.Double place) target view n = IsDirectoryPage target view place n
IsNextPage (SplitPhase.SecondHalf place) target view n = ⊥
IsNextPage SplitPhase.Header target view n = ⊥

-- a page is to be made
abbrev pub IsMaking : SplitPhase → Type 0
IsMaking SplitPhase.OldBucket = ⊥
IsMaking (SplitPhase.InPlace place end) = ⊥
IsMaking (SplitPhase.Double place) = ⊥
IsMaking (SplitPhase.SecondHalf place) = Unit {0}
IsMaking SplitPhase.Header = ⊥

-- the next page was locked exclusively, and then written
abbrev pub LocksAndWrites : SplitTarget → LocalState → LocalState → ℕ → Type 0
LocksAndWrites target old new place = (n : ℕ)
    × IsDirectoryPage target (view_over target.before old) place n
    × ((mid : LocalState) × LocksPage old mid n Exclusive
    × ((page : Page) × WritesHeldPage mid new n page))

-- a step was done: one page was written, and locked before where it is of the directory, or made; and that is all
abbrev pub IsDone : SplitPhase → SplitTarget → LocalState → LocalState → SplitFields → Type 0
IsDone SplitPhase.OldBucket target old new split = (page : Page) × WritesHeldPage old new split.old_page page
IsDone (SplitPhase.InPlace place end) target old new split = LocksAndWrites target old new place
IsDone (SplitPhase.Double place) target old new split = LocksAndWrites target old new place
IsDone (SplitPhase.SecondHalf place) target old new split =
    (n : ℕ) × (page : Page) × MakesLockedPage old new n page
IsDone SplitPhase.Header target old new split = (page : Page) × WritesHeldPage old new target.root page

-- a step was refused: at most the page of the directory was locked that was to be written
abbrev pub IsLeft : SplitPhase → SplitTarget → LocalState → LocalState → Type 0
IsLeft SplitPhase.OldBucket target old new = new ≡ old
IsLeft (SplitPhase.InPlace place end) target old new =
    (n : ℕ) × IsDirectoryPage target (view_over target.before old) place n × LocksPage old new n Exclusive
IsLeft (SplitPhase.Double place) target old new =
    (n : ℕ) × IsDirectoryPage target (view_over target.before old) place n × LocksPage old new n Exclusive
IsLeft (SplitPhase.SecondHalf place) target old new = new ≡ old
IsLeft SplitPhase.Header target old new = new ≡ old

-- what a step did to locks and pages, by its answer
abbrev pub Touches : SplitAnswer → SplitTarget → LocalState → LocalState → SplitFields → Type 0
Touches SplitAnswer.Going target old new split = IsDone split.phase target old new split
Touches (SplitAnswer.Closed n) target old new split = IsDone split.phase target old new split
Touches (SplitAnswer.Waiting n by) target old new split = new ≡ old
Touches (SplitAnswer.Refused reason) target old new split = IsLeft split.phase target old new
