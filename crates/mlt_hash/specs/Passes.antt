-- Passes: in which modes they lock, and which one follows where a bucket has no room
use Rattle.std.specs.Prelude.{ℕ, ◌≡◌, ◌<◌, ◌≤◌, ◌+◌, ◌⊎◌, true, false, Bool, Option, Some, None}
use Rattle.mlt_types.specs.declared.mode.Mode.{Mode, TheVariants.Shared, TheVariants.Exclusive}
use Rattle.mlt_page.specs.declared.{page.Page.Page, slot.Slot.Slot, slot.Slot.TheVariants.Live, slot.Slot.TheVariants.Ghost}
use Rattle.mlt_page_locks.specs.{LockTables.Modes, Requests.with_page}
use Rattle.mlt_hash.specs.declared.pass.{Pass.Pass, Pass.TheVariants.First, Pass.TheVariants.Narrow, Pass.TheVariants.Wide, Phase.Phase, Phase.TheVariants.Full, Change.Change, Change.TheVariants.Put, Change.TheVariants.Revive, Change.TheVariants.Set, Change.TheVariants.Remove}

-- the modes of the header, of the directory page and of the bucket, which a first pass locks in the walk's own mode
abbrev pub header_mode : Pass → Mode
header_mode First = Shared
header_mode Narrow = Shared
header_mode Wide = Exclusive

abbrev pub directory_mode : Pass → Mode
directory_mode First = Shared
directory_mode Narrow = Exclusive
directory_mode Wide = Exclusive

abbrev pub bucket_mode : Pass → Mode → Mode
bucket_mode First mode = mode
bucket_mode Narrow mode = Exclusive
bucket_mode Wide mode = Exclusive

-- the pages that a pass holds up to its bucket, one more at a time, beside those that it held before, and nothing else
abbrev pub header_held : Modes → Pass → ℕ → Modes
header_held before pass root = with_page before root (header_mode pass)

abbrev pub directory_held : Modes → Pass → ℕ → ℕ → Modes
directory_held before pass root dir = with_page (header_held before pass root) dir (directory_mode pass)

abbrev pub bucket_held : Modes → Pass → Mode → ℕ → ℕ → ℕ → Modes
bucket_held before pass mode root dir bucket =
    with_page (directory_held before pass root dir) bucket (bucket_mode pass mode)

-- which other pages a pass may hold, by what the clean pages have of each and whether the pass has written or made it: a first
-- pass none, a narrow pass those that it made, and a wide one those that it wrote or made
abbrev pub MayHoldMore : Pass → Option (Option Page) → Bool → Type 0
MayHoldMore First seen written = ⊥
MayHoldMore Narrow seen written = (seen ≡ Some None) × (written ≡ true)
MayHoldMore Wide seen written = written ≡ true

-- of a bucket of depth l: the least depth up to `most` at which it has room, where `crowded` says at which depths it has
-- none; and l where it has none at all
abbrev pub HasRoomFrom : (ℕ → Bool) → ℕ → ℕ → ℕ → Type 0
HasRoomFrom crowded l most d = (l ≤ d) × (d ≤ most) × (crowded d ≡ false) × ((e : ℕ) → l ≤ e → e < d → crowded e ≡ true)

abbrev pub NeverHasRoom : (ℕ → Bool) → ℕ → ℕ → Type 0
NeverHasRoom crowded l most = (e : ℕ) → l ≤ e → e ≤ most → crowded e ≡ true

abbrev pub NeedsDepth : (ℕ → Bool) → ℕ → ℕ → ℕ → Type 0
NeedsDepth crowded l most d = HasRoomFrom crowded l most d ⊎ (NeverHasRoom crowded l most × (d ≡ l))

-- the pass may be narrow: the directory of depth g needn't be doubled, and one page of it has all entries of the bucket
abbrev pub MayBeNarrow : (ℕ → Bool) → ℕ → ℕ → ℕ → Type 0
MayBeNarrow crowded l most g = (d : ℕ) × NeedsDepth crowded l most d × (d ≤ g) × (g ≤ l + 8)

abbrev pub IsNextPass : (ℕ → Bool) → ℕ → ℕ → ℕ → Pass → Type 0
IsNextPass crowded l most g First = ⊥
IsNextPass crowded l most g Narrow = MayBeNarrow crowded l most g
IsNextPass crowded l most g Wide = MayBeNarrow crowded l most g → ⊥

-- which pass follows one that found its bucket full
abbrev pub next_of : Phase → Pass
next_of (Full next) = next
next_of other = First

-- the value that the key has once a change is made
abbrev pub value_after : Change → Option ℕ
value_after (Put value) = Some value
value_after (Revive value) = Some value
value_after (Set value) = Some value
value_after Remove = None

-- the change that gives a key's record this value, or removes it where there is none
abbrev pub change_to : Option ℕ → Change
change_to (Some value) = Set value
change_to None = Remove

-- what stands in its slot once a change is made
abbrev pub slot_after : Change → ℕ → ℕ → Slot
slot_after (Put value) key tx = Live key value
slot_after (Revive value) key tx = Live key value
slot_after (Set value) key tx = Live key value
slot_after Remove key tx = Ghost key 0 tx
