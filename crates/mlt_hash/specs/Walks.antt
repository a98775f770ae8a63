-- Where a walk stands, by its phase: which pages it holds, and what it has read of them. Each fact is about these pages
-- alone, so that what other transactions do can't touch it.
use Rattle.std.specs.Prelude.{ℕ, ◌≡◌, ◌≢◌, ◌⊎◌, ◌<◌, ◌≤◌, ◌+◌, ◌-◌, ◌^◌, Bool, IsSome, true, false, List, slice_index, slice_index_or, Option, Some, None, is_some, position}
use Rattle.std.specs.Ordering.{nat_cmp}
use Rattle.std.specs.FinMap as map
use Rattle.std.specs.FinSet as set
use Rattle.mlt_types.specs.declared.mode.Mode.{Mode, TheVariants.Exclusive}
use Rattle.mlt_page.specs.{Slots.is_ghost_of, Slots.is_kept, Slots.is_live_of, declared.slot.Slot.Slot, declared.slot.Slot.TheVariants.Free, declared.slot.Slot.TheVariants.Ghost, declared.slot.Slot.TheVariants.Live, declared.page.Page.Page, Values.BucketFields, Values.HeadFields}
use Rattle.mlt_hash_form.specs.{Form.is_used, Form.value_in, Changes.IsHome, Changes.slot_change, Held.Agrees, Held.ChangesFile, Held.over, declared.root.Root.Root}
use Rattle.mlt_hash_form.specs.File.{FilePages, HasForm, bucket_of, depth_of, dir_of, row_of}
use Rattle.mlt_hash_access.specs.{LocalStates.HasFileOver, LocalStates.MayStep, LocalStates.LocalState, LocalStates.no_writes, Reading.HasReadBucket}
use Rattle.mlt_hash_access.specs.Views.{HasWritten, IsUnwritten, IsUnwrittenSince, View, view_of, view_over}
use Rattle.mlt_page_locks.specs.LockTables.{Modes}
use Rattle.mlt_hash_split.specs.{Rests.SplitTarget, Rests.HoldsAmong, Rests.IsAtRest, Rests.held_page, Splits.IsUnderWay, Splits.SplitFields, declared.environment.Environment.Environment}
use Rattle.mlt_hash.specs.Passes.{MayHoldMore, bucket_held, bucket_mode, directory_held, directory_mode, header_held, header_mode, slot_after, value_after}
use Rattle.mlt_hash.specs.declared.pass.{Pass.Pass, Phase.Phase, Change.Change}

-- what a contract sees of a walk
pub record WalkFields : Type 0 where
  pub key : ℕ
  pub mode : Mode
  pub pass : Pass
  pub phase : Phase
  pub split : Option SplitFields

-- what a walk did before it went on to its key: the pages that it wrote, those that it holds, and how many of these are
-- buckets, at most
pub record Before : Type 0 where
  pub written : FilePages
  pub held : Modes
  pub buckets : ℕ

-- it did nothing: this is its first key
abbrev pub nothing_before : Before
nothing_before = record { written = no_writes; held = map.empty; buckets = 0 }

-- All that it has done for its first key. One key has 17 buckets at most: the first one, and one of each split.
abbrev pub before_of : View → Before
before_of view = record { written = view.own; held = view.modes; buckets = 17 }

-- a record, or a ghost that this transaction left
abbrev pub IsOwnSlot : ℕ → Slot → Type 0
IsOwnSlot tx Free = ⊥
IsOwnSlot tx (Live key value) = Unit {0}
IsOwnSlot tx (Ghost key value owner) = owner ≡ tx

-- slot i of a page, which is free where that is no bucket
abbrev pub slot_on : Option Page → ℕ → Slot
slot_on page i = slice_index_or (bucket_of page).slots i Free

-- Each slot of a page that was written is free, a record, a ghost that this transaction left, or
-- one that stood at the same place of a page that was seen.
abbrev pub SlotsStood : FilePages → ℕ → View → Type 0
SlotsStood written tx view =
    (n : ℕ) (page : Page) → written n ≡ Some page
    → (i : ℕ) → is_used (slot_on (Some page) i) ≡ true
    → IsOwnSlot tx (slot_on (Some page) i)
    ⊎ ((o : ℕ) × (first : Option Page) × (view.seen o ≡ Some first)
    × (slot_on first i ≡ slot_on (Some page) i))

-- what a walk goes by: the function of keys, who is open, the header's page, how deep the directory may get, whose
-- walk it is, and what it did before
pub record WalkContext : Type 0 where
  pub bits : ℕ → ℕ
  pub active : set.FinSet nat_cmp
  pub root : ℕ
  pub max_depth : ℕ
  pub tx : ℕ
  pub before : Before

-- what a walk goes by that did this before
abbrev pub context_after : Before → WalkContext → WalkContext
context_after before context = record context { before = before }

-- what a walk to its first key goes by: it did nothing before
abbrev pub one_key : WalkContext → WalkContext
one_key context = context_after nothing_before context

-- what a walk of transaction tx to its first key goes by that has this root, with these transactions open
abbrev pub context_by : {P : Type 0} → (P → ℕ → ℕ) → Root P → set.FinSet nat_cmp → ℕ → WalkContext
context_by bits_of root active tx = record {
  bits = bits_of root.pseudo;
  active = active;
  root = root.page;
  max_depth = root.max_depth;
  tx = tx;
  before = nothing_before;
}

-- what it goes by in this environment
abbrev pub context_in : {P : Type 0} → (P → ℕ → ℕ) → Environment P → ℕ → WalkContext
context_in bits_of environment tx = context_by bits_of environment.root.now environment.active.now tx

-- what a walk holds and sees, where what it wrote before is taken as seen
abbrev pub view_for : WalkContext → LocalState → View
view_for context m = view_over context.before.written m

-- only a wide pass goes on to another key
abbrev pub GoesAfter : Pass → Before → Type 0
GoesAfter Pass.Wide before = before.buckets ≤ 17
GoesAfter other before = before ≡ nothing_before

-- all pages that are held stand in a list of at most so many and the pages of the directory, and so do these
abbrev pub HoldsBeside : View → HeadFields → ℕ → Type 0
HoldsBeside view header others =
    HoldsAmong view header.dirs header.dirs 0 (2 ^ (header.depth - 8)) 0
    (others + 2 ^ (header.depth - 8))

-- nothing is held or written
pub record IsAtStart (view : View) : Type 0 where
  pub unwritten : IsUnwritten view
  pub unheld : view.modes ≡ map.empty
  pub unseen : (q : ℕ) → view.seen q ≡ None

-- nothing was held or written before either
abbrev pub StartsAnew : WalkContext → View → Type 0
StartsAnew context view = IsAtStart view × (context.before ≡ nothing_before)

-- the header is held and read
pub record IsHeaded (context : WalkContext) (walk : WalkFields) (view : View) (dir row depth : ℕ) : Type 0 where
  pub goes_after : GoesAfter walk.pass context.before
  pub unwritten : IsUnwrittenSince context.before.written view
  pub header : HeadFields
  pub held : view.modes ≡ header_held context.before.held walk.pass context.root
  pub among : HoldsBeside view header (context.before.buckets + 1)
  pub head : view.seen context.root ≡ Some (Some (Page.Head header))
  pub dir_is : dir ≡ dir_of header (context.bits walk.key)
  pub row_is : row ≡ row_of header (context.bits walk.key)
  pub depth_is : depth ≡ header.depth
  pub shallow : header.depth ≤ context.max_depth

-- so is the directory page of the key's place
pub record IsPlaced (context : WalkContext) (walk : WalkFields) (view : View) (bucket depth : ℕ) : Type 0 where
  pub goes_after : GoesAfter walk.pass context.before
  pub unwritten : IsUnwrittenSince context.before.written view
  pub header : HeadFields
  pub held : view.modes
      ≡ directory_held context.before.held walk.pass context.root (dir_of header (context.bits walk.key))
  pub among : HoldsBeside view header (context.before.buckets + 1)
  pub head : view.seen context.root ≡ Some (Some (Page.Head header))
  pub dir : List ℕ
  pub listed : view.seen (dir_of header (context.bits walk.key)) ≡ Some (Some (Page.Dir dir))
  pub bucket_is : bucket ≡ slice_index dir (row_of header (context.bits walk.key))
  pub depth_is : depth ≡ header.depth
  pub shallow : header.depth ≤ context.max_depth

-- The header, the directory page and the bucket that the key leads to are read, and what the bucket
-- has of the key is known.
pub record IsAtBucket (context : WalkContext) (walk : WalkFields) (view : View) (bucket depth : ℕ)
    (found : Option ℕ) : Type 0 where
  pub goes_after : GoesAfter walk.pass context.before
  pub unwritten : IsUnwrittenSince context.before.written view
  pub header : HeadFields
  pub held : view.modes
      ≡ bucket_held context.before.held walk.pass walk.mode context.root
      (dir_of header (context.bits walk.key)) bucket
  pub among : HoldsBeside view header (context.before.buckets + 2)
  pub head : view.seen context.root ≡ Some (Some (Page.Head header))
  pub dir : List ℕ
  pub listed : view.seen (dir_of header (context.bits walk.key)) ≡ Some (Some (Page.Dir dir))
  pub bucket_is : bucket ≡ slice_index dir (row_of header (context.bits walk.key))
  pub depth_is : depth ≡ header.depth
  pub shallow : header.depth ≤ context.max_depth
  pub fields : BucketFields
  pub at : view.seen bucket ≡ Some (Some (Page.Bucket fields))
  pub found_is : found ≡ value_in walk.key fields.slots

-- The header, the key's directory page and its bucket are read and held, and what the bucket has of
-- the key is known. They stay on the clean pages up to the walk's end.
pub record HasRead (context : WalkContext) (key : ℕ) (view : View) (found : Option ℕ) : Type 0 where
  pub dir : ℕ
  pub bucket : ℕ
  pub way : HasReadBucket context.bits context.root key view dir bucket found
  pub shallow : way.placed.header.depth ≤ context.max_depth

-- From its bucket on a walk holds the pages of its way, in the modes of its pass; what it held
-- before, exclusively where it held that so; and other pages exclusively, as its pass may.
pub record HoldsByPass (before : Modes) (pass : Pass) (mode : Mode) (root dir bucket : ℕ) (view : View)
    : Type 0 where
  pub on_header : map.get view.modes root ≡ Some (header_mode pass)
  pub on_dir : map.get view.modes dir ≡ Some (directory_mode pass)
  pub on_bucket : map.get view.modes bucket ≡ Some (bucket_mode pass mode)
  pub kept : (q : ℕ) → is_some (map.get before q) ≡ true → is_some (map.get view.modes q) ≡ true
  pub exclusive : (q : ℕ) → map.get before q ≡ Some Exclusive → map.get view.modes q ≡ Some Exclusive
  pub others : (q : ℕ) → q ≢ root → q ≢ dir → q ≢ bucket → is_some (map.get before q) ≡ false
      → is_some (map.get view.modes q) ≡ true
      → (map.get view.modes q ≡ Some Exclusive) × MayHoldMore pass (view.seen q) (is_some (view.own q))

-- A narrow pass needs no deeper directory. One page of it has all entries of a bucket of depth l, where the directory is of
-- depth g. And the header is not written.
pub record StaysNarrow (root : ℕ) (view : View) (room_depth l g : ℕ) : Type 0 where
  pub enough : room_depth ≤ g
  pub one_page : g ≤ l + 8
  pub unwritten : view.own root ≡ None

-- what a walk's splits are for
abbrev pub split_target : WalkContext → WalkFields → ℕ → SplitTarget
split_target context walk room_depth = record {
  bits = context.bits;
  active = context.active;
  root = context.root;
  key = walk.key;
  owner = context.tx;
  room_depth = room_depth;
  before = context.before.written;
  held_before = context.before.buckets;
}

-- The bucket has no room yet, but has it once it is split down to this depth. Nothing was found of the key.
pub record IsAdding (context : WalkContext) (walk : WalkFields) (view : View) (bucket room_depth : ℕ)
    (unsplit : Bool) : Type 0 where
  pub header : HeadFields
  pub fields : BucketFields
  pub read : HasRead context walk.key view None
  pub holds : HoldsByPass context.before.held walk.pass walk.mode context.root read.dir read.bucket view
  pub shallow : header.depth ≤ context.max_depth
  pub rest : IsAtRest (split_target context walk room_depth) view bucket header fields
  pub most : room_depth ≤ context.max_depth
  pub unsplit_is : unsplit ≡ true → fields.depth < room_depth
  pub later : walk.pass ≡ Pass.First → ⊥
  pub narrow : walk.pass ≡ Pass.Narrow → StaysNarrow context.root view room_depth fields.depth header.depth
  pub wide : walk.pass ≡ Pass.Wide → map.get view.modes context.root ≡ Some Exclusive

-- A split of the bucket is under way, down to this depth, at which there is room. Nothing was found of the key.
pub record IsSplitting (context : WalkContext) (walk : WalkFields) (view : View) (room_depth : ℕ) : Type 0 where
  pub split : SplitFields
  pub split_is : walk.split ≡ Some split
  pub read : HasRead context walk.key view None
  pub holds : HoldsByPass context.before.held walk.pass walk.mode context.root read.dir read.bucket view
  pub shallow : split.directory_depth ≤ context.max_depth
  pub under_way : IsUnderWay (split_target context walk room_depth) view split
  pub most : room_depth ≤ context.max_depth
  pub later : walk.pass ≡ Pass.First → ⊥
  pub narrow : walk.pass ≡ Pass.Narrow → StaysNarrow context.root view room_depth split.depth split.directory_depth
  pub wide : walk.pass ≡ Pass.Wide → map.get view.modes context.root ≡ Some Exclusive

-- what stood in the slot that a change writes
abbrev pub StoodBefore : Change → WalkContext → ℕ → List Slot → Slot → Type 0
StoodBefore (Change.Put value) context key slots slot =
    (value_in key slots ≡ None)
    × (position (is_ghost_of key context.tx) slots ≡ None)
    × (is_kept context.active slot ≡ false)
StoodBefore (Change.Revive value) context key slots slot =
    (value_in key slots ≡ None) × (is_ghost_of key context.tx slot ≡ true)
StoodBefore (Change.Set value) context key slots slot = is_live_of key slot ≡ true
StoodBefore Change.Remove context key slots slot = is_live_of key slot ≡ true

-- what was found of the key where this change is made
abbrev pub FoundBefore : Change → Option ℕ → Type 0
FoundBefore (Change.Put value) found = found ≡ None
FoundBefore (Change.Revive value) found = found ≡ None
FoundBefore (Change.Set value) found = IsSome found
FoundBefore Change.Remove found = IsSome found

-- A change is written in the bucket: whatever the clean pages are elsewhere, what the walk has written since it went to its
-- key are the same slots, rearranged up to `rest`, and then one slot changed, where the walk's key leads. The header is held,
-- as deep as the walk leaves it.
pub record IsChanged (context : WalkContext) (walk : WalkFields) (view : View) (bucket : ℕ) (done : Change) : Type 0 where
  pub found : Option ℕ
  pub fits : FoundBefore done found
  pub read : HasRead context walk.key view found
  pub holds : HoldsByPass context.before.held walk.pass walk.mode context.root read.dir read.bucket view
  pub header : HeadFields
  pub head : held_page view context.root ≡ Some (Page.Head header)
  pub shallow : header.depth ≤ context.max_depth
  pub few : map.len view.modes < 300
  pub among : HoldsBeside view header (context.before.buckets + 18)
  pub rest : ℕ → Option Page
  pub slot : ℕ
  pub within : slot < 8
  pub fields : BucketFields
  pub held : is_some (view.seen bucket) ≡ true
  pub home : (clean : ℕ → Option Page) → Agrees view.seen clean
      → HasForm context.bits clean context.root
      → IsHome context.bits (over clean rest) context.root walk.key bucket fields
  pub was : StoodBefore done context walk.key fields.slots (slice_index_or fields.slots slot Free)
  pub changes : ChangesFile context.bits context.active context.root view.seen rest view.own
      (slot_change walk.key (value_after done) bucket slot (slot_after done walk.key context.tx))

-- where a walk stands that is in this phase
abbrev pub Stands : Phase → WalkContext → WalkFields → View → Type 0
Stands Phase.Start context walk view = StartsAnew context view
Stands (Phase.Headed dir row depth) context walk view = IsHeaded context walk view dir row depth
Stands (Phase.Placed bucket depth) context walk view = IsPlaced context walk view bucket depth
Stands (Phase.AtBucket bucket depth found) context walk view = IsAtBucket context walk view bucket depth found
Stands (Phase.Full next) context walk view = map.len view.modes ≤ 3
Stands (Phase.Adding value bucket room_depth unsplit) context walk view = IsAdding context walk view bucket room_depth unsplit
Stands (Phase.Splitting value room_depth) context walk view = IsSplitting context walk view room_depth
Stands (Phase.Changed bucket done) context walk view = IsChanged context walk view bucket done

-- Where a walk stands, by its phase: on its way; at its bucket; at one without room, before another
-- pass; with the file at rest, or a split under way; or with its change written.
abbrev pub IsStanding : WalkContext → WalkFields → View → Type 0
IsStanding context walk view = Stands walk.phase context walk view

-- What a step of a walk asks: its transaction may step, and the clean pages, with what it wrote
-- before over them, are a hash file on which it stands.
pub record MayWalk (context : WalkContext) (m : LocalState) (walk : WalkFields) : Type 0 where
  pub bounded : (k : ℕ) → context.bits k < 2 ^ 64
  pub small : context.max_depth ≤ 16
  pub may : MayStep m
  pub written : HasWritten context.before.written (view_of m)
  pub file : HasFileOver context.bits context.root context.before.written m
  pub shallow : depth_of (over file.clean context.before.written) context.root ≤ context.max_depth
  pub stands : IsStanding context walk (view_for context m)
