-- What walks do that run alone
use Rattle.mlt_hash.specs.{Changes.IsChangedPhase, Steps.HasFound, Steps.IsSameWalk, StepsLeft.IsPutting, Passes.next_of, declared.pass.Pass.Pass, declared.pass.Phase.Phase, declared.answer.WalkAnswer.WalkAnswer}
use Rattle.std.specs.Prelude.{◌+◌, ◌<◌, ◌^◌, ◌≡◌, ◌≢◌, ◌≤◌, ◌⊎◌, None, Option, Some, true, ℕ}
use Rattle.std.specs.List.{list_all}
use Rattle.std.specs.FinMap as map
use Rattle.std.specs.FinSet as set
use Rattle.mlt_types.specs.declared.refusal.Refusal.{Refusal}
use Rattle.mlt_page.specs.{Slots.is_kept, declared.page.Page.Page, Stores.page_at}
use Rattle.mlt_hash_form.specs.{File.HasForm, File.buckets_of, File.depth_of, File.look_up, Room.IsCrowded, declared.root.Root.Root}
use Rattle.mlt_page_subtx.specs.Images.{put_back}
use Rattle.mlt_hash_access.specs.{LocalStates.LocalState, Views.HasWritten, Views.view_of, Views.view_over}
use Rattle.mlt_hash.specs.Walks.{WalkContext, Before, IsStanding, WalkFields, nothing_before, view_for}
use Rattle.mlt_hash_file.specs.Alone.{context_alone, pages_before, pages_since}
use Rattle.mlt_hash_file.specs.SplitPages.{BoundedFile, HasRoomAt, LacksPages, bucket_for, pages_for, pages_in_the_end}

-- a hash file whose directory is no deeper than this, which is at most 16
pub record IsHashFile (bits : ℕ → ℕ) (pages : ℕ → Option Page) (root max_depth : ℕ) : Type 0 where
  pub bounded : (k : ℕ) → bits k < 2 ^ 64
  pub form : HasForm bits pages root
  pub shallow : depth_of pages root ≤ max_depth
  pub small : max_depth ≤ 16

-- the pages that a transaction alone began with are a hash file with this root, and have no record of the key
abbrev pub IsFileBefore : {P : Type 0} → (P → ℕ → ℕ) → Root P → LocalState → Type 0
IsFileBefore bits_of root m = IsHashFile (bits_of root.pseudo) (pages_before m) root.page root.max_depth

abbrev pub IsAbsentBefore : {P : Type 0} → (P → ℕ → ℕ) → Root P → LocalState → ℕ → Type 0
IsAbsentBefore bits_of root m key = look_up (bits_of root.pseudo) (pages_before m) root.page key ≡ None

-- what a walk did before is written, with it the pages are a hash file with this root, and over it the walk stands
pub record IsReadySince {P : Type 0} (since : Before) (bits_of : P → ℕ → ℕ) (root : Root P)
    (m : LocalState) (walk : WalkFields) : Type 0 where
  pub written : HasWritten since.written (view_of m)
  pub file : IsHashFile (bits_of root.pseudo) (pages_since since m) root.page root.max_depth
  pub stands : IsStanding (context_alone since bits_of root m) walk (view_over since.written m)

-- another hash file, in which the key has this value, or none, and each other key what it had
pub record ChangesValue (bits : ℕ → ℕ) (before after : ℕ → Option Page) (root max_depth key : ℕ)
    (value : Option ℕ) : Type 0 where
  pub file : IsHashFile bits after root max_depth
  pub here : look_up bits after root key ≡ value
  pub others : (k : ℕ) → (k ≡ key → ⊥) → look_up bits after root k ≡ look_up bits before root k

-- the walk is at its key's bucket, and has found this there
pub record HasArrived (context : WalkContext) (new : LocalState) (before after : WalkFields) (value : Option ℕ)
    : Type 0 where
  pub same : IsSameWalk before after
  pub stands : IsStanding context after (view_for context new)
  pub found : HasFound after.phase value

-- the change of the walk's key is written
abbrev pub HasChanged : WalkContext → LocalState → ℕ → Option ℕ → Type 0
HasChanged context new key value =
    ChangesValue context.bits (pages_since context.before new) (page_at new.store.pages)
    context.root context.max_depth key value

-- so it is, and the walk stands where it wrote it
pub record HasMade (context : WalkContext) (new : LocalState) (before after : WalkFields) (value : Option ℕ)
    : Type 0 where
  pub changed : HasChanged context new before.key value
  pub same : IsSameWalk before after
  pub phase : IsChangedPhase after.phase
  pub stands : IsStanding context after (view_for context new)

-- a page of the walk wanted memory, which was refused: never that of its first key's one change
abbrev pub IsRefusedMemory : WalkContext → Refusal → Type 0
IsRefusedMemory context reason = (reason ≡ Refusal.OutOfMemory) × (context.before ≢ nothing_before)

-- what a change of a record that is there tells
abbrev pub TellsOfMaking : WalkContext → LocalState → WalkFields → WalkFields → Option ℕ → WalkAnswer → Type 0
TellsOfMaking context new before after value WalkAnswer.Changed = HasMade context new before after value
TellsOfMaking context new before after value (WalkAnswer.Refused reason) = IsRefusedMemory context reason
TellsOfMaking context new before after value other = ⊥

-- the bucket of the key has no slot with room
abbrev pub IsFullFor : (ℕ → ℕ) → (ℕ → Option Page) → ℕ → ℕ → Type 0
IsFullFor bits pages root key = list_all (is_kept set.empty) (bucket_for bits pages root key).slots ≡ true

-- eight slots of the file agree with the key in all bits that its directory may get, so that no split makes room
abbrev pub NeverHasRoomFor : (ℕ → ℕ) → (ℕ → Option Page) → ℕ → ℕ → Type 0
NeverHasRoomFor bits pages max_depth key = IsCrowded bits set.empty (buckets_of pages) max_depth (bits key)

-- the value of the record that a walk adds once its bucket is split
abbrev pub added_value : Phase → ℕ
added_value (Phase.Adding value bucket room_depth unsplit) = value
added_value (Phase.Splitting value room_depth) = value
added_value other = 0

-- the walk may go on to split, and to add its record
pub record MayAdd (context : WalkContext) (new : LocalState) (walk : WalkFields) : Type 0 where
  pub stands : IsStanding context walk (view_for context new)
  pub adds : IsPutting walk.phase

-- Some depth makes room, and the walk may go on to split its bucket down to there, which takes so many pages.
pub record NeedsSplits (context : WalkContext) (new : LocalState) (before after : WalkFields) (value : ℕ)
    : Type 0 where
  pub value_is : added_value after.phase ≡ value
  pub may : MayAdd context new after
  pub ever : NeverHasRoomFor context.bits (pages_since context.before new) context.max_depth before.key
      → ⊥
  pub d : ℕ
  pub least : HasRoomAt context.bits (pages_since context.before new)
      context.root context.max_depth before.key d
  pub unwritten : page_at new.store.pages ≡ pages_since context.before new
  pub pages : pages_in_the_end context.root after new
      ≡ map.len new.store.pages
      + pages_for context.bits (pages_since context.before new) context.root before.key d

-- A split is needed: a first pass says which one follows, and a later one may go on.
pub record NeedsRoom (context : WalkContext) (new : LocalState) (before after : WalkFields) (value : ℕ)
    : Type 0 where
  pub full : IsFullFor context.bits (pages_since context.before new) context.root before.key
  pub same : IsSameWalk before after
  pub first : before.pass ≡ Pass.First
      → (after.phase ≡ Phase.Full (next_of after.phase)) × (next_of after.phase ≡ Pass.First → ⊥)
  pub later : (before.pass ≡ Pass.First → ⊥) → NeedsSplits context new before after value

-- A narrow pass has to be wide.
pub record NeedsWidth (before after : WalkFields) : Type 0 where
  pub same : IsSameWalk before after
  pub narrow : before.pass ≡ Pass.Narrow
  pub phase : after.phase ≡ Phase.Full Pass.Wide

-- what a pass tells that adds a record of this value
abbrev pub TellsOfPass : WalkContext → LocalState → WalkFields → WalkFields → ℕ → WalkAnswer → Type 0
TellsOfPass context new before after value WalkAnswer.Changed =
    HasMade context new before after (Some value)
TellsOfPass context new before after value WalkAnswer.NeedSplit = NeedsRoom context new before after value
TellsOfPass context new before after value WalkAnswer.Widen = NeedsWidth before after
TellsOfPass context new before after value (WalkAnswer.Refused Refusal.NoRoom) =
    (before.pass ≡ Pass.First → ⊥)
    × IsFullFor context.bits (pages_since context.before new) context.root before.key
    × NeverHasRoomFor context.bits (pages_since context.before new) context.max_depth before.key
TellsOfPass context new before after value (WalkAnswer.Refused reason) = IsRefusedMemory context reason
TellsOfPass context new before after value other = ⊥

-- what the splits of a pass tell that lead to this number of pages
abbrev pub TellsOfSplits : WalkContext → LocalState → WalkFields → WalkFields → ℕ → ℕ → WalkAnswer → Type 0
TellsOfSplits context new before after value most WalkAnswer.Changed =
    HasMade context new before after (Some value)
TellsOfSplits context new before after value most (WalkAnswer.Refused Refusal.NoRoom) =
    new.store.max_pages < most
TellsOfSplits context new before after value most (WalkAnswer.Refused reason) =
    reason ≡ Refusal.OutOfMemory
TellsOfSplits context new before after value most other = ⊥

-- Why an addition is refused. The bucket of the key is full; and no split makes room, or there may not be as many pages as
-- the splits make that do, or a growth was refused to them.
abbrev pub RefusesFor : BoundedFile → ℕ → Refusal → Type 0
RefusesFor file key Refusal.NoRoom =
    IsFullFor file.bits file.has file.root key
    × (NeverHasRoomFor file.bits file.has file.max_depth key ⊎ LacksPages file key)
RefusesFor file key Refusal.OutOfMemory =
    IsFullFor file.bits file.has file.root key
    × (NeverHasRoomFor file.bits file.has file.max_depth key → ⊥)
RefusesFor file key other = ⊥

-- the file as it was before an addition under way
abbrev pub bounded_before : WalkContext → LocalState → BoundedFile
bounded_before context new = record {
  bits = context.bits;
  has = pages_before new;
  pages = put_back new.running.images new.store.pages;
  root = context.root;
  max_depth = context.max_depth;
  max_pages = new.store.max_pages;
}

-- why an addition under way is refused
abbrev pub TellsRefusal : WalkContext → LocalState → ℕ → Refusal → Type 0
TellsRefusal context new key reason = RefusesFor (bounded_before context new) key reason

-- what a later pass tells, with its splits
abbrev pub TellsOfLater : WalkContext → LocalState → WalkFields → WalkFields → ℕ → WalkAnswer → Type 0
TellsOfLater context new before after value WalkAnswer.Changed = HasChanged context new before.key (Some value)
TellsOfLater context new before after value WalkAnswer.Widen = NeedsWidth before after
TellsOfLater context new before after value (WalkAnswer.Refused reason) = TellsRefusal context new before.key reason
TellsOfLater context new before after value other = ⊥

-- what an addition tells with all its passes
abbrev pub TellsOfInsertion : WalkContext → LocalState → ℕ → ℕ → WalkAnswer → Type 0
TellsOfInsertion context new key value WalkAnswer.Changed = HasChanged context new key (Some value)
TellsOfInsertion context new key value (WalkAnswer.Refused reason) = TellsRefusal context new key reason
TellsOfInsertion context new key value other = ⊥
