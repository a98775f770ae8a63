-- Where a split stands: each fact is about pages that the walk holds
use Rattle.std.specs.Prelude.{ℕ, ◌≡◌, ◌<◌, ◌≤◌, ◌+◌, ◌-◌, ◌*◌, ◌^◌, nat_eq, nat_lt, true, false, is_some, if◌then◌else◌, List, length, slice_index, slice_index_or, Option, Some}
use Rattle.std.specs.Ordering.{nat_cmp}
use Rattle.std.specs.FinMap as map
use Rattle.std.specs.FinSet as set
use Rattle.mlt_types.specs.declared.mode.Mode.TheVariants.{Exclusive}
use Rattle.mlt_page.specs.{Bits.first_bits, Slots.is_ghost_of, Slots.is_live_of, declared.slot.Slot.TheVariants.Free, Values.BucketFields, Values.HeadFields, declared.page.Page.Page, Stores.Pages, Stores.page_at}
use Rattle.mlt_hash_form.specs.{Form.half_of, File.HasForm, File.Writes, File.depth_of, File.dirs_of, Changes.MaySplit, Held.Agrees, Held.AreKeptToo, Held.KeepsFile, Held.over, Room.is_crowded}
use Rattle.mlt_hash_form.specs.Splits.{BucketSplit, IsMidway, bucket_split, run_length, run_start, target_in}
use Rattle.mlt_hash_access.specs.{LocalStates.HasFileOver, LocalStates.MayStep, LocalStates.LocalState, Views.HasWritten, Views.View, Views.view_of, Views.view_over}
use Rattle.mlt_hash_split.specs.Rests.{SplitTarget, IsAtRest, HoldsAmong, held_page, most_held, seed_of}
use Rattle.mlt_hash_split.specs.declared.phase.SplitPhase.{SplitPhase}

-- what a contract sees of a split: the pseudokey that asks for room, the two bucket pages, the
-- depths of the bucket and of the directory, the half that stays, and of a directory that is
-- doubled its header and the second half of its last page; and the phase
pub record SplitFields : Type 0 where
  pub seed : ℕ
  pub old_page : ℕ
  pub new_page : ℕ
  pub depth : ℕ
  pub directory_depth : ℕ
  pub zeros : BucketFields
  pub made : HeadFields
  pub second : List ℕ
  pub phase : SplitPhase

-- how many pages of the directory get entries of the new bucket, or are rewritten or made, and with them the header
abbrev pub directory_steps : ℕ → ℕ → ℕ
directory_steps l g =
    if nat_eq l g then (if nat_lt g 8 then 2 else 2 ^ (g - 7) + 1) else 2 ^ (g - (l + 9))

-- how many steps a split still takes, those that wait aside
abbrev pub steps_left_at : ℕ → ℕ → SplitPhase → ℕ
steps_left_at l g SplitPhase.OldBucket = 1 + directory_steps l g
steps_left_at l g (SplitPhase.InPlace place end) = end - place
steps_left_at l g (SplitPhase.Double place) = if nat_lt g 8 then 2 else 2 * (2 ^ (g - 8) - place) + 1
steps_left_at l g (SplitPhase.SecondHalf place) = 2 * (2 ^ (g - 8) - place)
steps_left_at l g SplitPhase.Header = 1

abbrev pub steps_left : SplitFields → ℕ
steps_left split = steps_left_at split.depth split.directory_depth split.phase

-- what the split began with: in the file `base` the bucket on the old page is this, and the new page is not there
pub record Begins (target : SplitTarget) (base : ℕ → Option Page) (split : SplitFields) (bucket : BucketFields)
    : Type 0 where
  pub may : MaySplit target.bits base target.root (seed_of target) split.old_page split.new_page
  pub was : base split.old_page ≡ Some (Page.Bucket bucket)
  pub seed : split.seed ≡ seed_of target
  pub depth : bucket.depth ≡ split.depth
  pub directory_depth : depth_of base target.root ≡ split.directory_depth
  pub deep : split.depth < target.room_depth

-- Of a bucket, by who is open: the split keeps one half, and the other stands on the page that was made.
pub record HasHalves (target : SplitTarget) (pages : Pages) (bucket : BucketFields) (split : SplitFields)
    : Type 0 where
  pub zeros : split.zeros ≡ half_of target.bits target.active bucket 0
  pub ones : page_at pages split.new_page ≡ Some (Page.Bucket (half_of target.bits target.active bucket 1))

-- the walk's file is at rest, its bucket is less deep than is needed, and only who holds the header exclusively doubles
-- the directory
pub record MayBegin (target : SplitTarget) (view : View) (n : ℕ) : Type 0 where
  pub header : HeadFields
  pub bucket : BucketFields
  pub rest : IsAtRest target view n header bucket
  pub shallow : bucket.depth < target.room_depth
  pub doubles : bucket.depth ≡ header.depth → map.get view.modes target.root ≡ Some Exclusive

-- what stays the same while the split is under way, which began with these pages and these open owners
abbrev pub split_in : SplitTarget → set.FinSet nat_cmp → (ℕ → Option Page) → SplitFields → BucketSplit
split_in target splitters base split =
    bucket_split target.bits splitters base target.root split.old_page split.new_page (seed_of target)

-- the new bucket is made, and the old one to be written
pub record IsAtOldBucket (target : SplitTarget) (splitters : set.FinSet nat_cmp) (base pages : ℕ → Option Page)
    (split : SplitFields) (bucket : BucketFields) : Type 0 where
  pub zeros : split.zeros ≡ half_of target.bits splitters bucket 0
  pub ones : Writes base pages split.new_page (Page.Bucket (half_of target.bits splitters bucket 1))
  pub doubles : split.depth ≡ split.directory_depth
      → split.made ≡ record { depth = split.directory_depth + 1; dirs = dirs_of base target.root }

-- The pages from this place up to the end, excluded, have all places of the new bucket, where a bucket of depth l is
-- split to which this pseudokey leads. The directory is of depth g.
pub record HaveNewPlaces (seed l g place end : ℕ) : Type 0 where
  pub first : 256 * place ≤ (2 * first_bits l seed + 1) * 2 ^ (g - (l + 1))
  pub last : (2 * first_bits l seed + 1) * 2 ^ (g - (l + 1)) + 2 ^ (g - (l + 1)) ≤ 256 * end
  pub count : end ≡ place + 2 ^ (g - (l + 9))
  pub within : end ≤ 2 ^ (g - 8)

-- Pages of the directory that keeps its depth are written, up to this place: those that have places of the new bucket, and
-- no others.
pub record IsInPlace (target : SplitTarget) (splitters : set.FinSet nat_cmp) (base pages : ℕ → Option Page)
    (split : SplitFields) (place end : ℕ) : Type 0 where
  pub shallow : split.depth < split.directory_depth
  pub filled : IsMidway (split_in target splitters base split) split.directory_depth pages
      (dirs_of base target.root) place place
  pub first : ℕ
  pub places : HaveNewPlaces split.seed split.depth split.directory_depth first end
  pub from : first ≤ place
  pub more : place < end
  pub last : run_start base target.root split.old_page
      (seed_of target) + run_length base target.root split.old_page ≤ 256 * end

-- the directory doubles: this old page is the next one
pub record IsAtDouble (target : SplitTarget) (splitters : set.FinSet nat_cmp) (base pages : ℕ → Option Page)
    (split : SplitFields) (place : ℕ) : Type 0 where
  pub deep : split.depth ≡ split.directory_depth
  pub filled : IsMidway (split_in target splitters base split) split.made.depth pages
      split.made.dirs (2 * place) place
  pub more : place < 2 ^ (split.directory_depth - 8)
  pub deeper : split.made.depth ≡ split.directory_depth + 1

-- the first half of this old page is written, and the second kept
pub record IsAtSecondHalf (target : SplitTarget) (splitters : set.FinSet nat_cmp)
    (base pages : ℕ → Option Page) (split : SplitFields) (place : ℕ) : Type 0 where
  pub deep : split.depth ≡ split.directory_depth
  pub filled : IsMidway (split_in target splitters base split) split.made.depth pages
      split.made.dirs (2 * place + 1) (place + 1)
  pub more : place < 2 ^ (split.directory_depth - 8)
  pub deeper : split.made.depth ≡ split.directory_depth + 1
  pub long : 8 ≤ split.directory_depth
  pub sized : length split.second ≡ 256
  pub right : (r : ℕ) → r < 256
      → slice_index split.second r
      ≡ target_in (split_in target splitters base split) split.made.depth (256 * (2 * place + 1) + r)

-- every page of the doubled directory is written
pub record IsAtHeader (target : SplitTarget) (splitters : set.FinSet nat_cmp) (base pages : ℕ → Option Page)
    (split : SplitFields) : Type 0 where
  pub deep : split.depth ≡ split.directory_depth
  pub taken : ℕ
  pub filled : IsMidway (split_in target splitters base split) split.made.depth pages
      split.made.dirs (2 ^ (split.made.depth - 8)) taken
  pub deeper : split.made.depth ≡ split.directory_depth + 1

abbrev pub StandsAt : SplitPhase → SplitTarget → set.FinSet nat_cmp → (ℕ → Option Page) → (ℕ → Option Page)
    → SplitFields → BucketFields → Type 0
StandsAt SplitPhase.OldBucket target splitters base pages split bucket =
    IsAtOldBucket target splitters base pages split bucket
StandsAt (SplitPhase.InPlace place end) target splitters base pages split bucket =
    IsInPlace target splitters base pages split place end
StandsAt (SplitPhase.Double place) target splitters base pages split bucket =
    IsAtDouble target splitters base pages split place
StandsAt (SplitPhase.SecondHalf place) target splitters base pages split bucket =
    IsAtSecondHalf target splitters base pages split place
StandsAt SplitPhase.Header target splitters base pages split bucket = IsAtHeader target splitters base pages split

-- the pages that are held, by how far the split is, and how many buckets were held before
abbrev pub HoldsAmongAt : SplitPhase → ℕ → View → List ℕ → SplitFields → Type 0
HoldsAmongAt SplitPhase.OldBucket before view dirs split =
    HoldsAmong view dirs dirs 0 (2 ^ (split.directory_depth - 8)) 0
    (most_held before (split.depth + 1) split.directory_depth)
HoldsAmongAt (SplitPhase.InPlace place end) before view dirs split =
    HoldsAmong view dirs dirs 0 (2 ^ (split.directory_depth - 8)) 0
    (most_held before (split.depth + 1) split.directory_depth)
HoldsAmongAt (SplitPhase.Double place) before view dirs split =
    HoldsAmong view dirs split.made.dirs place (2 ^ (split.directory_depth - 8)) (2 * place)
    (most_held before (split.depth + 1) split.directory_depth + place)
HoldsAmongAt (SplitPhase.SecondHalf place) before view dirs split =
    HoldsAmong view dirs split.made.dirs (place + 1) (2 ^ (split.directory_depth - 8))
    (2 * place + 1)
    (most_held before (split.depth + 1) split.directory_depth + place)
HoldsAmongAt SplitPhase.Header before view dirs split =
    HoldsAmong view dirs split.made.dirs 0 0 (2 ^ (split.made.depth - 8))
    (most_held before (split.depth + 1) split.made.depth)

-- A split is under way. `rest` is what the walk had written before it, and `splitters` who was open when the two halves
-- were made: who is open may change between two steps.
pub record IsUnderWay (target : SplitTarget) (view : View) (split : SplitFields) : Type 0 where
  pub bounded : (k : ℕ) → target.bits k < 2 ^ 64
  pub rest : ℕ → Option Page
  pub splitters : set.FinSet nat_cmp
  pub header : HeadFields
  pub bucket : BucketFields
  pub keeps : KeepsFile target.bits target.active target.root view.seen rest
  pub head_held : is_some (view.seen target.root) ≡ true
  pub head : held_page view target.root ≡ Some (Page.Head header)
  pub old_held : is_some (view.seen split.old_page) ≡ true
  pub exclusive : map.get view.modes split.old_page ≡ Some Exclusive
  pub new_exclusive : map.get view.modes split.new_page ≡ Some Exclusive
  pub doubles : split.depth ≡ split.directory_depth → map.get view.modes target.root ≡ Some Exclusive
  pub fewer : AreKeptToo target.active splitters bucket
  pub absent : (i : ℕ) → is_live_of target.key (slice_index_or bucket.slots i Free) ≡ false
  pub no_ghost : (i : ℕ)
      → is_ghost_of target.key target.owner (slice_index_or bucket.slots i Free) ≡ false
  pub room : is_crowded target.bits target.active target.room_depth (seed_of target) bucket.slots ≡ false
  pub small : target.room_depth ≤ 16
  pub few_before : target.held_before ≤ 17
  pub begins : (clean : ℕ → Option Page) → Agrees view.seen clean → HasForm target.bits clean target.root
      → Begins target (over clean rest) split bucket
  pub stands : (clean : ℕ → Option Page) → Agrees view.seen clean → HasForm target.bits clean target.root
      → StandsAt split.phase target splitters (over clean rest) (over clean view.own) split bucket
  pub among : HoldsAmongAt split.phase target.held_before view header.dirs split

-- What a step of a split asks: its transaction may step, and the clean pages, with what it wrote
-- before over them, are a hash file, over which the split is under way.
pub record MayAdvance (target : SplitTarget) (m : LocalState) (split : SplitFields) : Type 0 where
  pub may : MayStep m
  pub written : HasWritten target.before (view_of m)
  pub file : HasFileOver target.bits target.root target.before m
  pub under_way : IsUnderWay target (view_over target.before m) split
