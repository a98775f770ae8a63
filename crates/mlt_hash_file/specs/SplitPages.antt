-- How many pages splits make
use Rattle.std.specs.Prelude.{ℕ, ◌<◌, ◌+◌, ◌-◌, ◌^◌, Option, Some, None}
use Rattle.std.specs.FinMap as map
use Rattle.std.specs.FinSet as set
use Rattle.mlt_page.specs.{Values.BucketFields, declared.page.Page.Page, Stores.Pages, Stores.page_at}
use Rattle.mlt_hash_form.specs.{File.bucket_of, File.buckets_of, File.depth_of, File.lead_of, Room.is_crowded}
use Rattle.mlt_hash_access.specs.LocalStates.{LocalState}
use Rattle.mlt_hash_split.specs.{Splits.SplitFields, declared.phase.SplitPhase.SplitPhase}
use Rattle.mlt_hash.specs.{Passes.HasRoomFrom, Walks.WalkFields, declared.pass.Phase.Phase}

-- The pages that splits make of a bucket of depth l, in a directory of depth g, until the bucket has depth d: one for each
-- split, and those of the directory, where it gets deeper.
abbrev pub pages_to_make : ℕ → ℕ → ℕ → ℕ
pages_to_make l g d = (d - l) + (2 ^ (d - 8) - 2 ^ (g - 8))

-- the bucket that the key leads to
abbrev pub bucket_for : (ℕ → ℕ) → (ℕ → Option Page) → ℕ → ℕ → BucketFields
bucket_for bits pages root key = buckets_of pages (lead_of pages root (bits key))

-- depth d is the least at which that bucket has room for the key, where nobody is open
abbrev pub HasRoomAt : (ℕ → ℕ) → (ℕ → Option Page) → ℕ → ℕ → ℕ → ℕ → Type 0
HasRoomAt bits pages root max_depth key d =
    HasRoomFrom
    (λ e. is_crowded bits set.empty e (bits key) (bucket_for bits pages root key).slots)
    (bucket_for bits pages root key).depth max_depth d

-- the pages that the splits make of that bucket down to depth d
abbrev pub pages_for : (ℕ → ℕ) → (ℕ → Option Page) → ℕ → ℕ → ℕ → ℕ
pages_for bits pages root key d = pages_to_make (bucket_for bits pages root key).depth (depth_of pages root) d

-- a hash file with its bounds: the function of keys, what each page has, the pages, the page of the header, how deep
-- the directory may get, and how many pages there may be
pub record BoundedFile : Type 0 where
  pub bits : ℕ → ℕ
  pub has : ℕ → Option Page
  pub pages : Pages
  pub root : ℕ
  pub max_depth : ℕ
  pub max_pages : ℕ

-- There may be fewer pages than the splits lead to that make room for the key.
pub record LacksPages (file : BoundedFile) (key : ℕ) : Type 0 where
  pub d : ℕ
  pub least : HasRoomAt file.bits file.has file.root file.max_depth key d
  pub lacks : file.max_pages < map.len file.pages + pages_for file.bits file.has file.root key d

-- the pages that a directory of depth g gains by the split of a bucket of depth l
abbrev pub gained_pages : ℕ → ℕ → ℕ
gained_pages l g = 2 ^ (l + 1 - 8) - 2 ^ (g - 8)

-- how many of so many a split has yet to make
abbrev pub gained_from : SplitPhase → ℕ → ℕ
gained_from SplitPhase.OldBucket gained = gained
gained_from (SplitPhase.InPlace place end) gained = 0
gained_from (SplitPhase.Double place) gained = gained - place
gained_from (SplitPhase.SecondHalf place) gained = gained - place
gained_from SplitPhase.Header gained = 0

-- what a split under way has yet to make, and those after it down to depth d
abbrev pub left_from : ℕ → ℕ → ℕ → SplitPhase → ℕ
left_from l g d phase =
    (d - (l + 1)) + gained_from phase (gained_pages l g)
    + (2 ^ (d - 8) - (2 ^ (g - 8) + gained_pages l g))

abbrev pub left_from_split : Option SplitFields → ℕ → ℕ
left_from_split None d = 0
left_from_split (Some split) d = left_from split.depth split.directory_depth d split.phase

-- what a walk that splits has yet to make
abbrev pub pages_left_at : Phase → ℕ → WalkFields → LocalState → ℕ
pages_left_at (Phase.Adding value bucket room_depth unsplit) root walk m =
    pages_to_make (bucket_of (page_at m.store.pages bucket)).depth
    (depth_of (page_at m.store.pages) root) room_depth
pages_left_at (Phase.Splitting value room_depth) root walk m = left_from_split walk.split room_depth
pages_left_at other root walk m = 0

-- as many pages as there will be once it is done, at most
abbrev pub pages_in_the_end : ℕ → WalkFields → LocalState → ℕ
pages_in_the_end root walk m = map.len m.store.pages + pages_left_at walk.phase root walk m
