-- A split under way, one page written at a time
use Rattle.std.specs.Prelude.{ℕ, ◌≡◌, ◌<◌, ◌≤◌, ◌+◌, ◌-◌, ◌*◌, ◌/◌, ◌%◌, ◌^◌, ◌==◌, ◌⊎◌, List, length, slice_index, Some, if◌then◌else◌}
use Rattle.std.specs.Ordering.{nat_cmp}
use Rattle.std.specs.FinSet as set
use Rattle.mlt_page.specs.{Bits.first_bits, Values.BucketFields, declared.page.Page.Page}
use Rattle.mlt_hash_form.specs.{Form.half_of, Changes.IsSplit, Changes.MaySplit}
use Rattle.mlt_hash_form.specs.File.{FilePages, depth_of, dirs_of, entries_of, entry, buckets_of, Writes}

-- What a split of a bucket of depth l leaves at a place of the directory, which had depth g and gets depth g': page
-- new at the places of the prefix of l + 1 bits, and else what stood there before
abbrev pub target : (ℕ → ℕ) → ℕ → ℕ → ℕ → ℕ → ℕ → ℕ → ℕ
target old g g' l prefix new place =
    if place / 2 ^ (g' - (l + 1)) == prefix then new else old (place / 2 ^ (g' - g))

-- The l + 1 bits of the pseudokeys that go to the new bucket, where the bucket on page n has depth
-- l and the pseudokey x leads to it.
abbrev pub prefix_of : FilePages → ℕ → ℕ → ℕ
prefix_of pages n x = 2 * first_bits (buckets_of pages n).depth x + 1

-- What the split of this bucket leaves at a place of the directory, which gets depth g': page new
-- at the places of those bits, and else what stood there.
abbrev pub target_of : FilePages → ℕ → ℕ → ℕ → ℕ → ℕ → ℕ → ℕ
target_of pages root n new x g' =
    target (entry pages (dirs_of pages root)) (depth_of pages root) g' (buckets_of pages n).depth
    (prefix_of pages n x) new

-- where the directory is not doubled: the places of the new bucket, as the first one and how many there are
abbrev pub run_length : FilePages → ℕ → ℕ → ℕ
run_length pages root n = 2 ^ (depth_of pages root - ((buckets_of pages n).depth + 1))

abbrev pub run_start : FilePages → ℕ → ℕ → ℕ → ℕ
run_start pages root n x = prefix_of pages n x * run_length pages root n

-- a page of the directory, the q-th, has these entries at its places
abbrev pub HasEntries : List ℕ → ℕ → (ℕ → ℕ) → Type 0
HasEntries dir q names = (r : ℕ) → r < 256 → slice_index dir r ≡ names (256 * q + r)

-- Page j of the doubled directory is made of the old page whose entries it gets, each twice, but that the new bucket
-- stands at one place, where that is on this page.
pub record IsDoubled (old made : List ℕ) (j place new : ℕ) : Type 0 where
  pub others : (r : ℕ) → r < 256 → (256 * j + r ≡ place → ⊥)
      → slice_index made r ≡ slice_index old (128 * (j % 2) + r / 2)
  pub here : (r : ℕ) → r < 256 → 256 * j + r ≡ place → slice_index made r ≡ new

-- Page j of a directory that keeps its depth is made of the old one: the new bucket stands at so many places, from the
-- first on, where these are on this page.
pub record HasNewPlaces (old made : List ℕ) (j first count new : ℕ) : Type 0 where
  pub inside : (r : ℕ) → r < 256 → first ≤ 256 * j + r → 256 * j + r < first + count
      → slice_index made r ≡ new
  pub outside : (r : ℕ) → r < 256 → (256 * j + r < first) ⊎ (first + count ≤ 256 * j + r)
      → slice_index made r ≡ slice_index old r

-- What a directory is written anew from: the list of its old pages, which has this count, and the bucket pages that
-- its places are to name and did name
pub record DirectoryChange : Type 0 where
  pub dirs : List ℕ
  pub to : ℕ → ℕ
  pub old : ℕ → ℕ
  pub count : ℕ

abbrev pub directory_change : List ℕ → (ℕ → ℕ) → (ℕ → ℕ) → ℕ → DirectoryChange
directory_change dirs to old count = record { dirs = dirs; to = to; old = old; count = count }

-- A directory that is being written: the first j pages of the list `made` are as they are to be, and of the old
-- list those from the k-th on are as they were. (A directory that is not doubled is written in place: there the lists
-- are one, and k is j.)
pub record IsFilling (change : DirectoryChange) (pages : FilePages) (made : List ℕ) (j k : ℕ)
    : Type 0 where
  pub filled : (q r : ℕ) → q < j → r < 256
      → slice_index (entries_of (pages (slice_index made q))) r ≡ change.to (256 * q + r)
  pub sized : (q : ℕ) → q < j → length (entries_of (pages (slice_index made q))) ≡ 256
  pub rest : (q r : ℕ) → k ≤ q → q < change.count → r < 256
      → slice_index (entries_of (pages (slice_index change.dirs q))) r ≡ change.old (256 * q + r)
  pub rest_sized : (q : ℕ) → k ≤ q → q < change.count
      → length (entries_of (pages (slice_index change.dirs q))) ≡ 256
  pub apart : (q r : ℕ) → q < j → k ≤ r → r < change.count
      → slice_index made q ≡ slice_index change.dirs r → ⊥
  pub once : (q r : ℕ) → q < j → r < j → slice_index made q ≡ slice_index made r → q ≡ r

-- the new list has page n behind the first j, which stay
pub record IsLonger (made made' : List ℕ) (j n : ℕ) : Type 0 where
  pub last : slice_index made' j ≡ n
  pub before : (q : ℕ) → q < j → slice_index made' q ≡ slice_index made q

-- What stays the same while a bucket is split: the pseudokeys, the owners that were open as it
-- began, the pages before, the pages of the header and of both buckets, and a pseudokey that leads
-- to the old one.
pub record BucketSplit : Type 0 where
  pub bits : ℕ → ℕ
  pub active : set.FinSet nat_cmp
  pub before : FilePages
  pub root : ℕ
  pub old_page : ℕ
  pub new_page : ℕ
  pub seed : ℕ

abbrev pub bucket_split
    : (ℕ → ℕ) → set.FinSet nat_cmp → FilePages → ℕ → ℕ → ℕ → ℕ → BucketSplit
bucket_split bits active before root old_page new_page seed = record {
  bits = bits;
  active = active;
  before = before;
  root = root;
  old_page = old_page;
  new_page = new_page;
  seed = seed;
}

-- the old bucket, the directory's depth, its pages and how many these are, as they were before
abbrev pub old_bucket : BucketSplit → BucketFields
old_bucket split = buckets_of split.before split.old_page

abbrev pub old_depth : BucketSplit → ℕ
old_depth split = depth_of split.before split.root

abbrev pub old_dirs : BucketSplit → List ℕ
old_dirs split = dirs_of split.before split.root

abbrev pub old_count : BucketSplit → ℕ
old_count split = 2 ^ (old_depth split - 8)

-- where the directory is not doubled: the first place of the new bucket, and the one behind its last
abbrev pub run_begin : BucketSplit → ℕ
run_begin split = run_start split.before split.root split.old_page split.seed

abbrev pub run_end : BucketSplit → ℕ
run_end split = run_begin split + run_length split.before split.root split.old_page

-- the split may begin, and these pages are what it leaves
abbrev pub CanBegin : BucketSplit → Type 0
CanBegin split =
    MaySplit split.bits split.before split.root split.seed split.old_page split.new_page

abbrev pub Completes : BucketSplit → FilePages → Type 0
Completes split pages =
    IsSplit split.bits split.active split.before pages split.root split.old_page split.new_page

-- one half of the old bucket
abbrev pub half_in : BucketSplit → ℕ → BucketFields
half_in split bit = half_of split.bits split.active (buckets_of split.before split.old_page) bit

-- what is left at a place of the directory, which goes to depth g'
abbrev pub target_in : BucketSplit → ℕ → ℕ → ℕ
target_in split g' =
    target_of split.before split.root split.old_page split.new_page split.seed g'

-- the directory's pages before, and what its places are to name and did name
abbrev pub directory_in : BucketSplit → ℕ → DirectoryChange
directory_in split g' = record {
  dirs = dirs_of split.before split.root;
  to = target_in split g';
  old = entry split.before (dirs_of split.before split.root);
  count = 2 ^ (depth_of split.before split.root - 8);
}

-- Both halves of the bucket are written, the second on the new page; and the directory, which goes
-- to depth g' through the list `made`, is filled as j and k say.
pub record IsMidway (split : BucketSplit) (g' : ℕ) (pages : FilePages) (made : List ℕ) (j k : ℕ)
    : Type 0 where
  pub header : pages split.root ≡ split.before split.root
  pub zeros : pages split.old_page ≡ Some (Page.Bucket (half_in split 0))
  pub ones : pages split.new_page ≡ Some (Page.Bucket (half_in split 1))
  pub others : (m : ℕ) → (m ≡ split.old_page → ⊥) → (m ≡ split.new_page → ⊥)
      → buckets_of pages m ≡ buckets_of split.before m
  pub filling : IsFilling (directory_in split g') pages made j k

-- a split in place under way: the directory keeps its depth and its pages, and the first q of these are as they
-- are to be
abbrev pub IsMidwayInPlace : BucketSplit → FilePages → ℕ → Type 0
IsMidwayInPlace split pages q =
    IsMidway split (depth_of split.before split.root) pages (dirs_of split.before split.root) q q

-- the second half of the old bucket is written on the new page, and then the first one on the old page
pub record WritesBothHalves (split : BucketSplit) (one two : FilePages) : Type 0 where
  pub ones : Writes split.before one split.new_page (Page.Bucket (half_in split 1))
  pub zeros : Writes one two split.old_page (Page.Bucket (half_in split 0))

-- the next page of a new directory: its place in the list of pages, its number, and the bucket pages that it names
pub record NextPage : Type 0 where
  pub place : ℕ
  pub number : ℕ
  pub names : List ℕ

abbrev pub next_page : ℕ → ℕ → List ℕ → NextPage
next_page place number names = record { place = place; number = number; names = names }

-- a page becomes the next one of the new directory, of depth g': the new list has it behind those before its place,
-- and its entries are as they are to be
pub record WritesDirPage (split : BucketSplit) (g' : ℕ) (pages pages' : FilePages)
    (made made' : List ℕ) (dir : NextPage) : Type 0 where
  pub writes : Writes pages pages' dir.number (Page.Dir dir.names)
  pub longer : IsLonger made made' dir.place dir.number
  pub size : length dir.names ≡ 256
  pub right : HasEntries dir.names dir.place (target_in split g')
