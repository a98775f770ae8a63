-- A walk's file at rest: between two splits
use Rattle.std.specs.Prelude.{ℕ, ◌≡◌, ◌<◌, ◌≤◌, ◌+◌, ◌-◌, ◌^◌, ◌==◌, true, false, is_some, unwrap_or, List, length, slice_index, slice_index_or, Option, Some, None}
use Rattle.std.specs.{List.list_any, Ordering.nat_cmp}
use Rattle.std.specs.FinMap as map
use Rattle.std.specs.FinSet as set
use Rattle.mlt_types.specs.declared.mode.Mode.TheVariants.{Exclusive}
use Rattle.mlt_page.specs.{Slots.is_ghost_of, Slots.is_live_of, declared.slot.Slot.TheVariants.Free, Values.BucketFields, Values.HeadFields, declared.page.Page.Page}
use Rattle.mlt_hash_form.specs.{File.FilePages, File.HasForm, File.bucket_of, File.lead_of, Room.is_crowded}
use Rattle.mlt_hash_form.specs.Held.{Agrees, AreKeptToo, KeepsFile, over, own_or_clean}
use Rattle.mlt_hash_access.specs.Views.{View}
use Rattle.mlt_hash_split.specs.declared.environment.Environment.{Environment}

-- What a walk's splits are for: the key that asks for room, the transaction that adds it, and a
-- depth at which its bucket has room; the function of keys, who is open and the header's page; and
-- what it wrote for a key before, with how many buckets it holds of that, at most.
pub record SplitTarget : Type 0 where
  pub bits : ℕ → ℕ
  pub active : set.FinSet nat_cmp
  pub root : ℕ
  pub key : ℕ
  pub owner : ℕ
  pub room_depth : ℕ
  pub before : FilePages
  pub held_before : ℕ

-- the target of a transaction that adds a record of this key in this environment
abbrev pub target_by : {P : Type 0} → (P → ℕ → ℕ) → Environment P → ℕ → ℕ → ℕ → FilePages → ℕ → SplitTarget
target_by bits_of environment key owner room_depth before held_before = record {
  bits = bits_of environment.root.now.pseudo;
  active = environment.active.now;
  root = environment.root.now.page;
  key = key;
  owner = owner;
  room_depth = room_depth;
  before = before;
  held_before = held_before;
}

-- the pseudokey of the key that asks for room
abbrev pub seed_of : SplitTarget → ℕ
seed_of target = target.bits target.key

-- what a page that is held reads as
abbrev pub held_page : View → ℕ → Option Page
held_page view q = own_or_clean (view.own q) (unwrap_or (view.seen q) None)

abbrev pub IsIn : ℕ → List ℕ → Type 0
IsIn q pages = list_any (λ p. p == q) pages ≡ true

-- All pages that are held stand in a list of at most `most`, and so do the pages of the directory that may still be
-- locked, those from place k on, and those of the new one that are written, the first j. (So a pass never holds too many.)
pub record HoldsAmong (view : View) (dirs made : List ℕ) (k count j most : ℕ) : Type 0 where
  pub pages : List ℕ
  pub few : length pages ≤ most
  pub all : (q : ℕ) → is_some (map.get view.modes q) ≡ true → IsIn q pages
  pub old_dirs : (i : ℕ) → k ≤ i → i < count → IsIn (slice_index dirs i) pages
  pub new_dirs : (i : ℕ) → i < j → IsIn (slice_index made i) pages

-- how many pages a walk's splits hold at most, at a bucket of depth l in a directory of depth g: the buckets that were held
-- before, the header, the first bucket, one for each split, and all pages of the directory
abbrev pub most_held : ℕ → ℕ → ℕ → ℕ
most_held before l g = before + 2 + l + 2 ^ (g - 8)

-- The walk's writes keep the file. The key leads to the bucket on page n, held exclusively, which
-- has neither a record of the key nor the owner's ghost of it, and has room at the named depth. One
-- key has 17 buckets at most: the first one, and one of each split.
pub record IsAtRest (target : SplitTarget) (view : View) (n : ℕ) (header : HeadFields) (bucket : BucketFields)
    : Type 0 where
  pub bounded : (k : ℕ) → target.bits k < 2 ^ 64
  pub keeps : KeepsFile target.bits target.active target.root view.seen view.own
  pub leads : (clean : ℕ → Option Page) → Agrees view.seen clean → HasForm target.bits clean target.root
      → lead_of (over clean view.own) target.root (seed_of target) ≡ n
  pub head_held : is_some (view.seen target.root) ≡ true
  pub head : held_page view target.root ≡ Some (Page.Head header)
  pub bucket_held : is_some (view.seen n) ≡ true
  pub found : held_page view n ≡ Some (Page.Bucket bucket)
  pub exclusive : map.get view.modes n ≡ Some Exclusive
  pub absent : (i : ℕ) → is_live_of target.key (slice_index_or bucket.slots i Free) ≡ false
  pub no_ghost : (i : ℕ)
      → is_ghost_of target.key target.owner (slice_index_or bucket.slots i Free) ≡ false
  pub room : is_crowded target.bits target.active target.room_depth (seed_of target) bucket.slots ≡ false
  pub small : target.room_depth ≤ 16
  pub few_before : target.held_before ≤ 17
  pub among : HoldsAmong view header.dirs header.dirs 0 (2 ^ (header.depth - 8)) 0
      (most_held target.held_before bucket.depth header.depth)

-- on the pages that are held no slot's room is kept now that was not before
abbrev pub KeepsNoMore : set.FinSet nat_cmp → set.FinSet nat_cmp → View → Type 0
KeepsNoMore before now view =
    (n : ℕ) (p : Option Page) → view.seen n ≡ Some p → AreKeptToo now before (bucket_of p)
