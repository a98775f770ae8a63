-- Which page locks a transaction holds between two events: those of its operation's pass, or none
use Rattle.std.specs.Prelude.{ℕ, ◌≡◌, ◌≢◌, ◌⊎◌, ◌↔◌, true, false, is_some, unwrap_or, List, Option, None, Some, slice_index}
use Rattle.std.specs.FinMap as map
use Rattle.mlt_types.specs.declared.mode.Mode.{Mode, TheVariants.Exclusive}
use Rattle.mlt_object_base.specs.{declared.request.Request.Request, Requests.target_of}
use Rattle.mlt_page.specs.{declared.page.Page.Page, Values.HeadFields}
use Rattle.mlt_page_locks.specs.LockTables.{LockTable, Modes, is_holder, mode_held, pages_of}
use Rattle.mlt_page_subtx.specs.Images.{Images, image_of}
use Rattle.mlt_hash_form.specs.{File.FilePages, File.dir_of, File.row_of, Held.over}
use Rattle.mlt_hash_pair.specs.{Pairs.PairFields, Descents.IsLocked, declared.descent.Descent.Descent}
use Rattle.mlt_hash.specs.{Passes.MayHoldMore, Passes.bucket_held, Passes.bucket_mode, Passes.directory_held, Passes.directory_mode, Passes.header_held, Passes.header_mode, Walks.WalkContext, Walks.WalkFields, Walks.context_by, declared.pass.Phase.Phase}
use Rattle.mlt_tx_two_records.specs.{declared.two_records.TwoRecordWalk.TwoRecordWalk, declared.two_records.TwoRecordWalk.TheVariants.First, declared.two_records.TwoRecordWalk.TheVariants.Owing, declared.two_records.TwoRecordWalk.TheVariants.Wide, declared.two_records.WideStage.WideStage, FirstPass.HasKeys}
use Rattle.mlt_tx_operation.specs.{declared.access_path.AccessPath.AccessPath, declared.access_path.AccessPath.TheVariants.One, declared.access_path.AccessPath.TheVariants.Two, Operating.OperationFields}
use Rattle.mlt_tx.specs.declared.transaction.{At.At, Transaction.Transaction}
use Rattle.mlt_manager_invariant.specs.States.{images_kept}
use Rattle.mlt_manager.specs.Managers.{ManagerFields}

-- The operation that a transaction runs that is at this, if it runs one: the pending one, or the
-- inverse by which its abort takes one back.
abbrev pub running_at : At → Option OperationFields
running_at At.Idle = None
running_at (At.Pending o) = Some o
running_at (At.Undoing inverting) = inverting

-- the operation that a transaction runs, if it is open and runs one
abbrev pub running_of : Option Transaction → Option OperationFields
running_of None = None
running_of (Some t) = running_at t.at

-- the first images that it keeps, if it is open: one of each page that its pass has written or made
abbrev pub images_at : Option Transaction → Images
images_at there = unwrap_or (images_kept there) map.empty

-- The way to a key on the clean pages.
pub record KeysWay (context : WalkContext) (clean : FilePages) (key : ℕ) : Type 0 where
  -- the header, at the root
  pub header : HeadFields
  pub head : clean context.root ≡ Some (Page.Head header)
  -- the directory page that the header names for the key, and its entries
  pub dir : ℕ
  pub dir_is : dir ≡ dir_of header (context.bits key)
  pub entries : List ℕ
  pub listed : clean dir ≡ Some (Page.Dir entries)
  -- the bucket that the key's entry there names
  pub bucket : ℕ
  pub bucket_is : bucket ≡ slice_index entries (row_of header (context.bits key))

-- The page locks of a pass that has looked into its bucket: the pages of its way, in the modes of
-- the pass, and each other page exclusively that the pass has written or made. A first pass has
-- none, and a narrow one only pages that it made, which are not among the clean ones.
pub record HoldsWay (walk : WalkFields) (clean : FilePages) (images : Images)
    (root dir bucket : ℕ) (modes : Modes) : Type 0 where
  pub on_header : map.get modes root ≡ Some (header_mode walk.pass)
  pub on_dir : map.get modes dir ≡ Some (directory_mode walk.pass)
  pub on_bucket : map.get modes bucket ≡ Some (bucket_mode walk.pass walk.mode)
  pub others : (q : ℕ) → q ≢ root → q ≢ dir → q ≢ bucket → is_some (map.get modes q) ≡ true
      → (map.get modes q ≡ Some Exclusive)
      × MayHoldMore walk.pass (Some (clean q)) (is_some (image_of images q))

-- The page locks of a walk, by its phase. Up to its bucket it holds the pages of its way that it
-- has come to, and no other: none, the header, the directory page too, the bucket too. From then on
-- it holds all three, and what else its pass has written or made.
abbrev pub LocksAt : Phase → WalkContext → FilePages → WalkFields → Images → Modes → Type 0
LocksAt Phase.Start context clean walk images modes = modes ≡ map.empty
LocksAt (Phase.Headed dir row depth) context clean walk images modes =
    modes ≡ header_held map.empty walk.pass context.root
LocksAt (Phase.Placed bucket depth) context clean walk images modes =
    (way : KeysWay context clean walk.key) × (modes ≡ directory_held map.empty walk.pass context.root way.dir)
LocksAt (Phase.AtBucket bucket depth found) context clean walk images modes =
    (way : KeysWay context clean walk.key)
    × (modes ≡ bucket_held map.empty walk.pass walk.mode context.root way.dir way.bucket)
LocksAt later context clean walk images modes =
    (way : KeysWay context clean walk.key)
    × HoldsWay walk clean images context.root way.dir way.bucket modes

-- The way of a key on the clean pages, as far as a first pass to two keys has come on it: none, the
-- header, the directory page too, the bucket too.
abbrev pub IsOnWay : Descent → WalkContext → FilePages → ℕ → Type 0
IsOnWay Descent.Start context clean key = Unit {0}
IsOnWay (Descent.Headed place dir row) context clean key =
    (header : HeadFields) × (clean context.root ≡ Some (Page.Head header))
    × (dir ≡ dir_of header (context.bits key))
IsOnWay (Descent.Placed dir bucket) context clean key =
    (on : KeysWay context clean key) × (dir ≡ on.dir) × (bucket ≡ on.bucket)
IsOnWay (Descent.AtBucket dir bucket found) context clean key =
    (on : KeysWay context clean key) × (dir ≡ on.dir) × (bucket ≡ on.bucket)

-- The page locks of a first pass to two keys, those of the records that the request changes: a page
-- is held just where it is of one of the two ways as far as they have come, the header and the
-- directory pages shared, and the buckets exclusively.
pub record HoldsPair (context : WalkContext) (clean : FilePages) (request : Request) (pair : PairFields)
    (modes : Modes) : Type 0 where
  pub keys : HasKeys request pair.left pair.right
  pub own : IsOnWay pair.left_descent context clean pair.left
  pub size : IsOnWay pair.right_descent context clean pair.right
  pub locks : (q : ℕ) (mode : Mode) → (map.get modes q ≡ Some mode)
      ↔ (IsLocked context.root pair.left_descent q mode ⊎ IsLocked context.root pair.right_descent q mode)

-- The page locks of a wide pass that has gone on to the key of a size, all of them exclusive: the
-- header, the directory page and the bucket of its own key, those pages of the way to the other key
-- that it has come to, and each other page that it has written or made.
pub record HoldsBoth (root dir bucket : ℕ) (IsOfSize : ℕ → Type 0) (images : Images)
    (modes : Modes) : Type 0 where
  pub on_header : map.get modes root ≡ Some Exclusive
  pub on_dir : map.get modes dir ≡ Some Exclusive
  pub on_bucket : map.get modes bucket ≡ Some Exclusive
  pub on_size : (q : ℕ) → IsOfSize q → map.get modes q ≡ Some Exclusive
  pub others : (q : ℕ) → q ≢ root → q ≢ dir → q ≢ bucket → (IsOfSize q → ⊥)
      → is_some (map.get modes q) ≡ true
      → (map.get modes q ≡ Some Exclusive) × (is_some (image_of images q) ≡ true)

-- By the walk's phase, those pages of the way to the size's key that it has come to, beside the
-- header, on these pages: none, the directory page, the bucket too.
abbrev pub LocksOverAt : Phase → WalkContext → FilePages → ℕ → ((ℕ → Type 0) → Type 0) → Type 0
LocksOverAt Phase.Start context pages key Holds = ⊥
LocksOverAt (Phase.Headed dir row depth) context pages key Holds = Holds (λ q. ⊥)
LocksOverAt (Phase.Placed bucket depth) context pages key Holds =
    (way : KeysWay context pages key) × Holds (λ q. q ≡ way.dir)
LocksOverAt later context pages key Holds =
    (way : KeysWay context pages key) × Holds (λ q. (q ≡ way.dir) ⊎ (q ≡ way.bucket))

-- The way to the size's key is one on the clean pages with what the pass had written when it went on
-- to that key. Of each page that it had written it keeps the first image.
pub record HoldsOver (context : WalkContext) (clean : FilePages) (request : Request) (walk : WalkFields)
    (images : Images) (modes : Modes) : Type 0 where
  pub keys : HasKeys request (target_of request).0 walk.key
  pub own : KeysWay context clean (target_of request).0
  pub written : FilePages
  pub kept : (q : ℕ) → is_some (written q) ≡ true → is_some (image_of images q) ≡ true
  pub locks : LocksOverAt walk.phase context (over clean written) walk.key
      (λ IsOfSize. HoldsBoth context.root own.dir own.bucket IsOfSize images modes)

-- the page locks of an operation on two records: of its first pass, or on either stage of its wide one
abbrev pub LocksOfTwo : TwoRecordWalk → WalkContext → FilePages → Request → Images → Modes → Type 0
LocksOfTwo (First pair) context clean request images modes = HoldsPair context clean request pair modes
LocksOfTwo (Owing pair reply) context clean request images modes =
    HoldsPair context clean request pair modes
LocksOfTwo (Wide WideStage.Own walk) context clean request images modes =
    LocksAt walk.phase context clean walk images modes
LocksOfTwo (Wide WideStage.Size walk) context clean request images modes =
    HoldsOver context clean request walk images modes

-- and of any operation
abbrev pub LocksBy : AccessPath → WalkContext → FilePages → Request → Images → Modes → Type 0
LocksBy (One walk) context clean request images modes =
    LocksAt walk.phase context clean walk images modes
LocksBy (Two two_records) context clean request images modes =
    LocksOfTwo two_records context clean request images modes

-- The page locks of a transaction that runs this and keeps these images: none, unless it runs an
-- operation, and then those of its pass. The context tells whose it is.
abbrev pub LocksOf : Option OperationFields → LockTable → WalkContext → FilePages → Images → Type 0
LocksOf None locks context clean images = is_holder locks context.tx ≡ false
LocksOf (Some o) locks context clean images =
    LocksBy o.access_path context clean o.request images (pages_of locks context.tx)

-- Transaction i holds the page locks of its pass, if it runs an operation, and else none. Each page
-- that its pass has written or made it holds exclusively.
pub record HoldsLocksOfItsPass {P : Type 0} (bits_of : P → ℕ → ℕ) (m : ManagerFields P)
    (clean : FilePages) (i : ℕ) : Type 0 where
  pub of_pass : LocksOf (running_of (map.get m.txs i)) m.shared.pages.locks
      (context_by bits_of m.root m.active i) clean (images_at (map.get m.txs i))
  pub written : (q : ℕ) → is_some (image_of (images_at (map.get m.txs i)) q) ≡ true
      → mode_held m.shared.pages.locks i q ≡ Some Exclusive
