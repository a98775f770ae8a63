-- Where an operation on two records stands, and what a step of it asks
use Rattle.std.specs.Prelude.{ℕ, ◌≡◌, ◌≤◌, ◌<◌, ◌+◌, ◌^◌, nat_eq, if◌then◌else◌, position, None, Some}
use Rattle.mlt_page.specs.Slots.{is_ghost_of}
use Rattle.mlt_object_kinds.specs.declared.operation.ObjReply.{ObjReply}
use Rattle.mlt_object_base.specs.{declared.record.RecChange.TheVariants.Revive, declared.request.Request.Request, Records.CanChange}
use Rattle.mlt_object_base.specs.Requests.{IsPossible, decision, size_decision, size_key_of, target_of}
use Rattle.mlt_hash_form.specs.File.{FilePages, buckets_of, depth_of, lead_of, look_up}
use Rattle.mlt_hash_access.specs.{LocalStates.HasCleanFile, LocalStates.MayStep, LocalStates.LocalState, Views.View, Views.view_of}
use Rattle.mlt_hash_pair.specs.Pairs.{find_by, most_steps}
use Rattle.mlt_hash.specs.{Steps.steps_to_bucket, StepsLeft.steps_to_put, Walks.WalkContext, Walks.WalkFields}
use Rattle.mlt_tx_two_records.specs.{declared.two_records.TwoRecordWalk.TwoRecordWalk, declared.two_records.TwoRecordWalk.TheVariants.First, declared.two_records.TwoRecordWalk.TheVariants.Owing, declared.two_records.TwoRecordWalk.TheVariants.Wide, declared.two_records.WideStage.WideStage, FirstPass.HasToldFirst, FirstPass.IsFindingBoth, FirstPass.OwesOne, WidePass.HasToldBoth, WidePass.HasToldPresent, WidePass.IsGoingToOwn, WidePass.IsGoingToSize}

-- an operation on two records that has taken no step
abbrev pub find_both : ℕ → ℕ → TwoRecordWalk
find_both own size = First (find_by own size)

-- it is in its first pass
abbrev pub IsFirst : TwoRecordWalk → Type 0
IsFirst (First pair) = Unit {0}
IsFirst (Owing pair reply) = Unit {0}
IsFirst (Wide to walk) = ⊥

-- where it stands up to its last step but one, with its reply not told yet
abbrev pub Stands : TwoRecordWalk → WalkContext → Request → View → Type 0
Stands (First pair) context request view = IsFindingBoth context request pair view
Stands (Owing pair reply) context request view = OwesOne context request pair reply view
Stands (Wide WideStage.Own walk) context request view = IsGoingToOwn context request walk view
Stands (Wide WideStage.Size walk) context request view = IsGoingToSize context request walk view

-- where it stands with its reply told: all is written, and its next step is its end
abbrev pub IsTold : TwoRecordWalk → WalkContext → Request → ObjReply → View → Type 0
IsTold (First pair) context request reply view = HasToldFirst context request pair reply view
IsTold (Owing pair told) context request reply view = HasToldFirst context request pair reply view
IsTold (Wide WideStage.Own walk) context request reply view = HasToldPresent context request walk reply view
IsTold (Wide WideStage.Size walk) context request reply view = HasToldBoth context request walk reply view

-- the transaction's own ghost of the key stands in its bucket
abbrev pub HasGhostOn : WalkContext → FilePages → ℕ → Type 0
HasGhostOn context clean key = (i : ℕ)
    × (position (is_ghost_of key context.tx)
    (buckets_of clean (lead_of clean context.root (context.bits key))).slots ≡ Some i)

-- What a request is to change is there on the clean pages: its own record, or none, as an inverse
-- needs it; the size's record, where it is to be lowered, or raised back; and the own ghost that is
-- to be revived.
pub record CanDoBoth (context : WalkContext) (clean : FilePages) (request : Request) : Type 0 where
  pub own : IsPossible request (look_up context.bits clean context.root (target_of request).0)
  pub size : (key : ℕ) → size_key_of request ≡ Some key
      → let own = look_up context.bits clean context.root (target_of request).0 in
      let size = look_up context.bits clean context.root key in
      CanChange (size_decision request (decision request own).0 size) size
  pub ghost : (decision request None).1 ≡ Some Revive → HasGhostOn context clean (target_of request).0

-- What a step asks: the transaction may step, the clean pages are a hash file, on which it stands, and what it is to change is
-- there.
pub record MayGoOn (context : WalkContext) (m : LocalState) (request : Request) (two_records : TwoRecordWalk) : Type 0 where
  pub bounded : (k : ℕ) → context.bits k < 2 ^ 64
  pub small : context.max_depth ≤ 16
  pub may : MayStep m
  pub file : HasCleanFile context.bits context.root m
  pub shallow : depth_of file.clean context.root ≤ context.max_depth
  pub stands : Stands two_records context request (view_of m)
  pub can : CanDoBoth context file.clean request

-- ---- how many steps are left

-- The most steps that the splits of one bucket take in a directory of depth 16 at most, and the write of the record.
abbrev pub most_to_put : ℕ
most_to_put = 577

-- The most steps of a walk up to its change: once the bucket is reached those that are left, and before it the way there and
-- what a full bucket takes.
abbrev pub most_to_change : ℕ → WalkFields → View → ℕ
most_to_change root walk view =
    if nat_eq (steps_to_bucket walk.phase) 0 then steps_to_put root walk view
    else steps_to_bucket walk.phase + most_to_put

-- The most steps that are left of all, the end among them, and those aside that wait. A first pass may be followed by a wide one.
abbrev pub steps_of_two_records : ℕ → TwoRecordWalk → View → ℕ
steps_of_two_records root (First pair) view =
    most_steps pair.left_descent pair.right_descent + (3 + most_to_put + 2 + most_to_put + 1)
steps_of_two_records root (Owing pair reply) view = 2
steps_of_two_records root (Wide WideStage.Own walk) view = most_to_change root walk view + (2 + most_to_put + 1)
steps_of_two_records root (Wide WideStage.Size walk) view = most_to_change root walk view + 1
