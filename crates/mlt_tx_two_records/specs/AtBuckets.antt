-- What a first pass does once it has found both keys
use Rattle.std.specs.Prelude.{ℕ, ◌≡◌, Option, Some}
use Rattle.mlt_object_kinds.specs.declared.operation.ObjReply.{ObjReply}
use Rattle.mlt_object_base.specs.{declared.record.RecChange.TheVariants.Revive, declared.request.Request.Request, Records.CanChange, Requests.IsPossible, Requests.decision, Requests.size_decision}
use Rattle.mlt_hash_form.specs.File.{GivesPseudokeys}
use Rattle.mlt_hash_access.specs.{LocalStates.HasCleanFile, LocalStates.MayStep, LocalStates.LocalState, PageSteps.Leaves, PageSteps.WritesAtMost, PageTurns.IsRolledBack, Views.view_of}
use Rattle.mlt_hash_pair.specs.{Pairs.IsFinding, Pairs.IsFound, Pairs.PairFields, Pairs.later_page, Descents.found_of}
use Rattle.mlt_hash.specs.Walks.{WalkContext, IsAtStart}
use Rattle.mlt_tx_two_records.specs.{declared.first.FirstAnswer.FirstAnswer, TwoRecordWalks.HasGhostOn, Performing.AddsElement}
use Rattle.mlt_tx_two_records.specs.FirstPass.{AsksForBoth, HasFullBucket, HasKeys, HasToldFirst, OwesOne, task_for}

-- Both keys are found, nothing is written, and what was found can be changed as is asked.
pub record MayActOnBoth (context : WalkContext) (m : LocalState) (request : Request) (pair : PairFields)
    (own size : Option ℕ) : Type 0 where
  pub bounded : GivesPseudokeys context.bits
  pub may : MayStep m
  pub file : HasCleanFile context.bits context.root m
  pub keys : HasKeys request pair.left pair.right
  pub finding : IsFinding context.bits context.root pair (view_of m)
  pub found : IsFound pair
  pub own_is : found_of pair.left_descent ≡ own
  pub size_is : found_of pair.right_descent ≡ size
  pub possible : IsPossible request own
  pub fits : CanChange (size_decision request (decision request own).0 size) size
  pub ghost : (decision request own).1 ≡ Some Revive → HasGhostOn context file.clean pair.left

-- on page q the changes, or that of the later bucket, are written, or nothing is asked for
pub record Writes (old new : LocalState) (q : ℕ) : Type 0 where
  pub leaves : Leaves old new
  pub writes : WritesAtMost old new q

-- One of the buckets has no room, and all is rolled back.
pub record RollsBack (context : WalkContext) (old new : LocalState) (request : Request) (pair : PairFields)
    : Type 0 where
  pub back : IsRolledBack old new
  pub start : IsAtStart (view_of new)
  pub adds : AddsElement request
  pub reply : ObjReply
  pub asks : AsksForBoth request reply (found_of pair.left_descent) (found_of pair.right_descent)
  pub full : HasFullBucket (task_for context pair asks.change asks.resize) context.tx (view_of old)

abbrev pub TellsAtBuckets : WalkContext → LocalState → LocalState → Request → PairFields → PairFields → FirstAnswer
    → Type 0
TellsAtBuckets context old new request before after (FirstAnswer.OneLeft reply) =
    Writes old new (later_page before) × OwesOne context request after reply (view_of new)
TellsAtBuckets context old new request before after (FirstAnswer.Told reply) =
    Writes old new (later_page before) × HasToldFirst context request after reply (view_of new)
TellsAtBuckets context old new request before after FirstAnswer.Full =
    RollsBack context old new request before
TellsAtBuckets context old new request before after other = ⊥
