-- Where an operation stands between two of its steps: on one record, or on two
use Rattle.std.specs.Prelude.{ℕ, ◌≡◌, ◌≤◌, ◌<◌, ◌^◌, Option, None, Some}
use Rattle.mlt_object_kinds.specs.declared.operation.ObjReply.{ObjReply}
use Rattle.mlt_object_base.specs.{declared.request.Request.Request, Requests.size_key_of, Requests.target_of}
use Rattle.mlt_hash_form.specs.File.{FilePages, depth_of}
use Rattle.mlt_hash_access.specs.{LocalStates.HasCleanFile, LocalStates.MayStep, LocalStates.LocalState, Views.View, Views.view_of}
use Rattle.mlt_hash.specs.{Walks.WalkContext, declared.pass.Pass.Pass}
use Rattle.mlt_tx_two_records.specs.TwoRecordWalks.{CanDoBoth, IsFirst, IsTold, Stands, find_both, steps_of_two_records}
use Rattle.mlt_tx_two_records.specs.declared.two_records.TwoRecordWalk.{TwoRecordWalk}
use Rattle.mlt_tx_operation.specs.declared.access_path.AccessPath.{AccessPath, TheVariants.One, TheVariants.Two}
use Rattle.mlt_tx_operation.specs.Walking.{CanTakeBackOne, IsWalking, WalkingFields, steps_of_walk, walk_for, walking}

-- what a contract sees of an operation: what it is asked, what it is told, once its next step is its end, and how it
-- comes to its records
pub record OperationFields : Type 0 where
  pub request : Request
  pub reply : Option ObjReply
  pub access_path : AccessPath

-- one on one record, and one on two
abbrev pub on_one : WalkingFields → OperationFields
on_one o = record { request = o.request; reply = o.reply; access_path = One o.walk }

abbrev pub on_two : Request → Option ObjReply → TwoRecordWalk → OperationFields
on_two request reply two_records = record { request = request; reply = reply; access_path = Two two_records }

-- the access path of one that has taken no step: to one record, or to the size record of this key too
abbrev pub access_path_for : Request → Option ℕ → AccessPath
access_path_for request None = One (walk_for request)
access_path_for request (Some size) = Two (find_both (target_of request).0 size)

-- an operation that has taken no step
abbrev pub started_for : Request → OperationFields
started_for request = record {
  request = request;
  reply = None;
  access_path = access_path_for request (size_key_of request);
}

-- it is in its first pass
abbrev pub IsInFirst : AccessPath → Type 0
IsInFirst (One walk) = walk.pass ≡ Pass.First
IsInFirst (Two two_records) = IsFirst two_records

-- where one on two records stands: on its way, or with its reply told, since all is written
abbrev pub StandsOrTold : Option ObjReply → TwoRecordWalk → WalkContext → Request → View → Type 0
StandsOrTold None two_records context request view = Stands two_records context request view
StandsOrTold (Some reply) two_records context request view = IsTold two_records context request reply view

-- It stands where its access path is, and its reply fits what was found.
abbrev pub OperatesBy : AccessPath → WalkContext → OperationFields → View → Type 0
OperatesBy (One walk) context o view = IsWalking context (walking o.request o.reply walk) view
OperatesBy (Two two_records) context o view = StandsOrTold o.reply two_records context o.request view

-- an operation under way: it stands where its access path is, and its reply fits what was found
abbrev pub IsOperating : WalkContext → OperationFields → View → Type 0
IsOperating context o view = OperatesBy o.access_path context o view

-- what it is to change is there: of one record where it is to be taken back, and both of two
abbrev pub CanDoBy : Option ℕ → WalkContext → FilePages → Request → Type 0
CanDoBy None context clean request = CanTakeBackOne context clean request
CanDoBy (Some size) context clean request = CanDoBoth context clean request

-- what an operation is to change is there: of one record where it is to be taken back, and both of
-- two
abbrev pub CanDo : WalkContext → FilePages → Request → Type 0
CanDo context clean request = CanDoBy (size_key_of request) context clean request

-- What a step of an operation asks: the transaction may step, the clean pages are a hash file, on which it stands, and
-- what it is to change is there.
pub record MayOperate (context : WalkContext) (m : LocalState) (o : OperationFields) : Type 0 where
  pub bounded : (k : ℕ) → context.bits k < 2 ^ 64
  pub small : context.max_depth ≤ 16
  pub may : MayStep m
  pub file : HasCleanFile context.bits context.root m
  pub shallow : depth_of file.clean context.root ≤ context.max_depth
  pub operates : IsOperating context o (view_of m)
  pub can : CanDo context file.clean o.request

-- How many steps are left, its end among them, and those aside that wait: of its pass, where it is on one record; and at
-- most so many of all, where it is on two.
abbrev pub steps_of_two : Option ObjReply → ℕ → TwoRecordWalk → View → ℕ
steps_of_two None root two_records view = steps_of_two_records root two_records view
steps_of_two (Some reply) root two_records view = 1

abbrev pub steps_by : AccessPath → ℕ → Option ObjReply → View → ℕ
steps_by (One walk) root reply view = steps_of_walk root walk view
steps_by (Two two_records) root reply view = steps_of_two reply root two_records view

abbrev pub steps_left : ℕ → OperationFields → View → ℕ
steps_left root o view = steps_by o.access_path root o.reply view
