-- How many steps an operation still takes at most, those aside that wait
use Rattle.std.specs.Prelude.{ℕ, ◌+◌, ◌*◌, nat_eq, if◌then◌else◌, Option}
use Rattle.mlt_object_kinds.specs.declared.operation.ObjReply.{ObjReply}
use Rattle.mlt_hash_access.specs.Views.{View}
use Rattle.mlt_hash.specs.{Steps.steps_to_bucket, Walks.WalkFields, declared.pass.Pass.Pass, declared.pass.Pass.TheVariants.First, declared.pass.Pass.TheVariants.Narrow, declared.pass.Pass.TheVariants.Wide}
use Rattle.mlt_tx_operation.specs.{declared.access_path.AccessPath.AccessPath, declared.access_path.AccessPath.TheVariants.One, declared.access_path.AccessPath.TheVariants.Two, Operating.OperationFields, Operating.steps_of_two, Walking.steps_of_walk}

-- how many passes may still follow this one
abbrev pub passes_after : Pass → ℕ
passes_after First = 2
passes_after Narrow = 1
passes_after Wide = 0

-- The most steps from a full bucket on, in a directory of depth 16 at most: those of its splits, the write of the record,
-- and the end.
abbrev pub most_from_bucket : ℕ
most_from_bucket = 578

-- The most steps up to the end on one record, the end among them: once the bucket is reached those that are left of the
-- pass, and before it the way there, in this pass and in those that may follow, and what a full bucket takes.
abbrev pub most_steps_of_walk : ℕ → WalkFields → View → ℕ
most_steps_of_walk root walk view =
    if nat_eq (steps_to_bucket walk.phase) 0 then steps_of_walk root walk view
    else steps_to_bucket walk.phase + 3 * passes_after walk.pass + most_from_bucket

-- the same by the access path: on two records as many as are left
abbrev pub most_steps_by : AccessPath → ℕ → Option ObjReply → View → ℕ
most_steps_by (One walk) root reply view = most_steps_of_walk root walk view
most_steps_by (Two two_records) root reply view = steps_of_two reply root two_records view

-- How many steps an operation still takes at most, its end among them, and those that wait aside:
-- at most 587 on one record, and 1165 on two.
abbrev pub most_steps : ℕ → OperationFields → View → ℕ
most_steps root o view = most_steps_by o.access_path root o.reply view
