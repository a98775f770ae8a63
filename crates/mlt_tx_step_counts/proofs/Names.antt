-- Names of other crates, of std and of specs/ that two files of these proofs or more import. Declares nothing.
pub use Rattle.mlt_event.specs.declared.answer.Answer.{Answer}
pub use Rattle.mlt_hash.{proofs.StepsLeft.put_is_left, proofs.StepsLeft.put_on_way, specs.Steps.steps_to_bucket, specs.StepsLeft.bucket_depth, specs.StepsLeft.depth_after, specs.StepsLeft.directory_depth, specs.StepsLeft.steps_to_put_at, specs.Walks.Stands, specs.Walks.WalkContext, specs.Walks.WalkFields, specs.Walks.one_key, specs.declared.pass.Pass.Pass, specs.declared.pass.Phase.Phase}
pub use Rattle.mlt_hash_access.specs.{LocalStates.LocalState, LocalStates.local, Views.View, Views.view_of}
pub use Rattle.mlt_hash_pair.specs.Pairs.{PairFields, find_by, least_steps, most_steps}
pub use Rattle.mlt_hash_split.specs.Splits.{SplitFields, directory_steps}
pub use Rattle.mlt_object_base.specs.{Effects.inverse_of, Requests.size_key_of, Requests.target_of, declared.request.Request.Request, declared.request.Request.TheVariants.Do, declared.request.Request.TheVariants.TakeBack}
pub use Rattle.mlt_object_kinds.specs.declared.operation.{ObjOp.ObjOp, ObjReply.ObjReply}
pub use Rattle.mlt_tx.specs.{Transactions.TellsAt, Transactions.TellsOfTransaction, declared.transaction.At.At, declared.transaction.Transaction.Transaction}
pub use Rattle.mlt_tx_operation.specs.{Answers.StepsOn, Answers.TellsOfStep, Operating.IsInFirst, Operating.OperationFields, Operating.access_path_for, Operating.on_one, Operating.started_for, Walking.FitsPhase, Walking.WalkingFields, Walking.steps_of_walk, Walking.walk_for, Walking.walking, declared.access_path.AccessPath.AccessPath, declared.access_path.AccessPath.TheVariants.One, declared.access_path.AccessPath.TheVariants.Two, declared.answer.StepAnswer.StepAnswer}
pub use Rattle.mlt_tx_step_counts.specs.{Counts.IsDoneOrBlocked, Counts.IsRefusal, Counts.IsTakenBack, Counts.IsToTakeBack, CountsOfTwo.IsPendingAt, CountsOfTwo.TakesWidePassOfTwo, CountsOfTwo.started_wide, OwnSteps.AreOwnSteps, OwnSteps.GoesThen, OwnSteps.GoesToTurn, OwnSteps.GoesUpTo, OwnSteps.OwnStep, OwnSteps.answers_of, OwnSteps.context_at, OwnSteps.view_in, OwnSteps.with_answer}
pub use Rattle.mlt_tx_two_records.specs.{Answers.GoesOnBy, Answers.TellsLast, WidePass.wide_to, declared.two_records.TwoRecordWalk.TwoRecordWalk, declared.two_records.TwoRecordWalk.TheVariants.First, declared.two_records.TwoRecordWalk.TheVariants.Owing, declared.two_records.TwoRecordWalk.TheVariants.Wide, declared.two_records.WideStage.WideStage}
