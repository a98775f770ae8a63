-- Names of other crates, of std and of specs/ that two files of these proofs or more import. Declares nothing.
pub use Rattle.mlt_hash.{proofs.Passed.read_of, proofs.StepsLeft.put_on_way, specs.Changes.MayChange, specs.Changes.page_of, specs.Passes.next_of, specs.Splitting.IsUnderWay, specs.Splitting.TellsAt, specs.Steps.HasFound, specs.Steps.IsSameWalk, specs.Steps.steps_to_bucket, specs.StepsLeft.bucket_depth, specs.StepsLeft.directory_depth, specs.StepsLeft.steps_to_put_at, specs.Walks.HasRead, specs.Walks.IsChanged, specs.Walks.Stands, specs.Walks.WalkContext, specs.Walks.WalkFields, specs.Walks.context_in, specs.Walks.one_key, specs.declared.answer.WalkAnswer.WalkAnswer, specs.declared.pass.Change.Change, specs.declared.pass.Pass.Pass, specs.declared.pass.Phase.Phase}
pub use Rattle.mlt_hash_access.{proofs.Since.nothing_written, proofs.Views.agrees, specs.LocalStates.LocalState, specs.LocalStates.local, specs.PageSteps.Leaves, specs.PageTurns.IsRolledBack, specs.PageTurns.TakesTurn, specs.Views.View, specs.Views.view_of}
pub use Rattle.mlt_hash_form.specs.{File.IsPath, Form.value_in, Held.Agrees, Plans.SetsFirst, Plans.WriteFields}
pub use Rattle.mlt_object_base.specs.{Records.CanChange, Requests.decision, Requests.size_key_of, Requests.target_of, declared.record.RecChange.RecChange, declared.record.RecChange.TheVariants.Add, declared.record.RecChange.TheVariants.Revive, declared.request.Request.Request, declared.request.Request.TheVariants.Do, declared.request.Request.TheVariants.TakeBack}
pub use Rattle.mlt_object_kinds.specs.declared.{element.ElementOp.ElementOp, operation.ObjOp.ObjOp, operation.ObjOp.TheVariants.Element, operation.ObjReply.ObjReply}
pub use Rattle.mlt_page.specs.{Slots.is_live_of, Values.BucketFields, declared.page.Page.Page, declared.slot.Slot.TheVariants.Live, Stores.page_at}
pub use Rattle.mlt_page_locks.specs.{LockTables.can_write, LockTables.pages_of, Requests.released}
pub use Rattle.mlt_tx_operation.specs.{Answers.HasToRestart, Answers.IsRefused, Answers.StepsOn, Answers.TellsOfStep, Answers.Waits, AtBucket.Finishes, AtBucket.IsThereFor, AtBucket.MayDecide, AtBucket.TellsAtBucket, Fast.NobodyHolds, Fast.PassesFast, Fast.store_after, MostSteps.most_steps_by, Operating.MayOperate, Operating.OperatesBy, Operating.OperationFields, Operating.access_path_for, Operating.on_one, Operating.on_two, Operating.started_for, Performing.TellsOfDecision, Walking.CanTakeBackOne, Walking.FitsPhase, Walking.HasPerformed, Walking.IsToAdd, Walking.MayWalkOn, Walking.WalkingFields, Walking.steps_of_walk, Walking.walking, declared.access_path.AccessPath.AccessPath, declared.access_path.AccessPath.TheVariants.One, declared.access_path.AccessPath.TheVariants.Two, declared.answer.StepAnswer.StepAnswer}
pub use Rattle.mlt_tx_two_records.{proofs.Performing.leaves, proofs.RollingBack.rolls_back, proofs.WideTurns.one_step_turns, specs.Performing.AsksToAdd, specs.Performing.Performs, specs.TwoRecordWalks.steps_of_two_records, specs.WalkSteps.steps_to_change, specs.declared.two_records.TwoRecordWalk.TwoRecordWalk, specs.declared.two_records.TwoRecordWalk.TheVariants.First, specs.declared.two_records.TwoRecordWalk.TheVariants.Owing, specs.declared.two_records.TwoRecordWalk.TheVariants.Wide, specs.declared.two_records.WideStage.WideStage}
pub use Rattle.mlt_types.specs.declared.{mode.Mode.Mode, mode.Mode.TheVariants.Exclusive, mode.Mode.TheVariants.Shared, refusal.Refusal.Refusal}
pub use Rattle.std.proofs.lemmas.Bool.{false≢true}
