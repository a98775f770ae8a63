-- Names of other crates, of std and of specs/ that two files of these proofs or more import. Declares nothing.
pub use Rattle.mlt_hash.{proofs.Additions.nowhere_found, proofs.Passed.read_of, proofs.Standings.found_still, proofs.Standings.standing_holds_few, proofs.StepsLeft.put_on_way, specs.Changes.HasNoRoom, specs.Changes.Makes, specs.Changes.MayChange, specs.Changes.NeedsSplit, specs.Changes.TellsOfAddition, specs.Changes.page_of, specs.Passes.slot_after, specs.Splitting.HasToMake, specs.Splitting.IsUnderWay, specs.Splitting.TellsAt, specs.Steps.GoesOn, specs.Steps.HasFound, specs.Steps.IsSameWalk, specs.Steps.steps_to_bucket, specs.StepsLeft.IsPutting, specs.StepsLeft.bucket_depth, specs.StepsLeft.depth_after, specs.StepsLeft.directory_depth, specs.StepsLeft.steps_to_put, specs.StepsLeft.steps_to_put_at, specs.Walks.Before, specs.Walks.HasRead, specs.Walks.IsChanged, specs.Walks.IsStanding, specs.Walks.MayWalk, specs.Walks.Stands, specs.Walks.StoodBefore, specs.Walks.WalkContext, specs.Walks.WalkFields, specs.Walks.context_after, specs.Walks.context_in, specs.Walks.one_key, specs.Walks.view_for, specs.declared.answer.WalkAnswer.WalkAnswer, specs.declared.pass.Change.Change, specs.declared.pass.Pass.Pass, specs.declared.pass.Phase.Phase}
pub use Rattle.mlt_hash_access.{proofs.OwnSteps.step_keeps_tx, proofs.Rebased.same_some, proofs.Rebased.written_stays, proofs.Since.nothing_written, proofs.Turns.lock_and_write_touch, proofs.Turns.step_turns, proofs.Views.agrees, specs.LocalStates.LocalState, specs.LocalStates.local, specs.PageSteps.Leaves, specs.PageSteps.LocksAtMost, specs.PageSteps.TouchesOnePage, specs.PageTurns.IsRolledBack, specs.PageTurns.TakesTurn, specs.Views.HasWritten, specs.Views.ReadsHeldBucket, specs.Views.View, specs.Views.WritesPage, specs.Views.rebased, specs.Views.view_of}
pub use Rattle.mlt_hash_form.specs.{File.FilePages, File.HasForm, File.bucket_of, File.depth_of, File.header_of, File.lead_of, File.look_up, Held.Agrees, Held.over, Held.own_or_clean, Plans.WriteFields, Plans.planned_page}
pub use Rattle.mlt_hash_pair.{proofs.Laws.both_there, proofs.Laws.holds_read, proofs.Records.both_lead, specs.Changes.HasChanged, specs.Changes.IsHolding, specs.Changes.LeavesLeft, specs.Changes.LeavesRight, specs.Changes.MakesBoth, specs.Descents.IsThere, specs.Descents.found_of, specs.Pairs.IsFinding, specs.Pairs.IsFound, specs.Pairs.PairFields, specs.Pairs.later_page, specs.Plans.FitsFound, specs.declared.asked.RecordChange.RecordChange, specs.declared.descent.Descent.Descent}
pub use Rattle.mlt_hash_split.specs.Rests.{KeepsNoMore}
pub use Rattle.mlt_object_base.specs.{Effects.size_change_of, Records.CanChange, Records.record_after, Requests.IsPossible, Requests.decision, Requests.size_decision, Requests.size_key_of, Requests.target_of, declared.record.RecChange.RecChange, declared.record.RecChange.TheVariants.Add, declared.record.RecChange.TheVariants.Minus, declared.record.RecChange.TheVariants.Plus, declared.record.RecChange.TheVariants.Revive, declared.record.RecChange.TheVariants.Set, declared.record.RecChange.TheVariants.ToGhost, declared.request.Request.Request, declared.request.Request.TheVariants.Do}
pub use Rattle.mlt_object_kinds.specs.declared.{element.ElementOp.ElementOp, operation.ObjOp.TheVariants.Element, operation.ObjReply.ObjReply}
pub use Rattle.mlt_page.specs.{Slots.is_ghost_of, Slots.is_kept, Values.BucketFields, Values.with_slot, declared.page.Page.Page, declared.slot.Slot.Slot, declared.slot.Slot.TheVariants.Free}
pub use Rattle.mlt_page_locks.specs.LockTables.{page_count}
pub use Rattle.mlt_tx_two_records.specs.{Answers.TellsOfTwoRecords, AtBuckets.MayActOnBoth, AtBuckets.Writes, AtWideBuckets.HasJustPut, AtWideBuckets.MayActOnOwn, AtWideBuckets.MayActOnSize, AtWideBuckets.MayStepToSize, AtWideBuckets.MayWalkToOwn, AtWideBuckets.Raises, AtWideBuckets.TellsAtOwn, AtWideBuckets.TellsAtSize, AtWideBuckets.TellsOfRaise, FirstPass.AsksForBoth, FirstPass.AsksForNone, FirstPass.ChangesBoth, FirstPass.HasKeys, FirstPass.HasToldFirst, FirstPass.OwesEither, FirstPass.OwesOne, FirstPass.task_for, Performing.AddsElement, Performing.Performs, Performing.asked_of, Records.PlansRecord, Records.WritesRecord, TwoRecordWalks.HasGhostOn, TwoRecordWalks.IsTold, TwoRecordWalks.MayGoOn, WalkSteps.GoesNearer, WalkSteps.ReachesBucket, WidePass.HasPutOwn, WidePass.HasToldBoth, WidePass.HasToldPresent, WidePass.IsGoingToOwn, WidePass.IsGoingToSize, WidePass.IsWideTo, WidePass.PutsOwn, WidePass.PutsSize, WidePass.PutsThen, declared.answer.TwoRecordAnswer.TwoRecordAnswer, declared.two_records.TwoRecordWalk.TwoRecordWalk, declared.two_records.TwoRecordWalk.TheVariants.First, declared.two_records.TwoRecordWalk.TheVariants.Owing, declared.two_records.TwoRecordWalk.TheVariants.Wide, declared.two_records.WideStage.WideStage}
pub use Rattle.mlt_types.specs.declared.{mode.Mode.TheVariants.Exclusive, refusal.Refusal.Refusal}
pub use Rattle.std.proofs.lemmas.{Bool.cases_eq, Bool.cases_lt, Bool.cond-false, Bool.cond-true, Bool.false≢true, Option.none-some}
