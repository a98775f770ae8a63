-- Names of other crates, of std and of specs/ that two files of these proofs or more import. Declares nothing.
pub use Rattle.mlt_hash.specs.{Changes.IsAtAbsent, Changes.IsAtBucketPhase, Changes.IsFull, Changes.Makes, Changes.MayChange, Changes.PlansSlot, Changes.RevivesFirst, Changes.SeesBucket, Changes.TellsOfChange, Changes.TellsOfWrite, Changes.directory_depth_of, Changes.page_of, Passes.bucket_held, Passes.bucket_mode, Passes.directory_held, Passes.directory_mode, Passes.header_held, Passes.header_mode, Passes.slot_after, Splitting.BeginsSplit, Splitting.SplitCloses, Splitting.SplitGoesOn, Splitting.TellsAt, Splitting.TellsOfAdding, Splitting.TellsOfSplitting, Splitting.WalkStep, Splitting.walk_step, Steps.HasFound, Steps.steps_to_bucket, Walks.Before, Walks.FoundBefore, Walks.GoesAfter, Walks.HasRead, Walks.HoldsBeside, Walks.HoldsByPass, Walks.IsAdding, Walks.IsAtBucket, Walks.IsAtStart, Walks.IsChanged, Walks.IsHeaded, Walks.IsOwnSlot, Walks.IsPlaced, Walks.IsSplitting, Walks.IsStanding, Walks.MayWalk, Walks.SlotsStood, Walks.Stands, Walks.StaysNarrow, Walks.StoodBefore, Walks.WalkContext, Walks.WalkFields, Walks.before_of, Walks.context_after, Walks.context_in, Walks.nothing_before, Walks.one_key, Walks.slot_on, Walks.split_target, Walks.view_for, declared.answer.WalkAnswer.WalkAnswer, declared.pass.Change.Change, declared.pass.Pass.Pass, declared.pass.Phase.Phase}
pub use Rattle.mlt_hash_access.{proofs.OwnSteps.step_keeps_tx, proofs.Reading.read_is_there, proofs.Rebased.rebased_reads_page, proofs.Since.agrees_over, proofs.Since.over_since, proofs.Since.reads_over_writes, proofs.Since.reads_since, proofs.Since.sees_page_since, proofs.Since.unwritten_anew, proofs.Views.may_read, proofs.Views.may_write, proofs.Views.mode_of_others, proofs.Views.mode_of_page, proofs.Views.reads_held_after, proofs.Views.reads_seen, proofs.Views.seen_held, proofs.Views.write_writes, proofs.Views.writes_over_clean, specs.LocalStates.HasCleanFile, specs.LocalStates.HasFileOver, specs.LocalStates.IsCleanFor, specs.LocalStates.LocalState, specs.LocalStates.MayStep, specs.LocalStates.local, specs.LocalStates.no_writes, specs.PageSteps.TouchesOnePage, specs.PageSteps.WritesHeldSlot, specs.Views.HasWritten, specs.Views.MakesPage, specs.Views.ReadsHeldBucket, specs.Views.ReadsHeldPage, specs.Views.ReadsPage, specs.Views.View, specs.Views.WritesPage, specs.Views.view_of, specs.Views.view_over}
pub use Rattle.mlt_hash_form.{proofs.Crowd.crowded_at_own_depth, proofs.HeldPages.keeps_none, proofs.HeldPages.seen_as, proofs.Splitting.used_from_kept, specs.Changes.IsHome, specs.File.FilePages, specs.File.HasForm, specs.File.IsPath, specs.File.bucket_of, specs.File.buckets_of, specs.File.dir_of, specs.File.header_of, specs.File.lead_of, specs.File.look_up, specs.File.row_of, specs.Form.slot_at, specs.Form.value_in, specs.Held.Agrees, specs.Held.KeepsFile, specs.Held.RearrangesSlots, specs.Held.over, specs.Held.own_or_clean, specs.Room.crowds, specs.Room.is_crowded, specs.Plans.IsNowhere, specs.Plans.SetsFirst, specs.Plans.WriteFields, specs.Plans.has_room, specs.Plans.planned_page}
pub use Rattle.mlt_hash_split.{proofs.Closing.HasClean, proofs.Few.rest_holds_few, specs.Rests.IsAtRest, specs.Rests.KeepsNoMore, specs.Rests.SplitTarget, specs.Rests.held_page, specs.Splits.HasHalves, specs.Splits.IsUnderWay, specs.Splits.MayAdvance, specs.Splits.MayBegin, specs.Splits.SplitFields, specs.Splits.directory_steps, specs.Splits.steps_left, specs.Steps.IsDone, specs.Steps.IsMaking, specs.Steps.IsNextPage, specs.Tells.GoesOn, specs.Tells.Rests, specs.declared.split.SplitAnswer.SplitAnswer}
pub use Rattle.mlt_page.specs.{Bits.first_bits, Pages.page_with_slot, Slots.is_ghost_of, Slots.is_kept, Slots.is_live_of, Values.BucketFields, Values.HeadFields, declared.page.Page.Page, declared.slot.Slot.Slot, declared.slot.Slot.TheVariants.Free, declared.slot.Slot.TheVariants.Ghost, declared.slot.Slot.TheVariants.Live, Stores.page_at}
pub use Rattle.mlt_page_locks.{proofs.LockLaws.stronger_exclusive, specs.LockTables.Modes, specs.LockTables.can_read, specs.LockTables.can_write, specs.LockTables.mode_held, specs.Requests.stronger, specs.Requests.with_page}
pub use Rattle.mlt_types.specs.declared.{mode.Mode.Mode, mode.Mode.TheVariants.Exclusive, refusal.Refusal.Refusal}
pub use Rattle.std.{proofs.lemmas.Bool.cases_eq, proofs.lemmas.Bool.cases_lt, proofs.lemmas.Bool.cond-true, proofs.lemmas.Bool.false≢true, proofs.lemmas.Bool.Decides.nat_tests, specs.Cmp.nat_cmp_total, specs.List.list_all}
