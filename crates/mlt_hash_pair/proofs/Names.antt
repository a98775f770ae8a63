-- Names of other crates, of std and of specs/ that two files of these proofs or more import. Declares nothing.
pub use Rattle.mlt_hash_access.{proofs.Leaving.leaves_it, proofs.Reading.SeesMore, proofs.Unwritten.first_write_is_not_third, specs.LocalStates.LocalState, specs.LocalStates.MayStep, specs.LocalStates.local, specs.PageSteps.WritesAtMost, specs.Views.IsSameView, specs.Views.ReadsHeldBucket, specs.Views.View, specs.Views.WritesPage, specs.Views.WritesSlot, specs.Views.view_of}
pub use Rattle.mlt_hash_form.specs.{File.HasForm, File.header_of, File.look_up, Form.value_in, Held.Agrees, Held.own_or_clean, Plans.SetsFirst, Plans.WriteFields, Plans.has_room, Plans.planned_page}
pub use Rattle.mlt_hash_pair.specs.{Changes.HasChanged, Changes.IsHolding, Changes.OwesChange, Changes.OwesIf, Changes.TellsOfTwo, Changes.task_in, Changes.task_of, Descents.HasRead, Descents.IsLocked, Descents.IsNext, Descents.IsThere, Descents.found_of, Descents.page_of, Descents.pages_to_read, Pairs.GoTogether, Pairs.HoldsDescents, Pairs.IsFinding, Pairs.IsFound, Pairs.IsUnderWay, Pairs.MayFind, Pairs.PairFields, Pairs.later_of, Pairs.mode_next, Pairs.most_steps, Pairs.page_next, Plans.FitsFound, Plans.FitsSlots, Plans.IsPlan, Plans.IsPlanned, Plans.bucket_after, Reading.descent_after, Reading.descent_by, Reading.next_descent, Reading.next_mode, Reading.next_page, Steps.TellsOfStep, Steps.told_by, Writing.MayPlan, Writing.MayWrite, Writing.TellsOfOne, Writing.WritesPlan, declared.answer.ChangeAnswer.ChangeAnswer, declared.answer.PairAnswer.PairAnswer, declared.answer.Side.Side, declared.asked.PairChanges.PairChanges, declared.asked.RecordChange.RecordChange, declared.descent.Descent.Descent, declared.plan.SlotPlan.SlotPlan}
pub use Rattle.mlt_page.specs.{Slots.is_ghost_of, Slots.is_live_of, Values.BucketFields, Values.HeadFields, declared.page.Page.Page, declared.slot.Slot.Slot, declared.slot.Slot.TheVariants.Free, declared.slot.Slot.TheVariants.Ghost, declared.slot.Slot.TheVariants.Live}
pub use Rattle.mlt_page_locks.specs.LockTables.{Modes, can_write}
pub use Rattle.mlt_types.specs.declared.mode.Mode.{Mode, TheVariants.Exclusive}
pub use Rattle.std.proofs.lemmas.{Bool.cases_eq, Bool.cond-false, Bool.cond-true, Bool.cond_both, Bool.false≢true, Option.none-some}
