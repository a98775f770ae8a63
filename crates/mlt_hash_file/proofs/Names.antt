-- Names of other crates, of std and of specs/ that two files of these proofs or more import. Declares nothing.
pub use Rattle.mlt_hash.specs.{Changes.page_of, Splitting.TellsAt, Steps.IsSameWalk, Steps.steps_to_bucket, StepsLeft.IsPutting, StepsLeft.steps_to_put, Walks.Before, Walks.IsAtStart, Walks.Stands, Walks.WalkContext, Walks.WalkFields, Walks.context_after, Walks.context_in, Walks.nothing_before, Walks.view_for, declared.answer.WalkAnswer.WalkAnswer, declared.pass.Change.Change, declared.pass.Pass.Pass, declared.pass.Phase.Phase}
pub use Rattle.mlt_hash_access.{proofs.Rebased.written_stays, proofs.Since.nothing_written, specs.LocalStates.LocalState, specs.LocalStates.MayStep, specs.PageSteps.Leaves, specs.Views.HasWritten, specs.Views.view_of, specs.Views.view_over}
pub use Rattle.mlt_hash_file.specs.{Alone.HasNotWaited, Alone.IsAlone, Alone.IsIdle, Alone.KeepsBefore, Alone.context_alone, Alone.pages_before, Alone.pages_since, AloneWalks.ChangesValue, AloneWalks.HasArrived, AloneWalks.HasChanged, AloneWalks.HasMade, AloneWalks.IsFileBefore, AloneWalks.IsHashFile, AloneWalks.IsReadySince, AloneWalks.NeedsRoom, AloneWalks.RefusesFor, AloneWalks.TellsOfPass, AloneWalks.TellsOfSplits, AloneWalks.added_value, HashFiles.records_after, SplitPages.left_from, SplitPages.pages_in_the_end, SplitPages.pages_left_at, SplitPages.pages_to_make}
pub use Rattle.mlt_hash_form.specs.{File.bucket_of, File.depth_of, File.header_of, File.look_up, Held.Agrees, Held.over, Records.live_records, declared.root.Root.Root}
pub use Rattle.mlt_hash_split.specs.{Rests.SplitTarget, Splits.SplitFields, Splits.steps_left_at, Steps.IsDone}
pub use Rattle.mlt_page.{proofs.Numbered.same_pages, specs.Slots.is_kept, specs.Stores.PageStore, specs.Stores.Pages, specs.Stores.page_at, specs.Values.BucketFields, specs.declared.page.Page.Page}
pub use Rattle.mlt_page_locks.{proofs.LockLaws.writer_reads, proofs.Maps.get_inserted, proofs.Maps.get_removed, proofs.Maps.same_entries, specs.LockTables.LockTable, specs.LockTables.Modes}
pub use Rattle.mlt_page_subtx.{proofs.ImageLaws.page_at-put_back, specs.Images.put_back}
pub use Rattle.mlt_types.specs.declared.{mode.Mode.TheVariants.Exclusive, refusal.Refusal.Refusal}
pub use Rattle.std.{proofs.Math.Path.transport, proofs.lemmas.Bool.Decides.nat_tests, specs.List.list_all}
