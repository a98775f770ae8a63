-- Names of other crates, of std and of specs/ that two files of these proofs or more import. Declares nothing.
pub use Rattle.mlt_hash_access.{proofs.Leaving.leaves_by_locking, proofs.Leaving.leaves_by_rewriting, proofs.Leaving.leaves_by_writing, proofs.Leaving.leaves_it, proofs.Leaving.same_local, proofs.Rebased.rebased_makes_page, proofs.Rebased.rebased_reads_page, proofs.Rebased.rebased_writes_page, proofs.Since.reads_over_writes, proofs.Since.seen_over_held, proofs.Views.agrees_through_write, proofs.Views.made_is_not_clean, proofs.Views.makes_over, proofs.Views.may_write, proofs.Views.mode_of_others, proofs.Views.reads_held_after, proofs.Views.reads_over, proofs.Views.reads_seen, proofs.Views.write_writes, proofs.Views.writes_over_clean, specs.LocalStates.LocalState, specs.LocalStates.MayStep, specs.LocalStates.local, specs.PageSteps.LocksPage, specs.PageSteps.WritesHeldPage, specs.Views.MakesPage, specs.Views.ReadsPage, specs.Views.View, specs.Views.WritesPage, specs.Views.view_of, specs.Views.view_over}
pub use Rattle.mlt_hash_form.{proofs.Bits.first_bits-first_bits, proofs.HeldPages.keeps_more, proofs.HeldPages.seen_as, proofs.SplitSteps.page_as_it_was, proofs.SplitSteps.pages_when_doubled, proofs.SplitSteps.rewrites_a_page, proofs.SplitSteps.set_is_longer, specs.File.FilePages, specs.File.HasForm, specs.File.Writes, specs.File.bucket_of, specs.File.buckets_of, specs.File.depth_of, specs.File.dirs_of, specs.File.entry, specs.File.header_of, specs.File.lead_of, specs.Form.half_of, specs.Held.Agrees, specs.Held.KeepsFile, specs.Held.over, specs.Held.own_or_clean, specs.Splits.IsDoubled, specs.Splits.IsMidway, specs.Splits.bucket_split, specs.Splits.run_length, specs.Splits.run_start, specs.Splits.target_of}
pub use Rattle.mlt_hash_split.specs.{FirstPhases.IsFirstPhase, Rests.HoldsAmong, Rests.IsAtRest, Rests.IsIn, Rests.SplitTarget, Rests.held_page, Rests.most_held, Rests.seed_of, Splits.Begins, Splits.HaveNewPlaces, Splits.HoldsAmongAt, Splits.IsAtOldBucket, Splits.IsInPlace, Splits.IsUnderWay, Splits.SplitFields, Splits.StandsAt, Splits.steps_left, Splits.steps_left_at, Steps.IsDone, Steps.IsLeft, Steps.IsMaking, Steps.IsNextPage, Tells.GoesOn, Tells.Rests, contracts.split.Split.the_view, declared.phase.SplitPhase.SplitPhase, declared.split.SplitAnswer.SplitAnswer}
pub use Rattle.mlt_page.specs.{Bits.bit_at, Bits.first_bits, Slots.half, Slots.is_kept, Values.BucketFields, Values.HeadFields, declared.page.Page.Page, declared.slot.Slot.TheVariants.Free, Stores.page_at}
pub use Rattle.mlt_page_locks.{proofs.LockLaws.stronger_exclusive, specs.LockTables.Modes, specs.LockTables.can_write, specs.LockTables.page_count, specs.Requests.with_page}
pub use Rattle.mlt_types.specs.declared.mode.Mode.TheVariants.{Exclusive}
pub use Rattle.std.proofs.{Math.Nat.pow-le-pow_right, lemmas.Bool.both_ways, lemmas.Bool.cases_eq, lemmas.Bool.cases_lt, lemmas.Bool.cond-false, lemmas.Bool.cond-true, lemmas.Bool.Decides.nat_tests}
