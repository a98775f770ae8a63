-- Names of other crates, of std and of specs/ that two files of these proofs or more import. Declares nothing.
pub use Rattle.mlt_hash_access.specs.{CleanPages.DropsImages, CleanPages.ImagesAreApart, CleanPages.ImagesAreLocked, CleanPages.ImagesAreThere, CleanPages.RunningImages, CleanPages.clean_pages, CleanPages.image_at, LocalStates.IsCleanFor, LocalStates.LocalState, LocalStates.MayStep, LocalStates.local, LocalStates.page_before, PageSteps.Leaves, PageSteps.LocksAtMost, PageSteps.LocksPage, PageSteps.MakesLockedPage, PageSteps.TouchesOnePage, PageSteps.WritesAtMost, PageSteps.WritesHeldPage, Running.AllMayStep, Running.AllRunning, Running.clean_of, Running.images_by, Running.is_open, Running.local_of, Views.HasWritten, Views.IsUnwritten, Views.MakesPage, Views.ReadsHeldPage, Views.ReadsPage, Views.View, Views.WritesPage, Views.WritesSlot, Views.own_at, Views.page_written, Views.rebased, Views.seen_at, Views.seen_with, Views.view_of}
pub use Rattle.mlt_hash_form.{proofs.HeldPages.seen_as, specs.File.FilePages, specs.Held.Agrees, specs.Held.over, specs.Held.own_or_clean}
pub use Rattle.mlt_page.specs.{Pages.page_with_slot, Stores.PageStore, Stores.Pages, Stores.page_at, Values.BucketFields, declared.page.Page.Page, declared.slot.Slot.Slot}
pub use Rattle.mlt_page_locks.{proofs.LockLaws.can_write-granted, proofs.LockLaws.pages_of-granted, proofs.LockLaws.writer_reads, proofs.Maps.get_inserted, proofs.Maps.get_removed, specs.LockTables.AreCompatible, specs.LockTables.KeepsOthers, specs.LockTables.LockTable, specs.LockTables.Modes, specs.LockTables.allows_write, specs.LockTables.can_read, specs.LockTables.can_write, specs.LockTables.page_count, specs.LockTables.pages_of, specs.Requests.IsNobody, specs.Requests.conflicts, specs.Requests.granted, specs.Requests.released, specs.Requests.stronger, specs.Requests.with_page}
pub use Rattle.mlt_page_subtx.{proofs.ImageLaws.fresh_has_no_image, proofs.ImageLaws.image_of-with_image, proofs.ImageLaws.not_there, proofs.ImageLaws.not_true, proofs.ImageLaws.page_at-put_back, specs.Images.Images, specs.Images.Running, specs.Images.image_of, specs.Images.or_image, specs.Images.put_back, specs.Images.with_image}
pub use Rattle.mlt_types.specs.declared.mode.Mode.{Mode, TheVariants.Exclusive}
pub use Rattle.std.{proofs.lemmas.Bool.cases_eq, proofs.lemmas.Bool.false≢true, proofs.lemmas.Bool.Decides.nat_tests, specs.Cmp.nat_cmp_total, specs.Cmp.unsigned_tied, specs.FinMap.Entries.find}
