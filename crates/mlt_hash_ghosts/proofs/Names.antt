-- Names of other crates, of std and of specs/ that two files of these proofs or more import. Declares nothing.
pub use Rattle.mlt_hash_form.specs.{File.FilePages, File.HasForm, File.HasRecord, File.buckets_of, File.lead_of, Form.SetsOneSlot, Form.slot_at, Form.value_in}
pub use Rattle.mlt_hash_ghosts.specs.{Ghosts.IsGhostAt, Ghosts.IsInStep, Ghosts.PagesMatchOperations, Ledgers.IsOpenIn, Ledgers.Ledger, Operations.Added, Operations.Presence, Operations.Removed, Operations.Standing, Operations.TakeTurns, Operations.last_of}
pub use Rattle.mlt_page.specs.{Slots.is_ghost_of, Slots.is_kept, Slots.is_live_of, Values.BucketFields, declared.page.Page.Page, declared.slot.Slot.Slot, declared.slot.Slot.TheVariants.Free, declared.slot.Slot.TheVariants.Ghost, declared.slot.Slot.TheVariants.Live}
pub use Rattle.std.proofs.lemmas.{Bool.both_ways, Bool.cases_eq, Option.none-some}
