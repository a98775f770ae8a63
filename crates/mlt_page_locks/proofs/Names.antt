-- Names of other crates, of std and of specs/ that two files of these proofs or more import. Declares nothing.
pub use Prim.Native.Nat.{zero}
pub use Rattle.arrayvec.specs.ArrayVec.{with_items}
pub use Rattle.mlt_page_locks.specs.{LockLists.HeldPages, LockLists.IsAt, LockLists.IsBetween, LockLists.IsSound, LockLists.is_free, LockLists.is_list_of, LockLists.lists_in_use, LockLists.lock_table, LockLists.table_of, LockLists.with_lock, LockTables.AreCompatible, LockTables.HasRoom, LockTables.LockTable, LockTables.Modes, LockTables.allows_write, LockTables.can_write, LockTables.goes_with, LockTables.mode_held, LockTables.no_locks, LockTables.page_count, LockTables.pages_of, Marks.IsMarked, Marks.IsUnmarked, Marks.KeepsOthers, Marks.mask_of, Marks.row_of, Requests.IsNobody, Requests.conflicts, Requests.granted, Requests.is_against, Requests.released, Requests.stronger, Requests.with_page, declared.lock_list.PageLock.PageLock}
pub use Rattle.mlt_types.specs.declared.mode.Mode.{Mode, TheVariants.Exclusive, TheVariants.Shared}
pub use Rattle.std.{proofs.lemmas.Bool.cases_Bool, proofs.lemmas.Bool.cases_eq, proofs.lemmas.Bool.cases_lt, proofs.lemmas.Bool.false≢true, proofs.lemmas.Bool.Decides.nat_tests, proofs.lemmas.List.get_or_default, proofs.lemmas.List.length-replicate, proofs.lemmas.List.take_more, proofs.lemmas.List.Quantifiers.position-Some, proofs.lemmas.Nat.Bits.bit_at-zero, specs.Cmp.nat_cmp_total, specs.Int.bit_at, specs.List.Sorted.IsBinarySearchResult, specs.Option.option_map_or}
