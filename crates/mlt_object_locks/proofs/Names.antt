-- Names of other crates, of std and of specs/ that two files of these proofs or more import. Declares nothing.
pub use Prim.Native.Nat.{zero}
pub use Rattle.indexmap.specs.IndexMap.{IndexMap, IsUnique, Updates}
pub use Rattle.mlt_object_kinds.specs.{Operations.cell_of, declared.operation.ObjOp.ObjOp, declared.operation.ObjReply.ObjReply}
pub use Rattle.mlt_object_locks.specs.{Cells.ChangesAt, Cells.GivesUp, Cells.GrantsAt, Cells.IsGivenUp, Cells.IsHereAt, Cells.IsSound, Cells.JoinsAt, Cells.ReleasesAt, Cells.StandsAtOne, Cells.list_at, Classes.Adds, Classes.AreInTheWay, Classes.InSet, Classes.Meets, Classes.bit_of, Classes.bit_of_item, Entries.CellsWithRoom, Entries.HasEachOnce, Entries.is_entry_of, Entries.value_of, Holders.AreOnce, Holders.Grants, Holders.HasBit, Holders.IsHere, Holders.IsInTheWay, Holders.IsLowestInTheWay, Holders.Joins, Holders.StandsAgainst, Holders.holder_of, Holders.is_not_idle_of, Holders.is_not_of, Holders.is_of, Locks.Held, Locks.HoldsClash, Locks.IsLowestOf, Locks.Locks, Locks.SameReservations, Locks.is_of_other, Locks.lower_of, Locks.reservation_of, Noted.KeepsNoted, Noted.KeysWithRoom, Noted.NotesEach, Noted.SameNoted, Noted.held_count, Noted.noted_of, Noted.nothing_noted, Places.looked_at, Places.places_if_any, Places.places_of, Places.reserved_places, declared.classes.TheConstants.CLASSES, declared.holders.Holder.Holder}
pub use Rattle.mlt_types.specs.{Cells.IsInRange, declared.cell.Cell.Cell}
pub use Rattle.std.{proofs.lemmas.Bool.cases_eq, proofs.lemmas.Bool.Decides.nat_tests, proofs.lemmas.List.get_or_default, proofs.lemmas.List.take_more, proofs.lemmas.List.Elements.Contains-append_left, proofs.lemmas.List.Elements.Contains-get_or, proofs.lemmas.List.Elements.Contains-push, proofs.lemmas.List.Elements.Contains-push_cases, proofs.lemmas.List.Kept.AllPairs-filter, proofs.lemmas.List.Quantifiers.position-Some, specs.List.list_all, specs.List.list_any}
