-- Names of other crates, of std and of specs/ that two files of these proofs or more import. Declares nothing.
pub use Rattle.mlt_object_base.specs.{BaseText.account_line, BaseText.key_line, BaseText.value_line, Effects.changes_on, Effects.inverse_of, Effects.own_change_on, Effects.size_change_of, Effects.size_inverse_of, Kept.AreCounted, Kept.AreNotZero, Kept.IsNotZero, Kept.base_of, Kept.kept_size, Kept.less_one, Kept.with_nothing, Meaning.Means, Meaning.changes_back, Meaning.changes_of, Meaning.record_in, Meaning.records_after, Meaning.size_record_in, Meaning.told_by, Records.HasSizeToUndo, Records.IsRecord, Records.counter_of_record, Records.record_after, Records.state_of_record, declared.record.RecChange.RecChange, declared.record.RecordChanges.RecordChanges}
pub use Rattle.mlt_object_kinds.{proofs.BaseLaws.element_cmp_tells_apart, proofs.BaseLaws.element_cmp_total, proofs.BaseLaws.entry_beside, proofs.BaseLaws.entry_here, proofs.BaseLaws.state_beside, proofs.BaseLaws.state_here, proofs.BaseLaws.step_to, proofs.Sizes.size_after_step, proofs.Sizes.size_below, specs.Accounts.AccountStep, specs.Bases.Base, specs.Bases.Step, specs.Bases.TellsSize, specs.Bases.counter_entry, specs.Bases.counter_value, specs.Bases.element_cmp, specs.Bases.element_entry, specs.Bases.size_at, specs.Bases.state_at, specs.Bases.with_state, specs.Cells.CellStep, specs.Cells.CellState.ElementState, specs.Counters.CounterStep, specs.Operations.cell_of, specs.Sizes.put_into, specs.Sizes.taken_from, specs.declared.element.ElementOp.ElementOp, specs.declared.operation.ObjOp.ObjOp, specs.declared.operation.ObjReply.ObjReply}
pub use Rattle.mlt_types.specs.{Cells.IsInRange, Cells.key_number, Maps.with_entry, declared.cell.Cell.Cell, declared.cell.Cell.TheVariants.Account, declared.cell.Cell.TheVariants.Counter, declared.cell.Cell.TheVariants.Element, declared.cell.Cell.TheVariants.Size}
pub use Rattle.std.{proofs.lemmas.Bool.cases_eq, proofs.lemmas.Cmp.eq_by_cmp_equiv, specs.BTreeMap.get_by, specs.BTreeMap.is_at, specs.Cmp.nat_cmp_total, specs.Map.keys_of, specs.Map.lookup, specs.Option.option_copied_mut}
