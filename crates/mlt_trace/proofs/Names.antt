-- Names of other crates, of std and of specs/ that two files of these proofs or more import. Declares nothing.
pub use Rattle.mlt_order.{proofs.RunLemmas.contains-nothing, specs.Histories.Entry}
pub use Rattle.mlt_trace.specs.{Entries.entries_of, Items.item_line, Items.trace_text, Numbers.CountsFrom, Numbers.begun_txs, Ranges.FitsItem, declared.item.TraceItem.TraceItem, declared.item.TraceItem.TheVariants.Abort, declared.item.TraceItem.TheVariants.Back, declared.item.TraceItem.TheVariants.Begin, declared.item.TraceItem.TheVariants.Commit, declared.item.TraceItem.TheVariants.Op}
pub use Rattle.std.proofs.lemmas.Bool.{cases_eq}
