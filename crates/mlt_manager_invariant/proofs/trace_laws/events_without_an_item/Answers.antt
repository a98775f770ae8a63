use Rattle.mlt_manager_invariant.proofs.TraceStays.{abort_traced, called_traced, cancelled_traced, clean_traced, inverse_traced, not_done_traced}
use Rattle.mlt_manager_invariant.proofs.trace_laws.events_without_an_item.Goals as goal

pub returns : goal.returns
returns c = record {
  clean = clean_traced;
  called = called_traced;
  cancelled = λ s i o before after shared images traced was. cancelled_traced s i before after shared images traced was o;
  not_done = λ s i context o before after shared told images traced was. not_done_traced s i before after shared images traced was context o told;
  abort_begins = abort_traced;
  inverse = λ s i context inverting before after shared told images traced was. inverse_traced s i before after shared images traced was context inverting told;
}
