use Rattle.mlt_manager_invariant.proofs.Items.{begin_traced}
use Rattle.mlt_manager_invariant.proofs.trace_laws.transaction_that_begins_is_traced.Goals as goal

pub returns : goal.returns
returns c = begin_traced
