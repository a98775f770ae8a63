use Rattle.mlt_manager_invariant.proofs.Items.{done_traced, last_undone_traced, undone_traced}
use Rattle.mlt_manager_invariant.proofs.trace_laws.operations_are_traced.Goals as goal

pub returns : goal.returns
returns c = record { done = done_traced; undone = undone_traced; last_undone = last_undone_traced }
