use Rattle.mlt_manager_invariant.proofs.TraceStays.{opening_traced}
use Rattle.mlt_manager_invariant.proofs.trace_laws.opening_state_is_traced.Goals as goal

pub returns : goal.returns
returns c = opening_traced
