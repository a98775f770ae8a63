use Rattle.mlt_manager_invariant.proofs.Items.{close_traced, commit_traced}
use Rattle.mlt_manager_invariant.proofs.trace_laws.ends_of_transactions_are_traced.Goals as goal

pub returns : goal.returns
returns c = record { commit = commit_traced; close = close_traced }
