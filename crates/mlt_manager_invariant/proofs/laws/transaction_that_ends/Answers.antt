use Rattle.mlt_manager_invariant.proofs.Ends.{close_sound, commit_sound}
use Rattle.mlt_manager_invariant.proofs.laws.transaction_that_ends.Goals as goal

pub returns : goal.returns
returns c = record { commit = commit_sound; close = close_sound }
