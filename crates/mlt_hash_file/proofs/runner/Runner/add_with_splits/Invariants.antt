use Rattle.mlt_hash_file.proofs.Names.{nothing_before}
use Rattle.mlt_hash_file.proofs.runner.Runner.add_with_splits.Given as goal

abbrev pub ghost-split : goal.ghost-split
ghost-split g a = nothing_before
