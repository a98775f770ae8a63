use Rattle.mlt_hash_file.proofs.Names.{nothing_before}
use Rattle.mlt_hash_file.proofs.runner.Runner.add.Given as goal

abbrev pub ghost-find : goal.ghost-find
ghost-find g a = nothing_before

abbrev pub ghost-put : goal.ghost-put
ghost-put g a = nothing_before
