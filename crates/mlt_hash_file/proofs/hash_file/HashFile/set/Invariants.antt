use Rattle.mlt_hash_file.proofs.Names.{nothing_before}
use Rattle.mlt_hash_file.proofs.hash_file.HashFile.set.Given as goal

abbrev pub ghost-find : goal.ghost-find
ghost-find g a = nothing_before

abbrev pub ghost-set : goal.ghost-set
ghost-set g a = nothing_before
