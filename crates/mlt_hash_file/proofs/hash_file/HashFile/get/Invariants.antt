use Rattle.mlt_hash_file.proofs.Names.{nothing_before}
use Rattle.mlt_hash_file.proofs.hash_file.HashFile.get.Given as goal

abbrev pub ghost-find : goal.ghost-find
ghost-find g a = nothing_before
