use Rattle.std.proofs.Common.{filter}
use Rattle.mlt_object_locks.proofs.Names.{is_of_other}
use Rattle.mlt_object_locks.proofs.locks.ObjectLocks.release_all.Given as goal

abbrev pub ghost-of : goal.ghost-of
ghost-of a = filter (is_of_other a.second.now) a.first.now.items
