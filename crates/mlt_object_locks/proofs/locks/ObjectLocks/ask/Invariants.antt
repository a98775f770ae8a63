use Rattle.std.proofs.Common.{[], ◌∷◌, ◌++◌}
use Rattle.mlt_object_locks.proofs.locks.ObjectLocks.ask.Given as goal

abbrev pub ghost-of : goal.ghost-of
ghost-of a = a.first.now.items ++ a.second.now ∷ []
