use Rattle.std.proofs.Common.{[], ◌∷◌, ◌++◌}
use Rattle.mltx.proofs.loading.ServedBaseBaseSource.next.Given as goal

abbrev pub ghost-of : goal.ghost-of
ghost-of g a = a.first.now.items ++ a.second.now ∷ []
