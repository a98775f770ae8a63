use Rattle.std.proofs.Common.{subst}
use Rattle.mlt_hash.proofs.Names.{View, IsStanding}
use Rattle.mlt_hash.proofs.Laws.{same_view}
use Rattle.mlt_hash.proofs.walk_laws.same_view_keeps_the_walk.Goals as goal

pub returns : goal.returns
returns c = λ context walk before after stands modes seen own. subst (λ (view : View). IsStanding context walk view) (same_view before after modes seen own) stands
