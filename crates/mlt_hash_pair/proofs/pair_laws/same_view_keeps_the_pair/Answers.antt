use Rattle.std.proofs.Common.{subst}
use Rattle.mlt_hash_pair.proofs.Names.{HasChanged, IsHolding, IsFinding}
use Rattle.mlt_hash_pair.proofs.Laws.{one_view}
use Rattle.mlt_hash_pair.proofs.pair_laws.same_view_keeps_the_pair.Goals as goal

pub returns : goal.returns
returns c = λ bits root active tx pair before after same. (subst (IsFinding bits root pair) (one_view before after same), subst (IsHolding bits root pair) (one_view before after same), subst (HasChanged bits root active tx pair) (one_view before after same))
