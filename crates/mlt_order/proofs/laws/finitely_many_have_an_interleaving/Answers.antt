use Rattle.mlt_order.proofs.Mixing.{finitely_many_mix}
use Rattle.mlt_order.proofs.laws.finitely_many_have_an_interleaving.Goals as goal

pub returns : goal.returns
returns g c = finitely_many_mix
