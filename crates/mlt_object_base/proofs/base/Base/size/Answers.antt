use Rattle.std.proofs.Common.{◌∙◌}
use Rattle.mlt_object_base.proofs.Counting.{size_in_base}
use Rattle.mlt_object_base.proofs.base.Base.size.Goals as goal

pub returns : goal.returns
returns c = c.size.ensures ∙ size_in_base c.self.inside.accounts c.self.inside.counters c.self.inside.elements c.args.self.now c.args.set c.self.view_is
