use Rattle.std.proofs.Common.{refl, sym, ◌∙◌}
use Rattle.mlt_event_text.proofs.Going.{bad_line}
use Rattle.mlt_event_text.proofs.parser.take_line.Goals as goal

pub returns-in-Bad : goal.returns-in-Bad
returns-in-Bad c = λ raw is. (refl, bad_line raw c.in-Bad.cause (sym is ∙ c.in-Bad.is))
