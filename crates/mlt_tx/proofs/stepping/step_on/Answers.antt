use Rattle.std.proofs.Common.{sym, ◌∙◌}
use Rattle.mlt_tx.proofs.stepping.step_on.Goals as goal

pub step-requires-clause-untold : goal.step-requires-clause-untold
step-requires-clause-untold g c = sym c.reply.ensures ∙ c.in_default.is

pub step-requires-clause-ready : goal.step-requires-clause-ready
step-requires-clause-ready g c = c.requires.ready.goes (sym c.reply.ensures ∙ c.in_default.is)
