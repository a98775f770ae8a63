use Rattle.std.proofs.Common.{◌∙◌, inl, sym}
use Rattle.mlt_trace_check.proofs.Settling.{says_ended}
use Rattle.mlt_trace_check.proofs.first_line.first_line.Goals as goal

pub returns-in-Says-clause-some : goal.returns-in-Says-clause-some
returns-in-Says-clause-some c =
    let f = c.read_first-said.ensures.first in
    (f.0, f.1, sym f.2, λ going. inl (says_ended f.0 _ (sym f.2 ∙ c.in-Says.is)))
