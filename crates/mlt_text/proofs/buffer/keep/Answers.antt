use Rattle.std.proofs.Common.{◌-◌, take, ap, ◌∙◌}
use Rattle.mlt_text.proofs.Filling.{kept}
use Rattle.mlt_text.proofs.buffer.keep.Goals as goal

pub returns-clause-bytes : goal.returns-clause-bytes
returns-clause-bytes c =
    ap (take (c.args.end - c.args.at)) c.copy_within.ensures.after ∙ kept c.args.buffer.now c.args.at c.args.end c.requires.0 c.requires.1
