use Rattle.std.proofs.Common.{sym}
use Rattle.mlt_text_words.proofs.Cutting.{found, not_found}
use Rattle.mlt_text_words.proofs.line.first_line.Goals as goal

pub returns-in-Some-clause-first : goal.returns-in-Some-clause-first
returns-in-Some-clause-first c = found c.args.text.now c.in-Some.end (sym c.in-Some.ensures)

pub returns-in-None-clause-first : goal.returns-in-None-clause-first
returns-in-None-clause-first c = not_found c.args.text.now c.requires (sym c.in-None.ensures)
