use Rattle.std.proofs.Common.{sym}
use Rattle.mlt_text_words.proofs.Fronts.{letters_alone, letters_before, parted}
use Rattle.mlt_text_words.proofs.front.split_letters.Goals as goal

pub returns-in-Some-clause-letters : goal.returns-in-Some-clause-letters
returns-in-Some-clause-letters c = letters_before c.args.text.now c.in-Some.end (sym c.in-Some.ensures)

pub returns-in-Some-clause-whole : goal.returns-in-Some-clause-whole
returns-in-Some-clause-whole c = parted c.args.text.now c.in-Some.end

pub returns-in-None-clause-letters : goal.returns-in-None-clause-letters
returns-in-None-clause-letters c = letters_alone c.args.text.now (sym c.in-None.ensures)
