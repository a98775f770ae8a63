use Rattle.std.proofs.Common.{refl, sym, ap}
use Rattle.mlt_text_words.proofs.Names.{first_word}
use Rattle.mlt_text_words.proofs.Splitting.{no_word, first_of_more, first_of_one}
use Rattle.mlt_text_words.proofs.words.next_raw_word.Goals as goal

pub returns-in_err-start : goal.returns-in_err-start
returns-in_err-start c = rw c.from_residual.ensures (ap first_word (sym (no_word c.args.text.now (sym c.in_err-start.ensures))))

pub returns-in-Some : goal.returns-in-Some
returns-in-Some c = first_of_more c.args.text.now _ c.in_ok-start.start c.in-Some.end refl (sym c.in_ok-start.ensures) (sym c.in-Some.ensures)

pub returns-in-None : goal.returns-in-None
returns-in-None c = first_of_one c.args.text.now _ c.in_ok-start.start refl (sym c.in_ok-start.ensures) (sym c.in-None.ensures)
