use Rattle.std.proofs.Common.{Some, None}
use Rattle.mlt_text_words.proofs.Names.{raw_words}
use Rattle.mlt_text_words.{specs.Words.words_of, proofs.Splitting.first_as_what_it_is}
use Rattle.mlt_text_words.proofs.words.next_word.Goals as goal

pub returns-in_err-word : goal.returns-in_err-word
returns-in_err-word c = rw c.from_residual.ensures (first_as_what_it_is c.args.text.now None c.in_err-word.ensures)

pub returns : goal.returns
unfolding words_of
returns c = rw c.classify.ensures (first_as_what_it_is c.args.text.now (Some (c.in_ok-word.word.now, raw_words c.in_ok-word.rest.now)) c.in_ok-word.ensures)
