use Rattle.std.proofs.Common.{sym, ◌∙◌}
use Rattle.mlt_text_words.proofs.Splitting.{word_there}
use Rattle.mlt_text_words.proofs.words.has_word.Goals as goal

pub returns : goal.returns
returns c = c.is_some.ensures ∙ word_there c.args.text.now _ (sym c.find_word.ensures)
