use Rattle.mlt_text_words.proofs.Fronts.{spelled_before}
use Rattle.mlt_text_words.proofs.front.front_keyword.Goals as goal

pub returns-clause-some : goal.returns-clause-some
returns-clause-some c =
    let parts = c.split_letters in
    spelled_before c.args.text.now parts.result.0.now parts.result.1.now c.in_ok-keyword.keyword parts.ensures.whole c.in_ok-keyword.ensures
