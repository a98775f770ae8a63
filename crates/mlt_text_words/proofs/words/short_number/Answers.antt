use Rattle.std.proofs.Common.{◌^◌, ◌<◌, refl, sym, ◌∙◌, rules}
use Rattle.mlt_text_words.proofs.Digits.{number_first}
use Rattle.mlt_text_words.proofs.words.short_number.Goals as goal

pub returns-then-is_over : goal.returns-then-is_over
returns-then-is_over c =
    let d = c.digits-value in
    let fits : d.result.0 < 2 ^ 64 = search rules in
    number_first c.args.text.now _ _ c.in_ok-start.start d.result.1 d.result.0 refl (sym c.in_ok-start.ensures) refl
    c.if-end-gt0.true c.if-end-le20.true d.ensures.length d.ensures.digits d.ensures.value fits (sym c.is_over.ensures ∙ c.if-is_over.true)
