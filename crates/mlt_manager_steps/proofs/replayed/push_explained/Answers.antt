use Rattle.std.proofs.Common.{◌∙◌, ◌++◌, List, ℕ, ap, flat_map, string_bytes}
use Rattle.std.proofs.lemmas.Iterator.Consumers.{YieldsList-end}
use Rattle.std.proofs.lemmas.Iterator.Splits.{YieldsList-from_lines}
use Rattle.mlt_event_text.specs.TellTexts.{told_line}
use Rattle.mlt_manager_steps.specs.Steps.{comment_line}
use Rattle.mlt_manager_steps.proofs.replayed.push_explained.Goals as goal

pub returns : goal.returns
returns c =
    let all = YieldsList-end (YieldsList-from_lines c.args.reasons.now cc) c.loop-line.yielded _ c.loop-line.yielded_by _ _ c.in-None.is c.next.ensures.steps in
    record { text = c.loop-line.invariant ∙ ap (λ (ls : List (List ℕ)). string_bytes c.args.text.now ++ (told_line c.args.told.now ++ flat_map comment_line ls)) all.0 }
