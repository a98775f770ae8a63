use Rattle.std.proofs.Common.{◌≡◌, ◌++◌, flat_map, map, string_bytes}
use Rattle.mlt_event_text.specs.TellTexts.{told_line}
use Rattle.mlt_manager_steps.specs.Steps.{comment_line}
use Rattle.mlt_manager_steps.proofs.replayed.push_explained.Given as goal

abbrev pub invariant-loop-line : goal.invariant-loop-line
invariant-loop-line l = string_bytes l.text ≡ string_bytes l.fn.text ++ (told_line l.told ++ flat_map comment_line (map (λ x. x.now) l.yielded))
