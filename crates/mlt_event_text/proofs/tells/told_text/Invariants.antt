use Rattle.std.proofs.Common.{◌≡◌, take, string_bytes}
use Rattle.mlt_event_text.specs.TellTexts.{told_text}
use Rattle.mlt_event_text.proofs.tells.told_text.Given as goal

abbrev pub invariant-loop-told : goal.invariant-loop-told
invariant-loop-told l = string_bytes l.text ≡ told_text (take l.told-index l.tells)
