use Rattle.std.proofs.Common.{◌≡◌, take}
use Rattle.mlt_text_words.proofs.front.after.Given as goal

abbrev pub invariant-loop-at : goal.invariant-loop-at
invariant-loop-at l = take l.at l.text ≡ take l.at l.bytes
