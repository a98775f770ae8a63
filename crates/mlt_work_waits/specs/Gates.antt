-- What a gate tells apart.
use Rattle.std.specs.Prelude.{Bool, true, false}
use Rattle.mlt_event.specs.declared.{answer.Answer.Answer, told.Told.Told}

-- whether one that was told this is to wait
abbrev pub is_to_wait : Told → Bool
is_to_wait (Told.Answered (Answer.Waiting page by)) = true
is_to_wait (Told.Answered (Answer.Blocked by)) = true
is_to_wait other = false
