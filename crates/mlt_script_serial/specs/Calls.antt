-- Calls of a desk and their answers.
use Rattle.std.specs.Prelude.{Result, Ok, Err}
use Rattle.mlt_types.specs.declared.refusal.Refusal.{Refusal, TheVariants.GaveUp}
use Rattle.mlt_script_serial.specs.declared.call.{DeskAnswer.DeskAnswer, DeskCall.DeskCall}
use Rattle.mlt_script_serial.specs.declared.call.DeskAnswer.TheVariants.{Begun, Replied, Committed, Aborted, Refused}

-- the moves of a desk: of the state before, a call, its answer and the state after
abbrev pub Moves : Type 0 → Type 1
Moves D = D → DeskCall → DeskAnswer → D → Type 0

-- the answer that a result is: one of its value, or a refusal
abbrev pub answer_by : {A : Type 0} → (A → DeskAnswer) → Result A Refusal → DeskAnswer
answer_by answer (Ok value) = answer value
answer_by answer (Err refusal) = Refused refusal

-- this answer where it is one to the call, and else a refusal; an abort has one answer
abbrev pub answer_to : DeskCall → DeskAnswer → DeskAnswer
answer_to (DeskCall.Abort tx) answer = Aborted
answer_to DeskCall.Begin (Begun tx) = Begun tx
answer_to (DeskCall.Operation tx op) (Replied reply) = Replied reply
answer_to (DeskCall.Commit tx) (Committed number) = Committed number
answer_to asked (Refused refusal) = Refused refusal
answer_to asked other = Refused GaveUp
