-- The lines that a session writes.
use Rattle.std.specs.Prelude.{ℕ, List, [], ◌∷◌, ◌++◌, codes}
use Rattle.mlt_types.specs.{declared.refusal.Refusal.Refusal, Refusals.number_of, Refusals.name_of}
use Rattle.mlt_object_kinds.specs.Texts.{with_number, reply_text}
use Rattle.mlt_script_serial.specs.{Texts.line, declared.call.DeskAnswer.DeskAnswer}
use Rattle.mlt_script_serial.specs.declared.call.DeskAnswer.TheVariants.{Begun, Replied, Committed, Aborted, Refused}
use Rattle.mlt_serve_session.specs.declared.said.Said.{Said}

-- the line of a refusal: its number and its name
abbrev pub error_text : Refusal → List ℕ
error_text refusal = line (with_number (codes "error") (number_of refusal) ++ 32 ∷ name_of refusal)

-- the line of an answer
abbrev pub answer_text : DeskAnswer → List ℕ
answer_text (Begun tx) = line (with_number (codes "begun") tx)
answer_text (Replied reply) = line (reply_text reply)
answer_text (Committed number) = line (with_number (codes "committed") number)
answer_text Aborted = line (codes "aborted")
answer_text (Refused refusal) = error_text refusal

-- the line that is said, if one is
abbrev pub said_text : Said → List ℕ
said_text (Said.Told answer) = answer_text answer
said_text (Said.Error refusal) = error_text refusal
said_text Said.Fault = line (codes "error 10 ScriptFault")
said_text Said.Bye = line (codes "bye")
said_text Said.Nothing = []
