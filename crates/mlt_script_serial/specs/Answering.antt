-- What a base answers an operation.
use Rattle.std.specs.Prelude.{◌≡◌}
use Rattle.mlt_types.specs.declared.refusal.Refusal.TheVariants.{OutOfMemory}
use Rattle.mlt_object_kinds.specs.Bases.{Base, Step}
use Rattle.mlt_script_serial.specs.declared.call.{DeskAnswer.DeskAnswer, DeskAnswer.TheVariants.Refused, DeskAnswer.TheVariants.Replied, DeskCall.DeskCall, DeskCall.TheVariants.Operation}

-- the reply of its step; or there is no memory for it, and nothing changes
abbrev pub AnswersOf : Base → DeskCall → DeskAnswer → Base → Type 0
AnswersOf b (Operation tx op) (Replied reply) c = Step b (op, reply) c
AnswersOf b (Operation tx op) (Refused refusal) c = (refusal ≡ OutOfMemory) × (c ≡ b)
AnswersOf b call answer c = ⊥
