-- What a desk with a list of answers gives.
use Rattle.std.specs.Prelude.{◌≡◌, ◌+◌, length, slice_index_or, nat_lt, if◌then◌else◌}
use Rattle.mlt_types.specs.declared.refusal.Refusal.TheVariants.{GaveUp}
use Rattle.mlt_script_serial.specs.{declared.call.DeskAnswer.DeskAnswer, declared.call.DeskAnswer.TheVariants.Aborted, declared.call.DeskAnswer.TheVariants.Refused, declared.call.DeskCall.DeskCall, Calls.answer_to, declared.fake_desk.FakeDesk.FakeDesk}

-- the next answer; once all are given, a refusal
abbrev pub next_answer : FakeDesk → DeskAnswer
next_answer d = slice_index_or d.answers.items d.at (Refused GaveUp)

abbrev pub after_answer : FakeDesk → FakeDesk
after_answer d = record {
  answers = d.answers;
  at = if nat_lt d.at (length d.answers.items) then d.at + 1 else d.at;
}

-- a call is given the next answer, but for an abort
abbrev pub IsGiven : FakeDesk → DeskCall → DeskAnswer → FakeDesk → Type 0
IsGiven d (DeskCall.Abort tx) answer e = (answer ≡ Aborted) × (e ≡ d)
IsGiven d asked answer e = (answer ≡ answer_to asked (next_answer d)) × (e ≡ after_answer d)
