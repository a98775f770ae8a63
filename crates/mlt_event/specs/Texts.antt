-- The texts of what events are told.
use Rattle.std.specs.Prelude.{ℕ, List, ◌∷◌, ◌++◌, codes, true, false}
use Rattle.mlt_types.specs.{declared.refusal.Refusal.Refusal, Refusals.number_of, Refusals.name_of}
use Rattle.mlt_object_kinds.specs.Texts.{with_number, reply_text}
use Rattle.mlt_event.specs.declared.{answer.Answer.Answer, told.Told.Told}

-- a refusal: its number and its name
abbrev pub refusal_text : Refusal → List ℕ
refusal_text refusal = with_number (codes "refused") (number_of refusal) ++ 32 ∷ name_of refusal

-- what a step answers; the page that is waited for is not printed
abbrev pub answer_text : Answer → List ℕ
answer_text Answer.Going = codes "going"
answer_text (Answer.Waiting page tx) = with_number (codes "waiting by") tx
answer_text (Answer.Blocked tx) = with_number (codes "blocked by") tx
answer_text (Answer.Done reply) = codes "done" ++ 32 ∷ reply_text reply
answer_text Answer.Undone = codes "undone"
answer_text Answer.Aborted = codes "aborted"
answer_text (Answer.Refused refusal) = refusal_text refusal

-- what an event is told; an abort that closed its transaction at once is told apart from one that goes on
abbrev pub tell_text : Told → List ℕ
tell_text (Told.Begun tx) = with_number (codes "begun") tx
tell_text Told.Called = codes "called"
tell_text (Told.Answered answer) = answer_text answer
tell_text Told.Cancelled = codes "cancelled"
tell_text (Told.Committed number) = with_number (codes "committed") number
tell_text (Told.Aborting true) = codes "aborted"
tell_text (Told.Aborting false) = codes "aborting"
tell_text (Told.Refused refusal) = refusal_text refusal
