-- Whole sessions.
use Rattle.std.specs.Prelude.{◌≡◌, ◌≤◌, ℕ, List, All, ◌++◌, length, take, Option, None, true, false, Result, IfOk, IsErrOf, flat_map}
use Rattle.mlt_types.specs.declared.refusal.Refusal.{Refusal, TheVariants.Io, TheVariants.LineTooLong, TheVariants.OutOfMemory}
use Rattle.mlt_script_serial.specs.{declared.outcome.Outcome.Outcome, declared.call.DeskAnswer.DeskAnswer, declared.call.DeskCall.DeskCall, Calls.Moves}
use Rattle.std.specs.Io.KnownBytes.{Appends, Consumes, IsAtEnd}
use Rattle.mlt_text.specs.Texts.{AppendsFront}
use Rattle.mlt_serve_session.specs.{declared.sessions.Summary.Summary, Desks.Answers, Given.GaveAll, Outcomes.outcomes_of}
use Rattle.mlt_serve_session.specs.Talks.{Turn, turn_text, calls_in, answers_in, closing, closing_answers, open_at_end, session_turns, commits_in, ends_in, long_in}

-- what a session asked of its desk in these turns, and at its end
abbrev pub all_calls : List Turn → List DeskCall
all_calls ts = calls_in ts ++ closing (open_at_end None ts)

abbrev pub all_answers : List Turn → List DeskAnswer
all_answers ts = answers_in ts ++ closing_answers (open_at_end None ts)

-- a desk, the bytes that a reader has left and those that a writer took, where these are known, and
-- outcomes
pub record Scene (D : Type 0) : Type 0 where
  pub desk : D
  pub unread : Option (List ℕ)
  pub written : Option (List ℕ)
  pub outcomes : List Outcome

abbrev pub scene : {D : Type 0} → D → Option (List ℕ) → Option (List ℕ) → List Outcome → Scene D
scene desk unread written outcomes =
    record { desk = desk; unread = unread; written = written; outcomes = outcomes }

-- what came of these turns at the desk, which gave these answers
pub record Acted {D : Type 0} (moves : Moves D) (client : ℕ) (old new : Scene D)
    (answers : List DeskAnswer) (turns : List Turn) : Type 0 where
  -- these calls were made, and the desk gave these answers
  pub given : answers_in turns ≡ answers
  pub asked : Answers moves old.desk (all_calls turns) (all_answers turns) new.desk
  -- an outcome was added for each transaction that began
  pub noted : new.outcomes ≡ old.outcomes ++ outcomes_of client 0 turns
  -- all that is in these is what the desk answered
  pub gave : All (GaveAll moves new.desk) (outcomes_of client 0 turns)

-- a session that ended by itself: its text, its calls and its outcomes are those that are fixed by the
-- bytes that it read and by the desk's answers
pub record Spoken {D : Type 0} (moves : Moves D) (client : ℕ) (old new : Scene D) : Type 0 where
  pub taken : List ℕ
  pub answers : List DeskAnswer
  pub turns : List Turn
  pub is : session_turns taken answers ≡ turns
  -- these bytes were read, and there were no more, unless a line ended the session
  pub consumed : Consumes old.unread new.unread taken
  pub within : length taken ≤ 16777216
  pub ended : ends_in turns ≡ false → IsAtEnd new.unread
  pub acted : Acted moves client old new answers turns
  -- the text was written
  pub wrote : Appends old.written new.written (flat_map turn_text turns)

-- so many lines were answered, and so many of them committed
pub record Summed {D : Type 0} (moves : Moves D) (client : ℕ) (old new : Scene D)
    (lines commits : ℕ) : Type 0 where
  pub spoken : Spoken moves client old new
  pub lines_are : lines ≡ length spoken.turns
  pub commits_are : commits ≡ commits_in spoken.turns
  pub short : long_in spoken.turns ≡ false

-- a session that a line of more than 200 bytes ended
pub record SpokenLong {D : Type 0} (moves : Moves D) (client : ℕ) (old new : Scene D) : Type 0 where
  pub spoken : Spoken moves client old new
  pub long : long_in spoken.turns ≡ true

-- a session that was broken off: it has heard the first turns, and wrote a prefix of their text
pub record BrokenOff {D : Type 0} (moves : Moves D) (client : ℕ) (old new : Scene D) : Type 0 where
  pub taken : List ℕ
  pub answers : List DeskAnswer
  pub heard : List Turn
  pub unheard : List Turn
  pub is : session_turns taken answers ≡ heard ++ unheard
  -- these bytes were read, at most one of them past the limit
  pub consumed : Consumes old.unread new.unread taken
  pub within : length taken ≤ 16777217
  pub acted : Acted moves client old new answers heard
  -- a prefix of the text was written
  pub wrote : AppendsFront old.written new.written (flat_map turn_text heard)

-- a session that a read, a write or the byte limit broke off: it has heard all lines of the bytes that
-- it read up to the limit
pub record HeardAll {D : Type 0} (moves : Moves D) (client : ℕ) (old new : Scene D) : Type 0 where
  pub off : BrokenOff moves client old new
  pub all : session_turns (take 16777216 off.taken) off.answers ≡ off.heard
  -- where a byte past the limit was read, the whole text was written
  pub whole : length off.taken ≡ 16777217
      → Appends old.written new.written (flat_map turn_text off.heard)

-- How a session that answers so went, from the one scene to the other
pub record SessionAnswers {D : Type 0} (moves : Moves D) (client : ℕ) (old new : Scene D)
    (result : Result Summary Refusal) : Type 0 where
  -- the text, the calls and the outcomes are those of the bytes read and the answers given
  pub ok : IfOk result (λ summary. Summed moves client old new summary.lines summary.commits)
  -- the same, up to a line that is too long
  pub long : IsErrOf result LineTooLong → SpokenLong moves client old new
  -- the same of all lines of the bytes read up to the limit, and a prefix of the text
  pub io : IsErrOf result Io → HeardAll moves client old new
  -- the same of the first lines, and a prefix of the text
  pub memory : IsErrOf result OutOfMemory → BrokenOff moves client old new
