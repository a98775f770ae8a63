-- The complete lines of one read.
use Rattle.std.specs.Prelude.{◌≡◌, ◌≤◌, ℕ, List, [], ◌++◌, length, take, drop, map, Bool, true, false, flat_map}
use Rattle.mlt_event_text.specs.{declared.session_line.SessionLine.SessionLine, Inputs.lines_of, Inputs.Splits, Inputs.Begins}
use Rattle.mlt_serve_session.specs.{Talks.Turn, Talks.turn_text, Turns.TalkState, Turns.Goes}
use Rattle.mlt_script_serial.specs.Calls.{Moves}

-- a text, and how far into it
pub record Front : Type 0 where
  pub text : List ℕ
  pub at : ℕ

abbrev pub front : List ℕ → ℕ → Front
front text at = record { text = text; at = at }

-- up to here, these are the lines; or the session is over
abbrev pub Covers : Bool → List ℕ → ℕ → List SessionLine → Type 0
Covers false bytes at lines = Splits (take at bytes) × (lines_of (take at bytes) ≡ lines)
Covers true bytes at lines = Begins bytes lines

-- behind that there is no complete line; or the session is over
abbrev pub IsRest : Bool → List ℕ → Type 0
IsRest false rest = (lines_of rest ≡ []) × (length rest ≤ 200)
IsRest true rest = Unit {0}

abbrev pub lines_in : List Turn → List SessionLine
lines_in ts = map (λ t. t.line) ts

-- so far into the text, by these turns
pub record Reaches {D : Type 0} (moves : Moves D) (client : ℕ) (p : TalkState D) (up_to : Front)
    (before after : List ℕ) (q : TalkState D) : Type 0 where
  pub turns : List Turn
  pub goes : Goes moves client p turns q
  pub says : after ≡ before ++ flat_map turn_text turns
  pub within : up_to.at ≤ length up_to.text
  pub covers : Covers q.progress.over up_to.text up_to.at (lines_in turns)

-- the complete lines of the text were answered, and these took so many bytes
abbrev pub Answered : {D : Type 0} → Moves D → ℕ → TalkState D → Front → List ℕ → List ℕ → TalkState D
    → Type 0
Answered moves client p up_to before after q = Reaches moves client p up_to before after q
    × IsRest q.progress.over (drop up_to.at up_to.text)

-- want of memory came before the last line was answered
pub record BrokeOff {D : Type 0} (moves : Moves D) (client : ℕ) (p : TalkState D) (text : List ℕ)
    (q : TalkState D) : Type 0 where
  pub turns : List Turn
  pub goes : Goes moves client p turns q
  pub begins : Begins text (lines_in turns)
