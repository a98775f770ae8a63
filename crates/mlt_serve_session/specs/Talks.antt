-- What a session says, as a function of its whole input and of the desk's answers in order.
use Rattle.std.specs.Prelude.{ℕ, ◌+◌, List, [], ◌∷◌, Option, Some, None, Bool, true, false, ◌||◌, if◌then◌else◌, flat_map}
use Rattle.mlt_types.specs.declared.refusal.Refusal.{Refusal}
use Rattle.mlt_event_text.specs.{declared.command.Command.Command, declared.session_line.SessionLine.SessionLine, declared.session_line.SessionLine.TheVariants.Says, declared.session_line.SessionLine.TheVariants.TooLong, Inputs.lines_of}
use Rattle.mlt_script_serial.specs.declared.call.{DeskAnswer.DeskAnswer, DeskCall.DeskCall}
use Rattle.mlt_script_serial.specs.declared.call.DeskAnswer.TheVariants.{Begun, Replied, Committed, Aborted, Refused}
use Rattle.mlt_serve_session.specs.{declared.said.Said.Said, Texts.said_text}

-- what a line asks of the desk, with no transaction open
abbrev pub call_alone : SessionLine → Option DeskCall
call_alone (Says Command.Begin) = Some DeskCall.Begin
call_alone line = None

-- what a line asks of the desk, with this transaction open
abbrev pub call_within : ℕ → SessionLine → Option DeskCall
call_within tx (Says (Command.Op op)) = Some (DeskCall.Operation tx op)
call_within tx (Says Command.Commit) = Some (DeskCall.Commit tx)
call_within tx (Says Command.Abort) = Some (DeskCall.Abort tx)
call_within tx (Says Command.Quit) = Some (DeskCall.Abort tx)
call_within tx TooLong = Some (DeskCall.Abort tx)
call_within tx line = None

abbrev pub call_for : Option ℕ → SessionLine → Option DeskCall
call_for None line = call_alone line
call_for (Some tx) line = call_within tx line

-- a line, the transaction that is open before it, and what the desk answered where it was asked
pub record Turn : Type 0 where
  pub open_before : Option ℕ
  pub line : SessionLine
  pub answer : Option DeskAnswer

-- the transaction that is open after an answer
abbrev pub open_after : Option ℕ → Option DeskAnswer → Option ℕ
open_after before None = before
open_after before (Some (Begun tx)) = Some tx
open_after before (Some (Replied reply)) = before
open_after before (Some (Committed number)) = None
open_after before (Some Aborted) = None
open_after before (Some (Refused r)) = before

-- whether a line ends the session
abbrev pub ends : SessionLine → Bool
ends (Says Command.Quit) = true
ends TooLong = true
ends line = false

abbrev pub is_long : SessionLine → Bool
is_long (Says command) = false
is_long TooLong = true

abbrev pub unless_ended : SessionLine → List Turn → List Turn
unless_ended line rest = if ends line then [] else rest

-- one turn, and those of the lines behind it; where the desk did not answer the session broke off
abbrev pub one_turn : Option ℕ → SessionLine → Option DeskCall → List DeskAnswer
    → (Option ℕ → List DeskAnswer → List Turn) → List Turn
one_turn before line None answers behind =
    record { open_before = before; line = line; answer = None }
    ∷ unless_ended line (behind before answers)
one_turn before line (Some c) [] behind = []
one_turn before line (Some c) (a ∷ answers) behind =
    record { open_before = before; line = line; answer = Some a }
    ∷ unless_ended line (behind (open_after before (Some a)) answers)

-- the turns of these lines with these answers
abbrev pub turns : Option ℕ → List SessionLine → List DeskAnswer → List Turn
turns before [] answers = []
turns before (line ∷ lines) answers =
    one_turn before line (call_for before line) answers (λ next rest. turns next lines rest)

-- the turns of a session over an input
abbrev pub session_turns : List ℕ → List DeskAnswer → List Turn
session_turns bytes answers = turns None (lines_of bytes) answers

-- what is said to a line that asks nothing, with no transaction open
abbrev pub said_alone : SessionLine → Said
said_alone (Says Command.Begin) = Said.Nothing
said_alone (Says (Command.Op op)) = Said.Error Refusal.NoSuchTx
said_alone (Says Command.Commit) = Said.Error Refusal.NoSuchTx
said_alone (Says Command.Abort) = Said.Error Refusal.NoSuchTx
said_alone (Says Command.Quit) = Said.Bye
said_alone (Says Command.Blank) = Said.Nothing
said_alone (Says Command.Other) = Said.Fault
said_alone TooLong = Said.Error Refusal.LineTooLong

-- the same with one open
abbrev pub said_within : SessionLine → Said
said_within (Says Command.Begin) = Said.Error Refusal.Running
said_within (Says (Command.Op op)) = Said.Nothing
said_within (Says Command.Commit) = Said.Nothing
said_within (Says Command.Abort) = Said.Nothing
said_within (Says Command.Quit) = Said.Bye
said_within (Says Command.Blank) = Said.Nothing
said_within (Says Command.Other) = Said.Fault
said_within TooLong = Said.Error Refusal.LineTooLong

-- what is said where the desk answered
abbrev pub said_with : SessionLine → DeskAnswer → Said
said_with (Says Command.Quit) answer = Said.Bye
said_with (Says Command.Blank) answer = Said.Nothing
said_with (Says Command.Other) answer = Said.Fault
said_with TooLong answer = Said.Error Refusal.LineTooLong
said_with line answer = Said.Told answer

-- what is said of a line: the answer of the desk, or what the line itself calls for
abbrev pub said_by : Option ℕ → SessionLine → Option DeskAnswer → Said
said_by before line (Some answer) = said_with line answer
said_by None line None = said_alone line
said_by (Some tx) line None = said_within line

-- the text of a turn: the line that is said, if one is
abbrev pub turn_text : Turn → List ℕ
turn_text t = said_text (said_by t.open_before t.line t.answer)

abbrev pub option_list : {A : Type 0} → Option A → List A
option_list None = []
option_list (Some x) = x ∷ []

-- what the turns asked of the desk
abbrev pub calls_in : List Turn → List DeskCall
calls_in ts = flat_map (λ t. option_list (call_for t.open_before t.line)) ts

-- what the desk answered in the turns
abbrev pub answers_in : List Turn → List DeskAnswer
answers_in ts = flat_map (λ t. option_list t.answer) ts

abbrev pub open_at_end : Option ℕ → List Turn → Option ℕ
open_at_end before [] = before
open_at_end before (t ∷ ts) = open_at_end (open_after before t.answer) ts

-- a session that ends with a transaction open takes it back
abbrev pub closing : Option ℕ → List DeskCall
closing None = []
closing (Some tx) = DeskCall.Abort tx ∷ []

abbrev pub closing_answers : Option ℕ → List DeskAnswer
closing_answers None = []
closing_answers (Some tx) = Aborted ∷ []

-- whether a line ended the session
abbrev pub ends_in : List Turn → Bool
ends_in [] = false
ends_in (t ∷ ts) = ends t.line || ends_in ts

-- whether a line was too long
abbrev pub long_in : List Turn → Bool
long_in [] = false
long_in (t ∷ ts) = is_long t.line || long_in ts

abbrev pub commits_by : Option DeskAnswer → ℕ
commits_by (Some (Committed number)) = 1
commits_by answer = 0

abbrev pub commits_in : List Turn → ℕ
commits_in [] = 0
commits_in (t ∷ ts) = commits_by t.answer + commits_in ts
