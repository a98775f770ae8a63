-- Turns of a session, one after the other.
use Rattle.std.specs.Prelude.{◌≡◌, ◌<◌, ◌≤◌, ◌^◌, ℕ, ◌+◌, List, [], ◌∷◌, Option, Some, None, false}
use Rattle.mlt_script_serial.specs.{declared.outcome.Outcome.Outcome, declared.call.DeskAnswer.DeskAnswer, declared.call.DeskCall.DeskCall, Calls.Moves}
use Rattle.mlt_event_text.specs.declared.session_line.SessionLine.{SessionLine}
use Rattle.mlt_serve_session.specs.{declared.said.Said.Said, declared.notes.SessionRecord.SessionRecord, declared.receipts.Receipts.Ghosts, declared.notes.SessionProgress.SessionProgress, Noting.outcomes_in, Noting.noted, Outcomes.begins_by, Desks.Moved}
use Rattle.mlt_serve_session.specs.Talks.{Turn, call_for, said_by, ends, is_long, open_after, commits_by}

-- how far a session is, its desk and its outcomes
pub record TalkState (D : Type 0) : Type 0 where
  pub progress : SessionProgress
  pub desk : D
  pub outcomes : List Outcome

abbrev pub talk_state : {K D : Type 0} {of : Ghosts K} → ℕ → SessionRecord K of → D → TalkState D
talk_state client notes desk =
    record { progress = notes.progress; desk = desk; outcomes = outcomes_in client notes }

-- a session of which nothing was read
abbrev pub start : SessionProgress
start = record { tx = None; lines = 0; commits = 0; begun = 0; over = false; long = false }

-- how far a session is after what the desk answered, if it was asked
abbrev pub after_answer : SessionProgress → Option DeskAnswer → SessionProgress
after_answer p answer =
    record {
      tx = open_after p.tx answer;
      lines = p.lines;
      commits = p.commits + commits_by answer;
      begun = p.begun + begins_by answer;
      over = p.over;
      long = p.long;
    }

-- how far a session is after a line was answered
abbrev pub after_line : SessionProgress → SessionLine → SessionProgress
after_line p line = record p { lines = p.lines + 1; over = ends line; long = is_long line }

-- how far a session is after a turn
abbrev pub after_turn : SessionProgress → Turn → SessionProgress
after_turn p t = after_line (after_answer p t.answer) t.line

-- the call was made and answered so, and noted
pub record CallIsNoted {D : Type 0} (moves : Moves D) (client : ℕ) (p : TalkState D) (c : DeskCall)
    (a : DeskAnswer) (q : TalkState D) : Type 0 where
  pub moved : Moved moves p.desk c a q.desk
  pub noted_so : q.outcomes ≡ noted client p.progress.begun p.outcomes c a
  pub after : q.progress ≡ after_answer p.progress (Some a)

-- the call was made and answered, and noted; or there was none
abbrev pub Asked : {D : Type 0} → Moves D → ℕ → TalkState D → Option DeskCall → Option DeskAnswer
    → TalkState D → Type 0
Asked moves client p None None q = (q.desk ≡ p.desk) × (q.outcomes ≡ p.outcomes)
Asked moves client p (Some c) (Some a) q = Moved moves p.desk c a q.desk
    × (q.outcomes ≡ noted client p.progress.begun p.outcomes c a)
Asked moves client p None (Some a) q = ⊥
Asked moves client p (Some c) None q = ⊥

pub record Step {D : Type 0} (moves : Moves D) (client : ℕ) (p : TalkState D) (t : Turn)
    (q : TalkState D) : Type 0 where
  pub going : p.progress.over ≡ false
  pub before : t.open_before ≡ p.progress.tx
  pub asked : Asked moves client p (call_for t.open_before t.line) t.answer q
  pub after : q.progress ≡ after_turn p.progress t

-- these turns, one after the other
abbrev pub Goes : {D : Type 0} → Moves D → ℕ → TalkState D → List Turn → TalkState D → Type 0
Goes moves client p [] q = q ≡ p
Goes {D} moves client p (t ∷ ts) q = (m : TalkState D) × Step moves client p t m
    × Goes moves client m ts q

abbrev pub turn_at : Option ℕ → SessionLine → Option DeskAnswer → Turn
turn_at before line answer = record { open_before = before; line = line; answer = answer }

-- one turn for a line, and what is said
pub record TakesTurn {D : Type 0} (moves : Moves D) (client : ℕ) (p : TalkState D) (line : SessionLine)
    (said : Said) (q : TalkState D) : Type 0 where
  pub answer : Option DeskAnswer
  pub step : Step moves client p (turn_at p.progress.tx line answer) q
  pub says : said ≡ said_by p.progress.tx line answer

-- the counts of a session of fewer than 2 ^ 62 lines
abbrev pub IsSmall : SessionProgress → Type 0
IsSmall p = (p.lines < 2 ^ 62) × (p.commits ≤ p.lines) × (p.begun ≤ p.lines)
