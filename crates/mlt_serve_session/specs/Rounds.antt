-- How far a session has read, answered and written.
use Rattle.std.specs.Prelude.{◌≡◌, ◌≤◌, ◌+◌, ℕ, List, [], ◌++◌, length, take, drop, Option, Bool, true, false, flat_map}
use Rattle.std.specs.Io.KnownBytes.{Appends, Consumes, IsAtEnd}
use Rattle.mlt_text.specs.Texts.{AppendsFront}
use Rattle.mlt_event_text.specs.{declared.session_line.SessionLine.SessionLine, Inputs.lines_of, Inputs.Splits, Inputs.Begins}
use Rattle.mlt_serve_session.specs.{Batches.Covers, Batches.Front, Batches.IsRest, Batches.lines_in, Talks.Turn, Talks.turn_text, Turns.TalkState, Turns.Goes}
use Rattle.mlt_script_serial.specs.Calls.{Moves}

-- the bytes that a reader has left and those that a writer took, where these are known, before and after
pub record Streams : Type 0 where
  pub read_before : Option (List ℕ)
  pub read_after : Option (List ℕ)
  pub wrote_before : Option (List ℕ)
  pub wrote_after : Option (List ℕ)

abbrev pub streams : Option (List ℕ) → Option (List ℕ) → Option (List ℕ) → Option (List ℕ) → Streams
streams read_before read_after wrote_before wrote_after =
    record {
      read_before = read_before;
      read_after = read_after;
      wrote_before = wrote_before;
      wrote_after = wrote_after;
    }

-- the complete lines of the text were answered, and the answers written
pub record Replied {D : Type 0} (moves : Moves D) (client : ℕ) (p : TalkState D) (up_to : Front)
    (before after : Option (List ℕ)) (q : TalkState D) : Type 0 where
  pub turns : List Turn
  pub goes : Goes moves client p turns q
  pub wrote : Appends before after (flat_map turn_text turns)
  pub within : up_to.at ≤ length up_to.text
  pub covers : Covers q.progress.over up_to.text up_to.at (lines_in turns)
  pub rest : IsRest q.progress.over (drop up_to.at up_to.text)

-- some lines of the text were answered, and a prefix of the answers written
pub record Stopped {D : Type 0} (moves : Moves D) (client : ℕ) (p : TalkState D) (text : List ℕ)
    (before after : Option (List ℕ)) (q : TalkState D) : Type 0 where
  pub turns : List Turn
  pub goes : Goes moves client p turns q
  pub begins : Begins text (lines_in turns)
  pub wrote : AppendsFront before after (flat_map turn_text turns)

-- these are the lines of the input; or the session is over, and they are the first
abbrev pub AreLines : Bool → List ℕ → List SessionLine → Type 0
AreLines false bytes lines = lines_of bytes ≡ lines
AreLines true bytes lines = Begins bytes lines

-- all complete lines of the text were answered, and a prefix of the answers written
pub record Unwritten {D : Type 0} (moves : Moves D) (client : ℕ) (p : TalkState D) (text : List ℕ)
    (before after : Option (List ℕ)) (q : TalkState D) : Type 0 where
  pub stopped : Stopped moves client p text before after q
  pub lines : AreLines q.progress.over text (lines_in stopped.turns)

-- a session that goes on: its lines up to here, and the bytes that it holds, which are no complete
-- line
pub record Listens {D : Type 0} (moves : Moves D) (client : ℕ) (p : TalkState D)
    (bytes : Streams) (held : List ℕ) (total : ℕ) (q : TalkState D) : Type 0 where
  pub turns : List Turn
  pub prefix : List ℕ
  pub goes : Goes moves client p turns q
  pub consumed : Consumes bytes.read_before bytes.read_after (prefix ++ held)
  pub wrote : Appends bytes.wrote_before bytes.wrote_after (flat_map turn_text turns)
  pub splits : Splits prefix
  pub lines : lines_of prefix ≡ lines_in turns
  pub rest : lines_of held ≡ []
  pub short : length held ≤ 200
  pub sum : total ≡ length prefix + length held
  pub counted : q.progress.lines ≤ length prefix

abbrev pub EndsInput : Bool → Option (List ℕ) → Type 0
EndsInput false rest = IsAtEnd rest
EndsInput true rest = Unit {0}

-- what was read of a session, at most so many bytes, and the turns that it made
pub record Heard {D : Type 0} (moves : Moves D) (client : ℕ) (p : TalkState D)
    (before after : Option (List ℕ)) (most : ℕ) (q : TalkState D) : Type 0 where
  pub taken : List ℕ
  pub turns : List Turn
  pub consumed : Consumes before after taken
  pub within : length taken ≤ most
  pub goes : Goes moves client p turns q

-- a session that ended by itself: all that was read was answered, up to the line that ended it
pub record Talked {D : Type 0} (moves : Moves D) (client : ℕ) (p : TalkState D)
    (bytes : Streams) (q : TalkState D) : Type 0 where
  pub heard : Heard moves client p bytes.read_before bytes.read_after 16777216 q
  pub lines : AreLines q.progress.over heard.taken (lines_in heard.turns)
  pub wrote : Appends bytes.wrote_before bytes.wrote_after (flat_map turn_text heard.turns)
  pub ended : EndsInput q.progress.over bytes.read_after

-- a session that was broken off
pub record Broken {D : Type 0} (moves : Moves D) (client : ℕ) (p : TalkState D)
    (bytes : Streams) (q : TalkState D) : Type 0 where
  pub heard : Heard moves client p bytes.read_before bytes.read_after 16777217 q
  pub begins : Begins heard.taken (lines_in heard.turns)
  pub wrote : AppendsFront bytes.wrote_before bytes.wrote_after (flat_map turn_text heard.turns)

-- a session that a read, a write or the byte limit broke off: all that was read up to the limit was
-- answered
pub record BrokenHeard {D : Type 0} (moves : Moves D) (client : ℕ) (p : TalkState D)
    (bytes : Streams) (q : TalkState D) : Type 0 where
  pub broken : Broken moves client p bytes q
  pub lines : AreLines q.progress.over (take 16777216 broken.heard.taken) (lines_in broken.heard.turns)
  pub whole : length broken.heard.taken ≡ 16777217
      → Appends bytes.wrote_before bytes.wrote_after (flat_map turn_text broken.heard.turns)
