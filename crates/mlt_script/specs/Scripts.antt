-- A script, as contracts see it.
use Rattle.std.specs.Prelude.{ℕ, ◌<◌, ◌≤◌, List, [], ◌∷◌}
use Rattle.mlt_script.specs.{declared.statement.Line.Line, declared.statement.Ending.Ending, Blocks.Block.Nothing, Blocks.Block.Then, Blocks.Block.If, Blocks.Open.Top, Blocks.Open.InFirst, Blocks.Open.InSecond}
use Rattle.mlt_script.specs.Blocks.{Block, longest, nesting, Open, grow}

-- a script: the number of its client, its statements, and whether it ends in a commit or an abort
pub record ScriptForm : Type 0 where
  pub client : ℕ
  pub block : Block
  pub ending : Ending

-- a script's own limits: the client's number, the operations on its longest path, and the ifs in ifs
abbrev pub IsScript : ScriptForm → Type 0
IsScript s = (s.client < 1000) × (longest s.block ≤ 256) × (nesting s.block ≤ 16)

-- What is read once one more line is. A line that may not stand there changes nothing.
abbrev pub turned : Open → Open
turned (InFirst o a w first) = InSecond o a w first Nothing
turned o = o

abbrev pub closed : Open → Open
closed (Top b) = Top b
closed (InFirst o a w first) = grow o (If a w first Nothing Nothing)
closed (InSecond o a w first second) = grow o (If a w first second Nothing)

abbrev pub one_more : Open → Line → Open
one_more o (Line.Plain s) = grow o (Then s Nothing)
one_more o (Line.If a w) = InFirst o a w Nothing
one_more o Line.Else = turned o
one_more o Line.End = closed o

-- what lines say, read after what is open
abbrev pub read_on : Open → List Line → Open
read_on o [] = o
read_on o (l ∷ ls) = read_on (one_more o l) ls

abbrev pub open_of : List Line → Open
open_of lines = read_on (Top Nothing) lines

abbrev pub whole : Open → Block
whole (Top b) = b
whole o = Nothing

-- the statements of the lines of a script
unfoldable pub tree_of : List Line → Block
tree_of lines = whole (open_of lines)
