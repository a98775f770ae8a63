-- The text of scripts.
use Rattle.std.specs.Prelude.{ℕ, List, [], ◌∷◌, ◌++◌, codes, ◌==◌, Bool, true, false, if◌then◌else◌, flat_map}
use Rattle.mlt_object_kinds.specs.Texts.{with_number}
use Rattle.mlt_script.specs.{declared.statement.Line.Line, Blocks.Block, Blocks.Block.Nothing, Blocks.Block.Then, Blocks.Block.If, LineTexts.statement_text, LineTexts.line_text, LineTexts.ending_text, Scripts.ScriptForm}

-- begin alone for client 0
abbrev pub begin_text : ℕ → List ℕ
begin_text client = if client == 0 then codes "begin" else with_number (codes "begin") client

-- a line with its LF
abbrev pub as_line : List ℕ → List ℕ
as_line text = text ++ 10 ∷ []

-- the else and the second part of an if, or nothing where that part is empty
abbrev pub second_part : Block → List ℕ → List ℕ
second_part Nothing text = []
second_part b text = as_line (line_text Line.Else) ++ text

abbrev pub block_text : Block → List ℕ
block_text Nothing = []
block_text (Then s rest) = as_line (statement_text s) ++ block_text rest
block_text (If a w first second rest) =
    as_line (line_text (Line.If a w)) ++ (block_text first
    ++ (second_part second (block_text second) ++ (as_line (line_text Line.End) ++ block_text rest)))

abbrev pub script_text : ScriptForm → List ℕ
script_text s = as_line (begin_text s.client) ++ (block_text s.block ++ as_line (ending_text s.ending))

-- The lines of scripts, with one space between words: `begin` alone for client 0, and no else
-- before an empty part.
abbrev pub scripts_text : List ScriptForm → List ℕ
scripts_text = flat_map script_text

abbrev pub begins_with_end : List Line → Bool
begins_with_end [] = false
begins_with_end (Line.End ∷ ls) = true
begins_with_end (l ∷ ls) = false

-- whether the line is an else directly before its end
abbrev pub is_idle : Line → List Line → Bool
is_idle Line.Else ls = begins_with_end ls
is_idle l ls = false

-- what is written for a line before others
abbrev pub shown_line : Line → List Line → List ℕ
shown_line l ls = if is_idle l ls then [] else as_line (line_text l)

abbrev pub shown : List Line → List ℕ
shown [] = []
shown (l ∷ ls) = shown_line l ls ++ shown ls
