-- Texts that are read again as what they were written for.
use Rattle.std.specs.Prelude.{◌≡◌, ℕ, List, [], ◌∷◌, ◌++◌, map}
use Rattle.mlt_script.specs.{declared.forms.LineForm.LineForm, declared.forms.LineForm.TheVariants.Begins, declared.forms.LineForm.TheVariants.Says, declared.forms.LineForm.TheVariants.Closes, declared.statement.Line.Line, Blocks.Block, Blocks.Block.Nothing, Blocks.Block.Then, Blocks.Block.If, Grammar.AreLawful, Grammar.forms_of, LineTexts.line_text, Printing.as_line, Printing.script_text, Scripts.ScriptForm, Scripts.IsScript}
use Rattle.mlt_text_words.specs.Lines.{lines}

-- Before any text, this one is lines of these forms.
abbrev pub IsReadAs : List ℕ → List LineForm → Type 0
IsReadAs t forms = (rest : List ℕ)
    → (AreLawful (lines rest) → AreLawful (lines (t ++ rest)))
    × (forms_of (lines (t ++ rest)) ≡ forms ++ forms_of (lines rest))

abbrev pub IsReadAgain : Line → Type 0
IsReadAgain l = IsReadAs (as_line (line_text l)) (Says l ∷ [])

abbrev pub AreReadAgain : List Line → Type 0
AreReadAgain [] = Unit {0}
AreReadAgain (l ∷ ls) = IsReadAgain l × AreReadAgain ls

-- the lines of a block that are written: no else before an empty part
abbrev pub second_lines : Block → List Line → List Line
second_lines Nothing ls = []
second_lines b ls = Line.Else ∷ ls

abbrev pub written : Block → List Line
written Nothing = []
written (Then s rest) = Line.Plain s ∷ written rest
written (If a w first second rest) =
    Line.If a w ∷ (written first ++ (second_lines second (written second) ++ Line.End ∷ written rest))

abbrev pub forms_of_script : ScriptForm → List LineForm
forms_of_script s = Begins s.client ∷ (map Says (written s.block) ++ Closes s.ending ∷ [])

-- the script's text is the script
abbrev pub IsScriptAgain : ScriptForm → Type 0
IsScriptAgain s = IsScript s × IsReadAs (script_text s) (forms_of_script s)

abbrev pub AreScriptsAgain : List ScriptForm → Type 0
AreScriptsAgain [] = Unit {0}
AreScriptsAgain (s ∷ scripts) = IsScriptAgain s × AreScriptsAgain scripts
