-- Which scripts a text is, and where its first fault stands.
use Rattle.std.specs.Prelude.{◌≡◌, ℕ, ◌+◌, ◌<◌, List, [], ◌∷◌, ◌++◌, length, map, Bool, true, false, ◌⊎◌}
use Rattle.mlt_types.specs.declared.refusal.ScriptCause.{ScriptCause}
use Rattle.mlt_script.specs.{declared.forms.LineForm.LineForm, declared.forms.LineForm.TheVariants.Begins, declared.forms.LineForm.TheVariants.Says, declared.forms.LineForm.TheVariants.Closes, declared.line.ScriptReading.ScriptReading, declared.line.ScriptReading.TheVariants.Bad, declared.line.ScriptReading.TheVariants.Form, declared.statement.Asking.Asking, declared.statement.Wanted.Wanted, declared.statement.Line.Line, Blocks.Block.Nothing, Blocks.Block.Then, Blocks.Block.If, Blocks.Open.Top, Blocks.Open.InFirst, Blocks.Open.InSecond, Readings.reading, Scripts.ScriptForm, Scripts.IsScript}
use Rattle.mlt_script.specs.Blocks.{Block, Open, path, depth, IsWithin}
use Rattle.mlt_text_words.specs.Lines.{Raw, lines}

abbrev pub AreScripts : List ScriptForm → Type 0
AreScripts [] = Unit {0}
AreScripts (s ∷ scripts) = IsScript s × AreScripts scripts

-- The lines of statements. Where the second part of an if is empty, its else may be left out.
abbrev pub IsSpelled : Block → List Line → Type 0
IsSpelled Nothing ls = ls ≡ []
IsSpelled (Then s rest) ls = (z : List Line) × (ls ≡ Line.Plain s ∷ z) × IsSpelled rest z
IsSpelled (If a w first second rest) ls =
    (x : List Line) × (y : List Line) × (z : List Line)
    × IsSpelled first x
    × IsSpelled second y
    × IsSpelled rest z
    × ((ls ≡ Line.If a w ∷ (x ++ Line.Else ∷ (y ++ Line.End ∷ z))) ⊎ ((second ≡ Nothing) × (ls ≡ Line.If a w ∷ (x ++ Line.End ∷ z))))

-- the lines of a script that is read up to somewhere, behind its begin
abbrev pub IsSpelledOpen : Open → List Line → Type 0
IsSpelledOpen (Top b) ls = IsSpelled b ls
IsSpelledOpen (InFirst o a w first) ls =
    (x : List Line) × (y : List Line)
    × IsSpelledOpen o x
    × IsSpelled first y
    × (ls ≡ x ++ Line.If a w ∷ y)
IsSpelledOpen (InSecond o a w first second) ls =
    (x : List Line) × (y : List Line) × (z : List Line)
    × IsSpelledOpen o x
    × IsSpelled first y
    × IsSpelled second z
    × (ls ≡ x ++ Line.If a w ∷ (y ++ Line.Else ∷ z))

-- a script is its begin, the lines of its statements and its ending
abbrev pub IsSpelledScript : ScriptForm → List LineForm → Type 0
IsSpelledScript s forms =
    (ls : List Line)
    × IsSpelled s.block ls
    × (forms ≡ Begins s.client ∷ (map Says ls ++ Closes s.ending ∷ []))

-- one script after the other
abbrev pub AreSpelled : List ScriptForm → List LineForm → Type 0
AreSpelled [] forms = forms ≡ []
AreSpelled (s ∷ scripts) forms =
    (x : List LineForm) × (y : List LineForm)
    × IsSpelledScript s x
    × AreSpelled scripts y
    × (forms ≡ x ++ y)

abbrev pub IsLawful : ScriptReading → Type 0
IsLawful (Bad c) = ⊥
IsLawful r = Unit {0}

-- no line is faulty by itself
abbrev pub AreLawful : List Raw → Type 0
AreLawful [] = Unit {0}
AreLawful (raw ∷ raws) = IsLawful (reading raw) × AreLawful raws

abbrev pub form_in : ScriptReading → List LineForm
form_in (Form form) = form ∷ []
form_in r = []

-- the forms of the lines in order, without the lines that are skipped
abbrev pub forms_of : List Raw → List LineForm
forms_of [] = []
forms_of (raw ∷ raws) = form_in (reading raw) ++ forms_of raws

-- the lines are just these scripts
abbrev pub AreWhole : List Raw → List ScriptForm → Type 0
AreWhole raws scripts = AreScripts scripts × AreLawful raws × AreSpelled scripts (forms_of raws)

-- the forms are those of these scripts, then a begin, and then what is read of that script
abbrev pub AreSpelledOpen : List ScriptForm → ℕ → Open → List LineForm → Type 0
AreSpelledOpen scripts client o forms =
    (x : List LineForm) × (ls : List Line)
    × AreSpelled scripts x
    × IsSpelledOpen o ls
    × (forms ≡ x ++ Begins client ∷ map Says ls)

-- the lines are just these scripts, and then one more that is read up to somewhere
abbrev pub AreOpen : List Raw → List ScriptForm → ℕ → Open → Type 0
AreOpen raws scripts client o =
    AreScripts scripts
    × (client < 1000)
    × IsWithin o
    × AreLawful raws
    × AreSpelledOpen scripts client o (forms_of raws)

-- the text writes just these scripts: each line is blank, a comment or one of the forms
abbrev pub Spells : List ℕ → List ScriptForm → Type 0
Spells text scripts = AreWhole (lines text) scripts

-- the lines have no fault, and end outside a script
abbrev pub IsClosed : List Raw → Type 0
IsClosed raws = (scripts : List ScriptForm) × AreWhole raws scripts

-- the lines have no fault, and end inside a script, up to here
abbrev pub IsOpen : List Raw → Open → Type 0
IsOpen raws o = (scripts : List ScriptForm) × (client : ℕ) × AreOpen raws scripts client o

abbrev pub IsSound : List Raw → Type 0
IsSound raws = IsClosed raws ⊎ ((o : Open) × IsOpen raws o)

abbrev pub IsNoBegin : LineForm → Type 0
IsNoBegin (Begins client) = ⊥
IsNoBegin form = Unit {0}

abbrev pub is_in_first : Open → Bool
is_in_first (InFirst o a w first) = true
is_in_first o = false

-- Inside a script: a begin; an ending inside an if; an else elsewhere than in the first part of an if; an end outside each if.
abbrev pub HasNoPlace : Open → LineForm → Type 0
HasNoPlace o (Begins client) = Unit {0}
HasNoPlace o (Closes e) = 0 < depth o
HasNoPlace o (Says Line.Else) = is_in_first o ≡ false
HasNoPlace o (Says Line.End) = depth o ≡ 0
HasNoPlace o (Says l) = ⊥

-- the line asks an operation, and is no if inside 16 others
abbrev pub IsAskingHere : Open → Line → Type 0
IsAskingHere o (Line.Plain s) = Unit {0}
IsAskingHere o (Line.If a w) = depth o < 16
IsAskingHere o l = ⊥

-- After lines that have no fault, the line has this one. The lines after it matter only to Unfinished.
abbrev pub IsFault : List Raw → Raw → List Raw → ScriptCause → Type 0
IsFault before raw after ScriptCause.Line = IsSound before × (reading raw ≡ Bad ScriptCause.Line)
IsFault before raw after ScriptCause.Words = IsSound before × (reading raw ≡ Bad ScriptCause.Words)
IsFault before raw after ScriptCause.Place =
    (IsClosed before × ((form : LineForm) × (reading raw ≡ Form form) × IsNoBegin form))
    ⊎ ((o : Open) × IsOpen before o × ((form : LineForm) × (reading raw ≡ Form form) × HasNoPlace o form))
IsFault before raw after ScriptCause.Deep =
    (o : Open)
    × IsOpen before o
    × ((a : Asking) × (w : Wanted) × (reading raw ≡ Form (Says (Line.If a w))))
    × (depth o ≡ 16)
IsFault before raw after ScriptCause.Long =
    (o : Open) × IsOpen before o × ((l : Line) × (reading raw ≡ Form (Says l)) × IsAskingHere o l) × (path o + 1 ≡ 257)
IsFault before raw after ScriptCause.Unfinished = (after ≡ []) × ((o : Open) × IsOpen (before ++ raw ∷ []) o)

-- the first fault of the lines, which are counted from 1
abbrev pub IsFirstFaultOf : List Raw → ℕ → ScriptCause → Type 0
IsFirstFaultOf raws line fault = (before : List Raw) × (raw : Raw) × (after : List Raw)
    × (raws ≡ before ++ raw ∷ after) × (line ≡ length before + 1) × IsFault before raw after fault

-- the first line at which a text stops being scripts, counted from 1, and why
abbrev pub IsFirstFault : List ℕ → ℕ → ScriptCause → Type 0
IsFirstFault text line fault = IsFirstFaultOf (lines text) line fault

-- every text is scripts or has a first fault, never both, and just one list or one fault
abbrev pub IsDecided : List ℕ → Type 0
IsDecided text =
    (((scripts : List ScriptForm) × Spells text scripts) ⊎ ((line : ℕ) × (fault : ScriptCause) × IsFirstFault text line fault))
    × ((scripts : List ScriptForm) (line : ℕ) (fault : ScriptCause) → Spells text scripts → IsFirstFault text line fault → ⊥)
    × ((scripts others : List ScriptForm) → Spells text scripts → Spells text others → scripts ≡ others)
    × ((line other : ℕ) (fault another : ScriptCause) → IsFirstFault text line fault
    → IsFirstFault text other another → (line ≡ other) × (fault ≡ another))
