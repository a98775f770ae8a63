-- How the parser goes over the lines: one after the other, up to the first fault.
use Rattle.std.specs.Prelude.{◌≡◌, ℕ, ◌+◌, List, [], ◌∷◌, ◌++◌, nat_lt, Option, Some, None, Result, Ok, Err, if◌then◌else◌}
use Rattle.mlt_types.specs.declared.refusal.{Refusal.Refusal, Refusal.TheVariants.OutOfMemory, Refusal.TheVariants.ScriptFault, ScriptCause.ScriptCause, ScriptCause.TheVariants.Place, ScriptCause.TheVariants.Deep, ScriptCause.TheVariants.Long, ScriptCause.TheVariants.Unfinished}
use Rattle.mlt_script.specs.{declared.forms.LineForm.LineForm, declared.forms.LineForm.TheVariants.Begins, declared.forms.LineForm.TheVariants.Says, declared.forms.LineForm.TheVariants.Closes, declared.line.ScriptReading.ScriptReading, declared.line.ScriptReading.TheVariants.Bad, declared.line.ScriptReading.TheVariants.Skip, declared.line.ScriptReading.TheVariants.Form, declared.statement.Ending.Ending, declared.statement.Line.Line, Blocks.Open, Blocks.path, Blocks.depth, Blocks.Block.Nothing, Blocks.Open.Top, Blocks.Open.InFirst, Readings.reading, Scripts.ScriptForm, Scripts.one_more}
use Rattle.mlt_text_words.specs.Lines.{Raw}

-- after these scripts: outside a script, or inside one of this client, up to here
pub data ScanState : Type 0 where
  Outside : List ScriptForm → ScanState
  Inside : List ScriptForm → ℕ → Open → ScanState

abbrev pub long_fault : Open → Option ScriptCause
long_fault o = if nat_lt (path o) 256 then None else Some Long

abbrev pub else_fault : Open → Option ScriptCause
else_fault (InFirst o a w first) = None
else_fault o = Some Place

abbrev pub end_fault : Open → Option ScriptCause
end_fault (Top b) = Some Place
end_fault o = None

-- why a line may not stand here
abbrev pub line_fault : Open → Line → Option ScriptCause
line_fault o (Line.Plain s) = long_fault o
line_fault o (Line.If a w) = if nat_lt (depth o) 16 then long_fault o else Some Deep
line_fault o Line.Else = else_fault o
line_fault o Line.End = end_fault o

abbrev pub said : List ScriptForm → ℕ → Open → Option ScriptCause → Result ScanState ScriptCause
said scripts client o None = Ok (Inside scripts client o)
said scripts client o (Some fault) = Err fault

abbrev pub ended : List ScriptForm → ℕ → Open → Ending → Result ScanState ScriptCause
ended scripts client (Top b) e = Ok (Outside (scripts ++ record { client = client; block = b; ending = e } ∷ []))
ended scripts client o e = Err Place

-- the state after a line of the form, or why it may not stand there
abbrev pub step : ScanState → LineForm → Result ScanState ScriptCause
step (Outside scripts) (Begins client) = Ok (Inside scripts client (Top Nothing))
step (Outside scripts) form = Err Place
step (Inside scripts client o) (Begins other) = Err Place
step (Inside scripts client o) (Says l) = said scripts client (one_more o l) (line_fault o l)
step (Inside scripts client o) (Closes e) = ended scripts client o e

abbrev pub advance : ScanState → ScriptReading → Result ScanState ScriptCause
advance state (Bad fault) = Err fault
advance state Skip = Ok state
advance state (Form form) = step state form

abbrev pub at_end : ScanState → ℕ → Result (List ScriptForm) (ℕ × ScriptCause)
at_end (Outside scripts) n = Ok scripts
at_end (Inside scripts client o) n = Err (n, Unfinished)

abbrev pub after : Result ScanState ScriptCause → ℕ → (ScanState → Result (List ScriptForm) (ℕ × ScriptCause)) → Result (List ScriptForm) (ℕ × ScriptCause)
after (Err fault) line next = Err (line, fault)
after (Ok state) line next = next state

-- the scripts of the lines, or the number of the first faulty line and the cause; n lines stand before
unfoldable pub scan : ScanState → ℕ → List Raw → Result (List ScriptForm) (ℕ × ScriptCause)
scan state n [] = at_end state n
scan state n (raw ∷ raws) = after (advance state (reading raw)) (n + 1) (λ next. scan next (n + 1) raws)

-- the refusal is for want of memory, or tells the fault
abbrev pub Refuses : {A : Type 0} → Refusal → Result A (ℕ × ScriptCause) → Type 0
Refuses OutOfMemory wanted = Unit {0}
Refuses (ScriptFault line fault) wanted = wanted ≡ Err (line, fault)
Refuses refusal wanted = ⊥

-- a function of the program gave the wanted answer, or refused
abbrev pub Gives : {A B : Type 0} → (A → B) → Result A Refusal → Result B (ℕ × ScriptCause) → Type 0
Gives view (Ok found) wanted = wanted ≡ Ok (view found)
Gives view (Err refusal) wanted = Refuses refusal wanted

-- a function of the program went over the line of this number, into the state after it, or refused
abbrev pub Advances : Result (Unit {0}) Refusal → ℕ → Result ScanState ScriptCause → ScanState → Type 0
Advances (Ok done) line wanted after = wanted ≡ Ok after
Advances (Err OutOfMemory) line wanted after = Unit {0}
Advances (Err (ScriptFault n fault)) line wanted after = (n ≡ line) × (wanted ≡ Err fault)
Advances (Err refusal) line wanted after = ⊥
