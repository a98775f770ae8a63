-- What a line is by itself, wherever it stands.
use Rattle.std.specs.Prelude.{◌≡◌, ◌<◌, ◌⊎◌, List, [], ◌∷◌, length, nat_lt, Option, Some, None, if◌then◌else◌}
use Rattle.std.specs.List.{list_all}
use Rattle.mlt_types.specs.declared.refusal.ScriptCause.{ScriptCause}
use Rattle.mlt_script.specs.{declared.forms.LineForm.LineForm, declared.forms.LineForm.TheVariants.Begins, declared.line.ScriptReading.ScriptReading, declared.line.ScriptReading.TheVariants.Bad, declared.line.ScriptReading.TheVariants.Skip, declared.line.ScriptReading.TheVariants.Form, Forms.form_of}
use Rattle.mlt_text_words.specs.{declared.keyword.Word.Word, Lines.Raw, Lines.content, Lines.is_comment, Lines.is_allowed, Words.words_of}

abbrev pub form_or_fault : Option LineForm → ScriptReading
form_or_fault (Some form) = Form form
form_or_fault None = Bad ScriptCause.Words

-- a line of no words is blank
abbrev pub said_by : List Word → ScriptReading
said_by [] = Skip
said_by (w ∷ ws) = form_or_fault (form_of (w ∷ ws))

abbrev pub outside_comment : Raw → ScriptReading
outside_comment raw = if list_all is_allowed (content raw) then said_by (words_of (content raw)) else Bad ScriptCause.Line

-- More than 200 bytes are a fault even in a comment, a CR counted. In a comment any byte may stand.
unfoldable pub reading : Raw → ScriptReading
reading raw = if nat_lt 200 (length raw.bytes) then Bad ScriptCause.Line else (if is_comment (content raw) then Skip else outside_comment raw)

-- what every reading is: a fault of a line by itself is Line or Words, and a begin is that of a client below 1000
abbrev pub IsReading : ScriptReading → Type 0
IsReading (Bad fault) = (fault ≡ ScriptCause.Line) ⊎ (fault ≡ ScriptCause.Words)
IsReading Skip = Unit {0}
IsReading (Form (Begins client)) = client < 1000
IsReading (Form form) = Unit {0}
