-- What a line of an event text is by itself, wherever it stands.
use Rattle.std.specs.Prelude.{ℕ, List, [], ◌∷◌, length, nat_lt, Option, Some, None, if◌then◌else◌}
use Rattle.std.specs.List.{list_all}
use Rattle.mlt_types.specs.declared.refusal.ScriptCause.{ScriptCause}
use Rattle.mlt_event_text.specs.{declared.forms.Asked.Asked, declared.line.EventReading.EventReading, declared.line.EventReading.TheVariants.Bad, declared.line.EventReading.TheVariants.Skip, declared.line.EventReading.TheVariants.Asks, Forms.asked_by}
use Rattle.mlt_text_words.specs.{Lines.Raw, Lines.content, Lines.is_comment, Lines.is_allowed, Words.raw_words}

abbrev pub asked_or_fault : Option Asked → EventReading
asked_or_fault (Some asked) = Asks asked
asked_or_fault None = Bad ScriptCause.Words

-- a line of no words is blank
abbrev pub said_by : List (List ℕ) → EventReading
said_by [] = Skip
said_by (word ∷ words) = asked_or_fault (asked_by word words)

abbrev pub outside_comment : Raw → EventReading
outside_comment raw = if list_all is_allowed (content raw) then said_by (raw_words (content raw)) else Bad ScriptCause.Line

-- More than 200 bytes are a fault even in a comment, a CR counted. In a comment any byte may stand.
unfoldable pub reading : Raw → EventReading
reading raw = if nat_lt 200 (length raw.bytes) then Bad ScriptCause.Line else (if is_comment (content raw) then Skip else outside_comment raw)
