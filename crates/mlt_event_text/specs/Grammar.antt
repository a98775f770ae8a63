-- Which events a text is, and where its first fault stands.
use Rattle.std.specs.Prelude.{◌≡◌, ℕ, ◌+◌, List, [], ◌∷◌, ◌++◌, length, replicate, All, ◌⊎◌, flat_map}
use Rattle.mlt_types.specs.declared.refusal.ScriptCause.{ScriptCause}
use Rattle.mlt_event.specs.declared.event.Event.{Event}
use Rattle.mlt_event_text.specs.{declared.line.EventReading.EventReading, declared.line.EventReading.TheVariants.Bad, declared.line.EventReading.TheVariants.Skip, declared.line.EventReading.TheVariants.Asks, Readings.reading}
use Rattle.mlt_text_words.specs.Lines.{Raw, lines}

abbrev pub IsNoFault : EventReading → Type 0
IsNoFault (Bad fault) = ⊥
IsNoFault Skip = Unit {0}
IsNoFault (Asks asked) = Unit {0}

-- the line is not faulty
abbrev pub IsLawful : Raw → Type 0
IsLawful raw = IsNoFault (reading raw)

-- no line is faulty
abbrev pub AreLawful : List Raw → Type 0
AreLawful raws = All IsLawful raws

abbrev pub events_in : EventReading → List Event
events_in (Bad fault) = []
events_in Skip = []
events_in (Asks asked) = replicate asked.times asked.event

-- the events that a line asks for: none, one, or so many steps
abbrev pub events_of : Raw → List Event
events_of raw = events_in (reading raw)

-- no line is faulty, and these are the events of the lines, one line's after the other's
pub record AreEvents (raws : List Raw) (events : List Event) : Type 0 where
  pub lawful : AreLawful raws
  pub appended : events ≡ flat_map events_of raws

-- the text writes just these events: each line is blank, a comment or one of the eight forms
abbrev pub Spells : List ℕ → List Event → Type 0
Spells text events = AreEvents (lines text) events

-- the line has this fault: Line or Words, and Line where it has both
abbrev pub IsFault : Raw → ScriptCause → Type 0
IsFault raw ScriptCause.Line = reading raw ≡ Bad ScriptCause.Line
IsFault raw ScriptCause.Words = reading raw ≡ Bad ScriptCause.Words
IsFault raw other = ⊥

-- the first of the lines that is faulty, counted from 1, and its fault
abbrev pub IsFirstFaultOf : List Raw → ℕ → ScriptCause → Type 0
IsFirstFaultOf raws line fault = (before : List Raw) × (raw : Raw) × (after : List Raw)
    × (raws ≡ before ++ raw ∷ after) × (line ≡ length before + 1) × AreLawful before × IsFault raw fault

-- the first line at which a text stops being events, counted from 1, and why
abbrev pub IsFirstFault : List ℕ → ℕ → ScriptCause → Type 0
IsFirstFault text line fault = IsFirstFaultOf (lines text) line fault

-- every text is events or has a first fault, never both, and just one list or one fault
pub record IsDecided (text : List ℕ) : Type 0 where
  pub either : ((events : List Event) × Spells text events)
      ⊎ ((line : ℕ) × (fault : ScriptCause) × IsFirstFault text line fault)
  pub not_both : (events : List Event) (line : ℕ) (fault : ScriptCause) → Spells text events
      → IsFirstFault text line fault → ⊥
  pub one_list : (events others : List Event) → Spells text events → Spells text others → events ≡ others
  pub one_fault : (line other : ℕ) (fault another : ScriptCause) → IsFirstFault text line fault
      → IsFirstFault text other another → (line ≡ other) × (fault ≡ another)
