-- What the reading of a text answers, line by line.
use Rattle.std.specs.Prelude.{◌≡◌, ℕ, List, ◌++◌, length, Result, Ok, Err}
use Rattle.mlt_types.specs.declared.refusal.Refusal.{Refusal, TheVariants.OutOfMemory, TheVariants.ScriptFault}
use Rattle.mlt_event.specs.declared.event.Event.{Event}
use Rattle.mlt_event_text.specs.Grammar.{AreEvents, IsFault, IsFirstFault, IsLawful, Spells, events_of}
use Rattle.mlt_text_words.specs.Lines.{Raw, lines}

-- what is answered of a text: its events, want of memory, or its first fault
abbrev pub Answers : {A : Type 0} → (A → List Event) → Result A Refusal → List ℕ → Type 0
Answers view (Ok found) text = Spells text (view found)
Answers view (Err OutOfMemory) text = Unit {0}
Answers view (Err (ScriptFault line fault)) text = IsFirstFault text line fault
Answers view (Err refusal) text = ⊥

-- the lines of the text before the rest, so many, are these events
pub record WentOver (events : List Event) (line : ℕ) (text rest : List ℕ) : Type 0 where
  pub before : List Raw
  pub cut : lines text ≡ before ++ lines rest
  pub counted : line ≡ length before
  pub spelled : AreEvents before events

-- the events of one more line stand behind the old ones, or the line is refused
abbrev pub TakesLine : Result (Unit {0}) Refusal → List Event → List Event → ℕ → Raw → Type 0
TakesLine (Ok done) old new line raw = IsLawful raw × (new ≡ old ++ events_of raw)
TakesLine (Err OutOfMemory) old new line raw = Unit {0}
TakesLine (Err (ScriptFault number fault)) old new line raw = (number ≡ line) × IsFault raw fault
TakesLine (Err refusal) old new line raw = ⊥
