-- The text of what events are told.
use Rattle.std.specs.Prelude.{ℕ, List, [], ◌∷◌, ◌++◌, flat_map}
use Rattle.mlt_event.specs.{declared.told.Told.Told, Texts.tell_text}

-- what one event is told, and the end of its line
abbrev pub told_line : Told → List ℕ
told_line told = tell_text told ++ 10 ∷ []

-- a line for each event, in order
abbrev pub told_text : List Told → List ℕ
told_text tells = flat_map told_line tells
