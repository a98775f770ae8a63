-- What the manager under a lock has executed.
use Rattle.std.specs.Prelude.{◌≡◌, ◌-◌, ◌^◌, List, length, map, min}
use Rattle.mlt_event.specs.declared.{event.Event.Event, told.Told.Told}
use Rattle.mlt_manager.specs.{Courses.TellsAll, Courses.course_of, Courses.opening_course, Managers.ManagerFields}

-- These events with these answers are all that has made the course and the history of the manager.
abbrev pub HaveMade : {P : Type 0} → List (Event × Told) → ManagerFields P → Type 0
HaveMade acts m = ∥ (m.events ≡ min (length acts) (2 ^ 64 - 1))
    × TellsAll opening_course (map (λ act. act.0) acts) (map (λ act. act.1) acts) (course_of m) m.shared.history.items ∥₁

-- some events with some answers have made it
abbrev pub IsMade : {P : Type 0} → ManagerFields P → Type 0
IsMade m = (acts : List (Event × Told)) × HaveMade acts m
