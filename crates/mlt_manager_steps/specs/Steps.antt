-- What `steps` writes for an input.
use Rattle.std.specs.Prelude.{◌≡◌, ℕ, Bool, true, false, List, [], ◌∷◌, ◌++◌, codes, flat_map, map}
use Rattle.std.specs.Str.Lines.{lines}
use Rattle.mlt_types.specs.declared.limits.Limits.{Limits}
use Rattle.mlt_object_kinds.specs.{Bases.Base, Texts.with_number}
use Rattle.mlt_object_base.specs.BaseText.{base_text}
use Rattle.mlt_event.specs.declared.{event.Event.Event, told.Told.Told}
use Rattle.mlt_event_text.specs.{Grammar.Spells, TellTexts.told_line, TellTexts.told_text}
use Rattle.mlt_manager.specs.{Bases.HasDepth, Courses.TellsAll, Courses.course_of, Courses.opening_course, Events.Plays, Managers.ManagerFields, Promises.IsCommittedBaseOf}

-- the line of a directory's depth
abbrev pub depth_line : ℕ → List ℕ
depth_line depth = with_number (codes "depth") depth ++ 10 ∷ []

-- The lines of the events, then the base of what this manager has committed, and then the depth of its directory.
pub record IsTextBehind {P : Type 0} (lines : List ℕ) (manager : ManagerFields P) (text : List ℕ)
    : Type 0 where
  pub base : Base
  pub committed : IsCommittedBaseOf manager base
  pub depth : ℕ
  pub deep : HasDepth manager depth
  pub appended : text ≡ lines ++ (base_text base ++ depth_line depth)

-- a line as a comment, which begins with `#`
abbrev pub comment_line : List ℕ → List ℕ
comment_line line = codes "# " ++ line ++ 10 ∷ []

-- The line of what an event was told, and behind it its reasons: the lines of a text for people, each as a comment.
abbrev pub explained_lines : Told × List ℕ → List ℕ
explained_lines one = told_line one.0 ++ flat_map comment_line (lines one.1)

-- These are the lines of what events were told, in order, and behind each one its reasons, if it has any, and nothing else.
pub record AreExplained (tolds : List Told) (text : List ℕ) : Type 0 where
  pub explained : List (Told × List ℕ)
  pub told : map (λ one. one.0) explained ≡ tolds
  pub written : text ≡ flat_map explained_lines explained

-- The lines of what events were told, with their reasons or without. Which reasons these are, tests say.
abbrev pub AreToldLines : Bool → List Told → List ℕ → Type 0
AreToldLines true tolds lines = AreExplained tolds lines
AreToldLines false tolds lines = lines ≡ told_text tolds

-- The events are played from a new manager to this one, its course and its history are what they were told, and these are the lines
-- of that.
pub record ArePlayedLines {P : Type 0} (bits_of : P → ℕ → ℕ) (limits : Limits) (pseudo : P)
    (explains : Bool) (events : List Event) (manager : ManagerFields P) (lines : List ℕ)
    : Type 0 where
  pub tolds : List Told
  pub played : Plays bits_of limits pseudo events tolds manager
  pub course : TellsAll opening_course events tolds (course_of manager) manager.shared.history.items
  pub told : AreToldLines explains tolds lines

-- The input spells events, which are played, and the text is that of what they were told, with the reasons where they
-- are asked for.
pub record IsStepsText {P : Type 0} (bits_of : P → ℕ → ℕ) (limits : Limits) (pseudo : P)
    (explains : Bool) (input text : List ℕ) (manager : ManagerFields P) : Type 0 where
  pub events : List Event
  pub spelled : Spells input events
  pub lines : List ℕ
  pub played : ArePlayedLines bits_of limits pseudo explains events manager lines
  pub written : IsTextBehind lines manager text
