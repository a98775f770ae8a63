-- What a desk has seen of the manager, and what it has made of that itself.
use Rattle.std.specs.Prelude.{ℕ, ◌≡◌, ◌+◌, List, [], ◌∷◌, ◌++◌, length}
use Rattle.mlt_event.specs.declared.{event.Event.Event, told.Told.Told}
use Rattle.mlt_work_desk.specs.{LogHandles.begun_by, LogHandles.seen_by, declared.log_handles.LogSnapshot.LogSnapshot, declared.log_handles.Past.Past, declared.tries.TriesLeft.TriesLeft}

-- the first list is what is left of the other one without some of its elements
abbrev pub IsSubsequence : {X : Type 0} → List X → List X → Type 0
IsSubsequence [] ys = Unit {0}
IsSubsequence {X} (x ∷ xs) ys = (skipped : List X) × (rest : List X) × (ys ≡ skipped ++ x ∷ rest) × IsSubsequence xs rest

-- what a desk has seen of the manager's past, which transactions it has begun, its tries, and how many events it has made
pub record DeskView : Type 0 where
  pub past : Past
  pub begun : List ℕ
  pub tries : TriesLeft
  pub events : ℕ

abbrev pub desk_view : LogSnapshot → TriesLeft → ℕ → DeskView
desk_view snapshot tries events = record { past = seen_by snapshot; begun = begun_by snapshot; tries = tries; events = events }

-- A desk has made just these events, which were told so: they are among those that came to the past that it has seen.
pub record HasMade (before after : DeskView) (own : List (Event × Told)) : Type 0 where
  pub added : List (Event × Told)
  pub whole : after.past.acts ≡ before.past.acts ++ added
  pub among : IsSubsequence own added
  pub counted : after.events ≡ before.events + length own
