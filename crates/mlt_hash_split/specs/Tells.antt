-- What a step of a split tells
use Rattle.std.specs.Prelude.{ℕ, ◌≡◌, ◌+◌}
use Rattle.std.specs.FinMap as map
use Rattle.mlt_types.specs.declared.{mode.Mode.TheVariants.Exclusive, refusal.Refusal.Refusal}
use Rattle.mlt_page.specs.Values.{BucketFields, HeadFields}
use Rattle.mlt_page_locks.specs.Requests.{IsLowest, conflicts}
use Rattle.mlt_hash_access.specs.{LocalStates.LocalState, Views.view_over}
use Rattle.mlt_hash_split.specs.{declared.split.SplitAnswer.SplitAnswer, Rests.SplitTarget, Rests.IsAtRest, Splits.IsUnderWay, Splits.SplitFields, Splits.steps_left, Steps.IsMaking, Steps.IsNextPage}

-- the walk's file is at rest again, with a bucket one deeper, and a directory one deeper where it was doubled
pub record Rests (target : SplitTarget) (new : LocalState) (split : SplitFields) (n : ℕ) : Type 0 where
  pub header : HeadFields
  pub bucket : BucketFields
  pub rest : IsAtRest target (view_over target.before new) n header bucket
  pub deeper : bucket.depth ≡ split.depth + 1
  pub in_place : (split.depth ≡ split.directory_depth → ⊥) → header.depth ≡ split.directory_depth
  pub doubled : split.depth ≡ split.directory_depth → header.depth ≡ split.directory_depth + 1

-- One step fewer is left, by exactly one; the split keeps its pages and depths.
pub record GoesOn (target : SplitTarget) (new : LocalState) (before after : SplitFields) : Type 0 where
  pub under_way : IsUnderWay target (view_over target.before new) after
  pub fewer : steps_left after + 1 ≡ steps_left before
  pub depth : after.depth ≡ before.depth
  pub directory_depth : after.directory_depth ≡ before.directory_depth

-- Going: the split goes on. Closed: this was its last step. Waiting: for the next page, on which a
-- lock stands against its own; nothing changed. Refused: NoRoom where a page was to be made and
-- there may be no more, or OutOfMemory.
abbrev pub Tells : SplitTarget → LocalState → LocalState → SplitFields → SplitFields → SplitAnswer → Type 0
Tells target old new before after SplitAnswer.Going = GoesOn target new before after
Tells target old new before after (SplitAnswer.Closed n) = Rests target new before n × (steps_left before ≡ 1)
Tells target old new before after (SplitAnswer.Waiting page by) =
    IsNextPage before.phase target (view_over target.before old) page
    × IsLowest (conflicts old.locks old.running.tx page Exclusive) by
    × (new ≡ old)
    × (after ≡ before)
Tells target old new before after (SplitAnswer.Refused Refusal.NoRoom) =
    IsMaking before.phase × (map.len old.store.pages ≡ old.store.max_pages)
Tells target old new before after (SplitAnswer.Refused reason) = reason ≡ Refusal.OutOfMemory
