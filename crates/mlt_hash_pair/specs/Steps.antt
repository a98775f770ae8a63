-- What the steps of a pair to its buckets tell
use Rattle.std.specs.Prelude.{ℕ, ◌≡◌, ◌≤◌, ◌+◌, Option}
use Rattle.mlt_page_locks.specs.Requests.{IsLowest, conflicts}
use Rattle.mlt_hash_access.specs.{LocalStates.LocalState, PageSteps.LocksPage, Views.view_of}
use Rattle.mlt_hash_pair.specs.Pairs.{IsFinding, IsUnderWay, PairFields, later_page, least_steps, mode_next, most_steps, page_next}
use Rattle.mlt_hash_pair.specs.{Descents.IsNext, Descents.pages_to_read, declared.descent.Descent.Descent, declared.answer.PairAnswer.PairAnswer}

-- where page q was read: a descent of which it was the next one has read it, and another is as it was
pub record ReadsOn (root q : ℕ) (before after : Descent) : Type 0 where
  pub next : IsNext root before q → pages_to_read after + 1 ≡ pages_to_read before
  pub other : (IsNext root before q → ⊥) → after ≡ before

-- The next page was locked and read, and that is all. The steps that are left are as many as before, but for this one.
pub record GoesOn (bits : ℕ → ℕ) (root : ℕ) (old new : LocalState) (before after : PairFields)
    : Type 0 where
  pub left_key : after.left ≡ before.left
  pub right_key : after.right ≡ before.right
  pub locks : LocksPage old new (page_next root before) (mode_next before)
  pub left : ReadsOn root (page_next root before) before.left_descent after.left_descent
  pub right : ReadsOn root (page_next root before) before.right_descent after.right_descent
  pub finding : IsFinding bits root after (view_of new)
  pub least : least_steps before.left_descent before.right_descent
      ≤ least_steps after.left_descent after.right_descent + 1
  pub most : most_steps after.left_descent after.right_descent + 1
      ≤ most_steps before.left_descent before.right_descent

-- the key is at its bucket, and has this value there, or none
abbrev pub HasFound : Descent → Option ℕ → Type 0
HasFound (Descent.AtBucket dir bucket found) value = found ≡ value
HasFound other value = ⊥

-- A step to the buckets goes on; or has found both values, with the later bucket read last; or
-- waits for the next page, told the lowest transaction whose lock stands against its own, and
-- nothing has changed.
abbrev pub TellsOfStep
    : (ℕ → ℕ) → ℕ → LocalState → LocalState → PairFields → PairFields → PairAnswer → Type 0
TellsOfStep bits root old new before after PairAnswer.Going =
    GoesOn bits root old new before after × IsUnderWay after
TellsOfStep bits root old new before after (PairAnswer.Waiting page by) =
    (page ≡ page_next root before)
    × IsLowest (conflicts old.locks old.running.tx page (mode_next before)) by
    × (new ≡ old) × (after ≡ before)
TellsOfStep bits root old new before after (PairAnswer.Found left right) =
    GoesOn bits root old new before after
    × HasFound after.left_descent left × HasFound after.right_descent right
    × (page_next root before ≡ later_page after)

-- what a step tells that has read its page
abbrev pub told_by : Descent → Descent → PairAnswer
told_by (Descent.AtBucket dir bucket found) (Descent.AtBucket dir' bucket' found') = PairAnswer.Found found found'
told_by left right = PairAnswer.Going
