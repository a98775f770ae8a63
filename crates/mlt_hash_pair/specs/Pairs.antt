-- Where a pair on its way stands, by the descents of its two keys: which pages it holds, and what it has read of them
use Rattle.std.specs.Prelude.{ℕ, ◌≡◌, ◌≢◌, ◌<◌, ◌≤◌, ◌+◌, ◌*◌, ◌⊎◌, ◌↔◌, ◌==◌, nat_lt, if◌then◌else◌, Option, None, Some}
use Rattle.std.specs.FinMap as map
use Rattle.mlt_types.specs.declared.mode.Mode.{Mode}
use Rattle.mlt_hash_form.specs.{File.GivesPseudokeys, Plans.WriteFields}
use Rattle.mlt_hash_access.specs.{LocalStates.HasCleanFile, LocalStates.MayStep, LocalStates.LocalState, Views.IsUnwritten, Views.View, Views.view_of}
use Rattle.mlt_hash_pair.specs.{Reading.next_mode, Reading.next_page, Reading.next_descent, Descents.HasRead, Descents.IsLocked, Descents.IsThere, Descents.page_of, declared.descent.Descent.Descent}

-- what a pair reads by: the function of keys, and the header's page
pub record FileRoot : Type 0 where
  pub bits : ℕ → ℕ
  pub root : ℕ

-- what a contract sees of a pair: its keys, how far each is, and the change of the earlier bucket that is still to be written
pub record PairFields : Type 0 where
  pub left : ℕ
  pub right : ℕ
  pub left_descent : Descent
  pub right_descent : Descent
  pub owed : Option WriteFields

-- a pair that has read nothing
abbrev pub find_by : ℕ → ℕ → PairFields
find_by left right =
    record { left = left; right = right; left_descent = Descent.Start; right_descent = Descent.Start; owed = None }

-- The two descents go on together: both read the header; then the pages of the directory come before the buckets; and where one
-- bucket is read and the other is not, the first has the lower page.
abbrev pub GoTogether : Descent → Descent → Type 0
GoTogether Descent.Start Descent.Start = Unit {0}
GoTogether (Descent.Headed place dir row) (Descent.Headed place' dir' row') = Unit {0}
GoTogether (Descent.Headed place dir row) (Descent.Placed dir' bucket') = Unit {0}
GoTogether (Descent.Placed dir bucket) (Descent.Headed place' dir' row') = Unit {0}
GoTogether (Descent.Placed dir bucket) (Descent.Placed dir' bucket') = Unit {0}
GoTogether (Descent.Placed dir bucket) (Descent.AtBucket dir' bucket' found') = bucket' < bucket
GoTogether (Descent.AtBucket dir bucket found) (Descent.Placed dir' bucket') = bucket < bucket'
GoTogether (Descent.AtBucket dir bucket found) (Descent.AtBucket dir' bucket' found') = Unit {0}
GoTogether descent other = ⊥

-- a page for each descent, which is one step where it is one page
abbrev pub steps_for : ℕ → ℕ → ℕ
steps_for page other = if page == other then 1 else 2

-- how many steps a pair still takes until it has found both keys, those that wait aside: at least, and at most where `more`
-- is 1
abbrev pub steps_to_both : ℕ → Descent → Descent → ℕ
steps_to_both more Descent.Start other = 3 + 2 * more
steps_to_both more (Descent.Headed place dir row) (Descent.Headed place' dir' row') = steps_for dir dir' + (1 + more)
steps_to_both more (Descent.Headed place dir row) other = 2 + more
steps_to_both more (Descent.Placed dir bucket) (Descent.Placed dir' bucket') = steps_for bucket bucket'
steps_to_both more (Descent.Placed dir bucket) (Descent.AtBucket dir' bucket' found') = 1
steps_to_both more (Descent.Placed dir bucket) other = 2 + more
steps_to_both more (Descent.AtBucket dir bucket found) (Descent.AtBucket dir' bucket' found') = 0
steps_to_both more (Descent.AtBucket dir bucket found) other = 1

abbrev pub least_steps : Descent → Descent → ℕ
least_steps left right = steps_to_both 0 left right

abbrev pub most_steps : Descent → Descent → ℕ
most_steps left right = steps_to_both 1 left right

-- a key is not at its bucket yet
abbrev pub IsUnderWay : PairFields → Type 0
IsUnderWay pair = 0 < most_steps pair.left_descent pair.right_descent

-- both keys are found
abbrev pub IsFound : PairFields → Type 0
IsFound pair = IsThere pair.left_descent × IsThere pair.right_descent

-- the later of two pages
abbrev pub later_of : ℕ → ℕ → ℕ
later_of left right = if nat_lt left right then right else left

-- the later of the pages of the two buckets, which is read last
abbrev pub later_page : PairFields → ℕ
later_page pair = later_of (page_of pair.left_descent) (page_of pair.right_descent)

-- the page that the pair locks next, and its mode
abbrev pub page_next : ℕ → PairFields → ℕ
page_next root pair = next_page root (next_descent pair.left_descent pair.right_descent)

abbrev pub mode_next : PairFields → Mode
mode_next pair = next_mode (next_descent pair.left_descent pair.right_descent)

-- Which pages are held: exactly those of the two descents, each in its mode.
abbrev pub HoldsDescents : ℕ → Descent → Descent → View → Type 0
HoldsDescents root left right view =
    (q : ℕ) (mode : Mode)
    → (map.get view.modes q ≡ Some mode) ↔ (IsLocked root left q mode ⊎ IsLocked root right q mode)

-- A pair is on its way, or has found its keys, and has written nothing.
pub record IsFinding (bits : ℕ → ℕ) (root : ℕ) (pair : PairFields) (view : View) : Type 0 where
  pub apart : pair.left ≢ pair.right
  pub none_owed : pair.owed ≡ None
  pub together : GoTogether pair.left_descent pair.right_descent
  pub left : HasRead bits root pair.left view pair.left_descent
  pub right : HasRead bits root pair.right view pair.right_descent
  pub unwritten : IsUnwritten view
  pub holds : HoldsDescents root pair.left_descent pair.right_descent view
  pub few : map.len view.modes + most_steps pair.left_descent pair.right_descent ≤ 5

-- What a step of a pair asks: the transaction may step, the clean pages are a hash file, and the pair is on its way.
pub record MayFind (bits : ℕ → ℕ) (root : ℕ) (m : LocalState) (pair : PairFields) : Type 0 where
  pub bounded : GivesPseudokeys bits
  pub may : MayStep m
  pub file : HasCleanFile bits root m
  pub finding : IsFinding bits root pair (view_of m)
