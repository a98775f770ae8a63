-- How many pages there are as a transaction alone splits
use Rattle.std.proofs.Common.{◌≡◌, ℕ, ◌<◌, ◌≤◌, ◌+◌, ◌*◌, ◌-◌, ◌^◌, Option, refl, ap, ◌∙◌, arith, pow-add}
use Rattle.std.specs.FinMap as map
use Rattle.mlt_hash_file.proofs.Names.{LocalState, MayStep, left_from, pages_to_make, SplitTarget, SplitFields, steps_left_at, IsDone, PageStore, BucketFields, Page, writer_reads, Exclusive, nat_tests}
use Rattle.std.{proofs.Math.Nat.pow-le-pow_right, specs.Cmp.nat_cmp_total}
use Rattle.mlt_hash_access.{proofs.LocalStates.may_after_lock, specs.PageSteps.MakesLockedPage, specs.PageSteps.WritesHeldPage}
use Rattle.mlt_hash_split.specs.{Splits.StandsAt, Steps.IsMaking, Steps.LocksAndWrites, declared.phase.SplitPhase.SplitPhase}
use Rattle.mlt_hash.proofs.OpenedFiles.{fresh_is_one_more}
use Rattle.mlt_hash_file.specs.SplitPages.{gained_from, gained_pages}

rising : (m n : ℕ) → m ≤ n → 2 ^ m ≤ 2 ^ n
rising m n le = pow-le-pow_right {n = 2} (omega arith) le

twice : (m n : ℕ) → m ≡ 1 + n → 2 ^ m ≡ 2 * 2 ^ n
twice m n one_more = ap (λ k. 2 ^ k) one_more ∙ pow-add 2 1 n

-- once it is closed, the pages that are left are those of the splits after it
closes_with_the_rest : (l g g' d left : ℕ) → l ≤ g → ((l ≡ g → ⊥) → g' ≡ g) → (l ≡ g → g' ≡ g + 1) → pages_to_make (l + 1) g' d ≤ (d - (l + 1)) + left + (2 ^ (d - 8) - (2 ^ (g - 8) + gained_pages l g))
closes_with_the_rest l g g' d left within in_place doubled = grind (arith, within, in_place, doubled, rising (g - 8) (l + 1 - 8), rising (l + 1 - 8) (g - 8))

-- a directory that isn't doubled, or stays on one page, gains no page
gains_none : (l g : ℕ) → l ≤ g → (l ≡ g → g < 8) → gained_pages l g ≡ 0
gains_none l g within small = grind (arith, within, small, rising (l + 1 - 8) (g - 8))

-- and one that is doubled as many as it has
gains_as_many : (l g : ℕ) → l ≡ g → 8 ≤ g → gained_pages l g ≡ 2 ^ (g - 8)
gains_as_many l g same large = grind (arith, same, large, twice (l + 1 - 8) (g - 8))

gained_is_most : (phase : SplitPhase) (gained : ℕ) → gained_from phase gained ≤ gained
gained_is_most phase gained = grind arith

-- where a split may stand, as far as its pages are concerned
abbrev pub MayStandAt : SplitPhase → ℕ → ℕ → Type 0
MayStandAt (SplitPhase.InPlace place end) l g = l < g
MayStandAt (SplitPhase.SecondHalf place) l g = (l ≡ g) × (8 ≤ g) × (place < 2 ^ (g - 8))
MayStandAt other l g = Unit {0}

-- **A step that writes a page leaves as many to make,**
writes_on : (l g : ℕ) (before after : SplitPhase) → l ≤ g → MayStandAt before l g → steps_left_at l g after + 1 ≡ steps_left_at l g before → ((place : ℕ) → before ≡ SplitPhase.SecondHalf place → ⊥) → gained_from after (gained_pages l g) ≤ gained_from before (gained_pages l g)
writes_on l g before after within may steps writes = grind (arith, nat_tests, within, may, steps, writes, gains_none l g within, gains_as_many l g, twice (g - 7) (g - 8))

-- **and one that makes a page one less.**
makes_on : (l g place : ℕ) (after : SplitPhase) → MayStandAt (SplitPhase.SecondHalf place) l g → steps_left_at l g after + 1 ≡ steps_left_at l g (SplitPhase.SecondHalf place) → gained_from after (gained_pages l g) + 1 ≤ gained_from (SplitPhase.SecondHalf place) (gained_pages l g)
makes_on l g place after may steps = grind (arith, nat_tests, may.0, may.1, may.2, steps, gains_as_many l g, twice (g - 7) (g - 8))

-- where a page is to be made, one is left to make
pub one_is_left : (phase : SplitPhase) (l g d : ℕ) → MayStandAt phase l g → IsMaking phase → 1 ≤ left_from l g d phase
one_is_left phase l g d may making = grind (arith, may, making, gains_as_many l g)

-- **A split that begins makes a page, and leaves the others.**
pub begun : (l g d : ℕ) (phase : SplitPhase) → l < d → left_from l g d phase + 1 ≤ pages_to_make l g d
begun l g d phase deep = grind (arith, deep, rising (l + 1 - 8) (d - 8), gained_is_most phase (gained_pages l g))

-- a page that is written was there
held_written : (old new : LocalState) (q : ℕ) (p : Page) → MayStep old → WritesHeldPage old new q p → map.len new.store.pages ≡ map.len old.store.pages
held_written old new q p may writes = grind (arith, may.locks_there old.running.tx q, writer_reads old.locks old.running.tx q, writes.held, writes.store, map.len-insert nat_cmp_total old.store.pages q p)

locked_written : (target : SplitTarget) (old new : LocalState) (place : ℕ) → MayStep old → LocksAndWrites target old new place → map.len new.store.pages ≡ map.len old.store.pages
locked_written target old new place may done =
    held_written done.2.0 new done.0 done.2.2.0 (may_after_lock old done.2.0 done.0 Exclusive may done.2.1) done.2.2.1 ∙ ap (λ (s : PageStore). map.len s.pages) done.2.1.store

-- a page that is made is one more
pub made : (old new : LocalState) (q : ℕ) (p : Page) → MakesLockedPage old new q p → map.len new.store.pages ≡ map.len old.store.pages + 1
made old new q p makes = ap (λ (s : PageStore). map.len s.pages) makes.store ∙ fresh_is_one_more old.store.pages q p makes.fresh

-- where a split stands, as far as its pages are concerned
pub may_stand : (phase : SplitPhase) (target : SplitTarget) (splitters : _) (base pages : ℕ → Option Page) (split : SplitFields) (bucket : BucketFields) → StandsAt phase target splitters base pages split bucket → MayStandAt phase split.depth split.directory_depth
may_stand (SplitPhase.InPlace place end) target splitters base pages split bucket stands = stands.shallow
may_stand (SplitPhase.SecondHalf place) target splitters base pages split bucket stands = (stands.deep, stands.long, stands.more)
may_stand other target splitters base pages split bucket stands = tt

module _ (target : SplitTarget) (old new : LocalState) (split : SplitFields) (l g d : ℕ) (may : MayStep old) (within : l ≤ g) where
  -- a step makes no page, unless it is to make one
  writes : (before : SplitPhase) → ((place : ℕ) → before ≡ SplitPhase.SecondHalf place → ⊥) → IsDone before target old new split → map.len new.store.pages ≡ map.len old.store.pages
  writes SplitPhase.OldBucket other done = held_written old new split.old_page done.0 may done.1
  writes (SplitPhase.InPlace place end) other done = locked_written target old new place may done
  writes (SplitPhase.Double place) other done = locked_written target old new place may done
  writes (SplitPhase.SecondHalf place) other done = absurd (other place refl)
  writes SplitPhase.Header other done = held_written old new target.root done.0 may done.1

  -- **A step of a split leaves the number of pages that it leads to,**
  pub pages_go_on : (before after : SplitPhase) → MayStandAt before l g → steps_left_at l g after + 1 ≡ steps_left_at l g before → IsDone before target old new split → map.len new.store.pages + left_from l g d after ≤ map.len old.store.pages + left_from l g d before
  pages_go_on (SplitPhase.SecondHalf place) after stands steps done = omega (arith, makes_on l g place after stands steps, made old new done.0 done.1 done.2)
  pages_go_on other after stands steps done = omega (arith, writes_on l g other after within stands steps (λ place is. cc), writes other (λ place is. cc) done)

  -- **and so does its last one.**
  pub pages_close : (before : SplitPhase) (g' : ℕ) → steps_left_at l g before ≡ 1 → ((l ≡ g → ⊥) → g' ≡ g) → (l ≡ g → g' ≡ g + 1) → IsDone before target old new split → map.len new.store.pages + pages_to_make (l + 1) g' d ≤ map.len old.store.pages + left_from l g d before
  pages_close before g' last in_place doubled done =
      let rest = closes_with_the_rest l g g' d (gained_from before (gained_pages l g)) within in_place doubled in
      omega (arith, rest, writes before (λ place is. omega (arith, last, ap (steps_left_at l g) is)) done)
