-- What a step of a split does, at the phase that it is in
use Rattle.std.proofs.Common.{◌≡◌, ℕ, sym, subst}
use Rattle.mlt_hash_split.proofs.Names.{Page, LocalState, WritesHeldPage, view_over, SplitTarget, SplitFields, IsDone, IsLeft, IsMaking, IsNextPage, SplitPhase}

module _ (target : SplitTarget) (old new : LocalState) (split : SplitFields) (phase : SplitPhase) (is : split.phase ≡ phase) where
  pub done_at : IsDone phase target old new split → IsDone split.phase target old new split
  done_at done = subst (λ (p : SplitPhase). IsDone p target old new split) (sym is) done

  pub left_at : IsLeft phase target old new → IsLeft split.phase target old new
  left_at left = subst (λ (p : SplitPhase). IsLeft p target old new) (sym is) left

  pub next_page_at : (n : ℕ) → IsNextPage phase target (view_over target.before old) n → IsNextPage split.phase target (view_over target.before old) n
  next_page_at n next = subst (λ (p : SplitPhase). IsNextPage p target (view_over target.before old) n) (sym is) next

-- only a second half is made
pub makes_second_half : (phase : SplitPhase) (place : ℕ) → phase ≡ SplitPhase.SecondHalf place → IsMaking phase
makes_second_half phase place is = subst IsMaking (sym is) tt

-- the header is written where the caller says it is
pub header_is_written : (old new : LocalState) (q root : ℕ) (p : Page) → q ≡ root → WritesHeldPage old new q p → (page : Page) × WritesHeldPage old new root page
header_is_written old new q root p is writes = (p, subst (λ (q : ℕ). WritesHeldPage old new q p) is writes)
