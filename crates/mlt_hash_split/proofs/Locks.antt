-- What a step of a split leaves locked
use Rattle.std.proofs.Common.{ℕ, ◌≡◌, ◌⊎◌, true, is_some, None, Some, sym, ◌∙◌, ap, subst, inl, inr, arith}
use Rattle.mlt_hash_split.proofs.Names.{cases_eq, nat_tests, Exclusive, page_at, stronger_exclusive, MayStep, LocalState, view_of, view_over, write_writes, SplitTarget, SplitFields, IsDone, IsLeft, IsMaking, IsNextPage, SplitPhase, SplitAnswer}
use Rattle.mlt_page_locks.{proofs.LockLaws.mode_held-granted, specs.LockTables.LockTable, specs.LockTables.mode_held, specs.Requests.granted, specs.Requests.stronger}
use Rattle.mlt_hash_access.proofs.Views.{make_makes}
use Rattle.mlt_hash_split.specs.Steps.{Touches}

granted_here : (table : LockTable) (tx q : ℕ) → mode_held (granted table tx q Exclusive) tx q ≡ Some Exclusive
granted_here table tx q =
    let is : mode_held (granted table tx q Exclusive) tx q ≡ Some (stronger (mode_held table tx q) Exclusive) = grind (arith, nat_tests, mode_held-granted table tx q Exclusive tx q) in
    is ∙ ap Some (stronger_exclusive (mode_held table tx q))

granted_elsewhere : (table : LockTable) (tx q p : ℕ) → (p ≡ q → ⊥) → mode_held (granted table tx q Exclusive) tx p ≡ mode_held table tx p
granted_elsewhere table tx q p ne = grind (arith, nat_tests, mode_held-granted table tx q Exclusive tx p)

-- page p is held as before, or exclusively, and is one of these
abbrev IsHeldAs : LocalState → LocalState → (ℕ → Type 0) → ℕ → Type 0
IsHeldAs old new Is p = (mode_held new.locks old.running.tx p ≡ mode_held old.locks old.running.tx p) ⊎ ((mode_held new.locks old.running.tx p ≡ Some Exclusive) × Is p)

module _ (old new : LocalState) (Is : ℕ → Type 0) (p : ℕ) where
  -- nothing is locked,
  held_as_before : new.locks ≡ old.locks → IsHeldAs old new Is p
  held_as_before same = inl (ap (λ (t : LockTable). mode_held t old.running.tx p) same)

  -- or a page
  held_as_locked : (q : ℕ) → Is q → new.locks ≡ granted old.locks old.running.tx q Exclusive → IsHeldAs old new Is p
  held_as_locked q is locks =
      elim (cases_eq p q) [
        | inl here ↦ inr (subst (λ (p : ℕ). (mode_held new.locks old.running.tx p ≡ Some Exclusive) × Is p) (sym here) (ap (λ (t : LockTable). mode_held t old.running.tx q) locks ∙ granted_here old.locks old.running.tx q, is))
        | inr elsewhere ↦ inl (ap (λ (t : LockTable). mode_held t old.running.tx p) locks ∙ granted_elsewhere old.locks old.running.tx q p elsewhere)
      ]

-- the pages that a step may lock
abbrev MayLock : SplitPhase → SplitTarget → LocalState → ℕ → Type 0
MayLock phase target old p = IsNextPage phase target (view_over target.before old) p ⊎ (IsMaking phase × (page_at old.store.pages p ≡ None))

-- a step that was done,
done_locks : (phase : SplitPhase) (target : SplitTarget) (old new : LocalState) (split : SplitFields) (p : ℕ) → IsDone phase target old new split → IsHeldAs old new (MayLock phase target old) p
done_locks SplitPhase.OldBucket target old new split p done = held_as_before old new (MayLock SplitPhase.OldBucket target old) p done.1.locks
done_locks (SplitPhase.InPlace place end) target old new split p done = held_as_locked old new (MayLock (SplitPhase.InPlace place end) target old) p done.0 (inl done.1) (done.2.2.1.locks ∙ done.2.1.locks)
done_locks (SplitPhase.Double place) target old new split p done = held_as_locked old new (MayLock (SplitPhase.Double place) target old) p done.0 (inl done.1) (done.2.2.1.locks ∙ done.2.1.locks)
done_locks (SplitPhase.SecondHalf place) target old new split p done = held_as_locked old new (MayLock (SplitPhase.SecondHalf place) target old) p done.0 (inr (tt, done.2.fresh)) done.2.locks
done_locks SplitPhase.Header target old new split p done = held_as_before old new (MayLock SplitPhase.Header target old) p done.1.locks

-- and one that was refused
left_locks : (phase : SplitPhase) (target : SplitTarget) (old new : LocalState) (p : ℕ) → IsLeft phase target old new → IsHeldAs old new (MayLock phase target old) p
left_locks SplitPhase.OldBucket target old new p left = held_as_before old new (MayLock SplitPhase.OldBucket target old) p (ap (λ (m : LocalState). m.locks) left)
left_locks (SplitPhase.InPlace place end) target old new p left = held_as_locked old new (MayLock (SplitPhase.InPlace place end) target old) p left.0 (inl left.1) left.2.locks
left_locks (SplitPhase.Double place) target old new p left = held_as_locked old new (MayLock (SplitPhase.Double place) target old) p left.0 (inl left.1) left.2.locks
left_locks (SplitPhase.SecondHalf place) target old new p left = held_as_before old new (MayLock (SplitPhase.SecondHalf place) target old) p (ap (λ (m : LocalState). m.locks) left)
left_locks SplitPhase.Header target old new p left = held_as_before old new (MayLock SplitPhase.Header target old) p (ap (λ (m : LocalState). m.locks) left)

-- **A step of a split locks no page but its own.**
pub locks_its_page_alone : (told : SplitAnswer) (target : SplitTarget) (old new : LocalState) (split : SplitFields) (p : ℕ) → Touches told target old new split → IsHeldAs old new (MayLock split.phase target old) p
locks_its_page_alone SplitAnswer.Going target old new split p done = done_locks split.phase target old new split p done
locks_its_page_alone (SplitAnswer.Closed n) target old new split p done = done_locks split.phase target old new split p done
locks_its_page_alone (SplitAnswer.Waiting n by) target old new split p same = held_as_before old new (MayLock split.phase target old) p (ap (λ (m : LocalState). m.locks) same)
locks_its_page_alone (SplitAnswer.Refused reason) target old new split p left = left_locks split.phase target old new p left

-- the page is written
abbrev IsWrittenIn : LocalState → ℕ → Type 0
IsWrittenIn new p = is_some ((view_of new).own p) ≡ true

-- **What a step locks that was done it has written or made.**
pub done_writes_what_it_locks : (phase : SplitPhase) (target : SplitTarget) (old new : LocalState) (split : SplitFields) (p : ℕ) → MayStep old → IsDone phase target old new split → IsHeldAs old new (IsWrittenIn new) p
done_writes_what_it_locks SplitPhase.OldBucket target old new split p may done = held_as_before old new (IsWrittenIn new) p done.1.locks
done_writes_what_it_locks (SplitPhase.InPlace place end) target old new split p may done = held_as_locked old new (IsWrittenIn new) p done.0 (ap is_some (write_writes done.2.0 new done.0 done.2.2.0 done.2.2.1).here) (done.2.2.1.locks ∙ done.2.1.locks)
done_writes_what_it_locks (SplitPhase.Double place) target old new split p may done = held_as_locked old new (IsWrittenIn new) p done.0 (ap is_some (write_writes done.2.0 new done.0 done.2.2.0 done.2.2.1).here) (done.2.2.1.locks ∙ done.2.1.locks)
done_writes_what_it_locks (SplitPhase.SecondHalf place) target old new split p may done = held_as_locked old new (IsWrittenIn new) p done.0 (ap is_some (make_makes old new done.0 done.1 may done.2).own_here) done.2.locks
done_writes_what_it_locks SplitPhase.Header target old new split p may done = held_as_before old new (IsWrittenIn new) p done.1.locks
