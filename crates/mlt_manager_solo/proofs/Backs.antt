-- The ends of the transaction that alone is open: it commits, or is taken back
use Rattle.std.proofs.Common.{◌≡◌, ◌≤◌, ℕ, None, Some, Ok, length, refl, sym, ap, subst, ◌∙◌}
use Rattle.std.specs.FinMap as map
use Rattle.mlt_manager_solo.proofs.Names.{Refusal, Answer, At, Transaction, Table, inserted_elsewhere, removed_elsewhere, HasBegunAbort, HasClosed, HasCommitted, IsByAnother, IsIdle, IsOpenAt, IsUndoing, UndoingLeavesBase, IsManager, ManagerFields, TraceItem, one_there, HasOneIdle, HasOneUndoing, IsAtRest, KeepsCommitted}
use Rattle.mlt_manager_invariant.proofs.Tables.{removed_here}
use Rattle.mlt_manager.{specs.Undoings.GoesOnBack, specs.Undoings.IsCauseAtUndo, specs.Undoings.IsNotUndoing, specs.Undoings.StepsBackUpTo, proofs.Ended.abort_begun_keeps, proofs.Ended.closed_keeps, proofs.Ended.committed_keeps, proofs.Kept.whole_undo_kept}
use Rattle.mlt_manager_solo.proofs.Items.{backs_commit_none, commits_none, committed_by}
use Rattle.mlt_manager_solo.proofs.Steps.{StaysBeside, beside_both, changed_here, none_left, step_beside, steps_beside}

module _ {P : Type 0} (bits_of : P → ℕ → ℕ) (old new : ManagerFields P) (tx : ℕ) (one : HasOneIdle bits_of old tx) where
  ended_rests : IsManager bits_of new → new.txs ≡ map.remove old.txs tx → new.max_open ≡ old.max_open → IsAtRest bits_of new
  ended_rests manager txs limit =
      none_left bits_of IsIdle old new tx one manager (ap (λ (t : Table). map.get t tx) txs ∙ removed_here old.txs tx) (λ i ne. ap (λ (t : Table). map.get t i) txs ∙ removed_elsewhere old.txs tx i ne) limit

  -- **Once it committed, nobody is open.**
  pub committed_rests : (number : ℕ) → HasCommitted old new tx number → IsAtRest bits_of new
  committed_rests number c = ended_rests (committed_keeps bits_of old one.manager tx new number c) c.ends.txs (ap (λ (n : ManagerFields P). n.max_open) c.rest)

  -- **The same once it is closed,** and no more is committed.
  pub closed_rests : HasClosed old new tx → IsAtRest bits_of new
  closed_rests c = ended_rests (closed_keeps bits_of old one.manager tx new c) c.ends.txs (ap (λ (n : ManagerFields P). n.max_open) c.rest)

  pub closed_commits_none : HasClosed old new tx → KeepsCommitted old new
  closed_commits_none c = (ap committed_by c.ends.items ∙ commits_none old.shared.history.items (TraceItem.Abort tx) tt, ap (λ (n : ManagerFields P). n.commits) c.rest)

pub abort_begins : {P : Type 0} (bits_of : P → ℕ → ℕ) (old new : ManagerFields P) (tx : ℕ) → HasOneIdle bits_of old tx → HasBegunAbort old new tx → HasOneUndoing bits_of new tx × KeepsCommitted old new
abort_begins bits_of old new tx one a =
    let ch = a.puts.changes in (
      record {
        manager = abort_begun_keeps bits_of old one.manager tx new a;
        one = record { one = ch.after; there = changed_here tx old.txs new.txs ch; is_at = subst IsUndoing (sym (ap (λ (t : Transaction). t.at) a.puts.put)) tt };
        alone = λ i ne. ap (λ (t : Table). map.get t i) ch.is ∙ inserted_elsewhere old.txs tx ch.after i ne ∙ one.alone i ne;
        limit = subst (λ (n : ℕ). 1 ≤ n) (sym (ap (λ (n : ManagerFields _). n.max_open) a.rest)) one.limit;
      },
      (ap (λ (n : ManagerFields _). committed_by n.shared.history.items) a.rest, ap (λ (n : ManagerFields _). n.commits) a.rest),
    )

module _ {P : Type 0} (bits_of : P → ℕ → ℕ) (old new : ManagerFields P) (tx : ℕ) (one : HasOneUndoing bits_of old tx) where
  pub back_beside : (told : Answer) → StepsBackUpTo bits_of old new tx told → StaysBeside old new tx
  back_beside told s = beside_both (steps_beside bits_of GoesOnBack old s.before tx s.steps s.goes) (step_beside bits_of s.before new tx told s.ends)

  pub back_commits_nothing : StepsBackUpTo bits_of old new tx Answer.Aborted → UndoingLeavesBase Answer.Aborted old new tx → KeepsCommitted old new
  back_commits_nothing s base = (ap committed_by base.items ∙ backs_commit_none (length base.taken) old.shared.history.items tx, (back_beside Answer.Aborted s).commits)

  -- **At its end nobody is open.**
  pub aborted_rests : StepsBackUpTo bits_of old new tx Answer.Aborted → IsAtRest bits_of new
  aborted_rests s =
      let beside = back_beside Answer.Aborted s in
      none_left bits_of IsUndoing old new tx one (whole_undo_kept bits_of old new one.manager tx (Ok Answer.Aborted) (one.one, s))
      (ap (λ (n : ManagerFields P). map.get n.txs tx) s.ends.rest ∙ removed_here s.ends.txs tx) beside.others beside.limit

  -- **And it waits for nobody.**
  pub waits_for_nobody : (told : Answer) → StepsBackUpTo bits_of old new tx told → IsByAnother told new.txs tx → told ≡ Answer.Aborted
  waits_for_nobody (Answer.Waiting page by) s another =
      let none : map.get new.txs by ≡ None = (back_beside (Answer.Waiting page by) s).others by another.0 ∙ one.alone by another.0 in
      let both : Some another.1.one ≡ None = sym another.1.there ∙ none in absurd cc
  waits_for_nobody Answer.Aborted s another = refl
  waits_for_nobody other s another = absurd s.stops

-- what is undoing is to be undone
undoing_or_not : (a : At) → IsUndoing a → IsNotUndoing a → ⊥
undoing_or_not (At.Undoing inverting) is none = none
undoing_or_not other none also = none

pub undoing_is_undoing : (reason : Refusal) (txs : Table) (tx : ℕ) → IsOpenAt txs tx IsUndoing → IsCauseAtUndo reason txs tx → ⊥
undoing_is_undoing Refusal.NoSuchTx txs tx undoing none = let both : Some undoing.one ≡ None = sym undoing.there ∙ none in cc
undoing_is_undoing Refusal.NotRunning txs tx undoing other =
    undoing_or_not undoing.one.at undoing.is_at (subst (λ (t : Transaction). IsNotUndoing t.at) (one_there txs tx other.one undoing.one other.there undoing.there) other.is_at)
undoing_is_undoing other txs tx undoing none = none
