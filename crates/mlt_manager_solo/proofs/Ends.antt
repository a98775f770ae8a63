-- How the transaction that alone is open ends
use Rattle.std.proofs.Common.{◌≡◌, true, false, Ok, Err, ℕ, refl, subst}
use Rattle.mlt_manager_solo.proofs.Names.{Refusal, Answer, HasBegunAbort, HasClosed, IsByAnother, IsIdle, IsUndoing, counted, UndoingLeavesBase, ManagerFields, HasOneIdle, HasOneUndoing, IsAtRest, IsTakenBack}
use Rattle.mlt_manager.specs.Undoings.{AnswersWholeUndo}
use Rattle.mlt_manager_solo.proofs.Backs.{abort_begins, aborted_rests, back_commits_nothing, closed_commits_none, closed_rests, undoing_is_undoing, waits_for_nobody}
use Rattle.mlt_manager_solo.proofs.Scripts.{counted_one, none_committed}

-- **It had nothing to take back,** and is closed at once
pub closes_it : {P : Type 0} (bits_of : P → ℕ → ℕ) (old new : ManagerFields P) (tx : ℕ) → HasOneIdle bits_of old tx → HasClosed (counted old) new tx → IsAtRest bits_of new × IsTakenBack bits_of old new tx
closes_it bits_of old new tx one c =
    let counts = counted_one bits_of IsIdle old tx one in
    (closed_rests bits_of (counted old) new tx counts c, record { closed = true; run = (new, c, refl); keeps = closed_commits_none bits_of (counted old) new tx counts c })

-- **Its abort begins,** and comes to its end
module _ {P : Type 0} (bits_of : P → ℕ → ℕ) (old mid new : ManagerFields P) (tx : ℕ) (one : HasOneIdle bits_of old tx) (begins : HasBegunAbort (counted old) mid tx) where
  undoing : HasOneUndoing bits_of (counted mid) tx
  undoing = counted_one bits_of IsUndoing mid tx (abort_begins bits_of (counted old) mid tx (counted_one bits_of IsIdle old tx one) begins).0

  pub undoes_it : (told : Answer) → AnswersWholeUndo bits_of (counted mid) new tx (Ok told) → UndoingLeavesBase told (counted mid) new tx → IsByAnother told new.txs tx → IsAtRest bits_of new × IsTakenBack bits_of old new tx
  undoes_it told a base another =
      let is : told ≡ Answer.Aborted = waits_for_nobody bits_of (counted mid) new tx undoing told a.1 another in
      let ended : AnswersWholeUndo bits_of (counted mid) new tx (Ok Answer.Aborted) = subst (λ (t : Answer). AnswersWholeUndo bits_of (counted mid) new tx (Ok t)) is a in
      let based : UndoingLeavesBase Answer.Aborted (counted mid) new tx = subst (λ (t : Answer). UndoingLeavesBase t (counted mid) new tx) is base in (
        aborted_rests bits_of (counted mid) new tx undoing ended.1,
        record {
          closed = false;
          run = (mid, begins, (new, (ended, based, tt), refl));
          keeps = none_committed bits_of old mid new (abort_begins bits_of (counted old) mid tx (counted_one bits_of IsIdle old tx one) begins).1 (back_commits_nothing bits_of (counted mid) new tx undoing ended.1 based);
        },
      )

  pub undo_is_told : (reason : Refusal) → AnswersWholeUndo bits_of (counted mid) new tx (Err reason) → ⊥
  undo_is_told reason a = undoing_is_undoing reason mid.txs tx undoing.one a.0
