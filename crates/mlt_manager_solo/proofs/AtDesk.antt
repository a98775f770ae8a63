-- Scripts at a desk over a manager of which nobody else is open
use Rattle.std.proofs.Common.{◌≡◌, ℕ, [], ◌∷◌, true, false, Result, Ok, Err, inl, inr, refl, sym, subst, ◌∙◌}
use Rattle.mlt_manager_solo.proofs.Names.{Refusal, Transcript, ObjOp, ObjReply, Ending, ScriptForm, End, Committed, Aborted, Refused, Answer, Event, Told, counted, Meets, ManagerFields, HasOneIdle, IsAtRest, CanMark, HasAsked, HasRunScript, IsRefused, IsTakenBack, done_by, IsIdle, begun_by}
use Rattle.mlt_script.specs.declared.statement.Ending.TheVariants.{Commit, Abort}
use Rattle.mlt_script_serial.specs.{declared.call.DeskAnswer.DeskAnswer, Calls.Moves, Calls.answer_by, Plays.Gives, Plays.PlaysAt, DeskRuns.ClosesAs, DeskRuns.IsRunAt, DeskRuns.refusal_of_script}
use Rattle.mlt_manager_solo.specs.Desks.{MeetsCall, MeetsUndoing, reply_told, undoing_told}
use Rattle.mlt_manager_solo.proofs.{Backs.committed_rests, Ends.closes_it, Ends.undo_is_told, Ends.undoes_it, Wholes.idle_is_idle, Wholes.run_beside, Wholes.stands_behind_nobody}
use Rattle.mlt_manager_solo.proofs.Scripts.{asked_done, asked_in_vain, asked_on, asked_refused, begun_alone, begun_asked, counted_one, ended_aborted, ended_committed, ended_refused, run_not_begun}

-- what a script may be marked with is what it is refused with
marks_itself : (reason : Refusal) → CanMark reason → refusal_of_script reason ≡ reason
marks_itself Refusal.NoSuchTx can = absurd can
marks_itself Refusal.Undoing can = absurd can
marks_itself Refusal.Running can = absurd can
marks_itself other can = refl

module _ {P : Type 0} (bits_of : P → ℕ → ℕ) where
  module _ (old new : ManagerFields P) (tx : ℕ) (op : ObjOp) (one : HasOneIdle bits_of old tx) where
    -- **An operation that answers a reply is done.**
    done_so : (said : Told) (reply : ObjReply) → DeskAnswer.Replied reply ≡ answer_by DeskAnswer.Replied (reply_told said) → Meets bits_of (Event.Whole tx op) said (counted old) new
        → HasOneIdle bits_of new tx × HasAsked bits_of old new ((op, reply) ∷ []) (done_by tx ((op, reply) ∷ []))
    done_so (Told.Answered (Answer.Done r)) reply h meets = let same : reply ≡ r = cc h in rw same (asked_done bits_of old new tx op one r meets)
    done_so other reply h meets = absurd (cc h)

    -- **One that answers a refusal was told it,** and waits for nobody.
    refused_by : (said : Told) (reason : Refusal) → DeskAnswer.Refused reason ≡ answer_by DeskAnswer.Replied (reply_told said) → Meets bits_of (Event.Whole tx op) said (counted old) new
        → HasOneIdle bits_of new tx × IsRefused bits_of old new tx op reason
    refused_by (Told.Refused r) reason h meets = let same : reason ≡ r = cc h in rw same (asked_in_vain bits_of old new tx op one r meets)
    refused_by (Told.Answered (Answer.Refused r)) reason h meets = let same : reason ≡ r = cc h in rw same (asked_refused bits_of old new tx op one r meets)
    refused_by (Told.Answered (Answer.Done r)) reason h meets = absurd (cc h)
    refused_by (Told.Answered other) reason h meets =
        absurd (stands_behind_nobody _ _ _ _ other (counted_one _ _ _ _ one) (run_beside _ _ _ _ _ _ meets.0) meets.2 (λ r e. cc e) (λ r e. cc e) meets.0.runs.steps.stops)
    refused_by other reason h meets = absurd meets

  -- **An abort takes the transaction back.**
  back_by : (old middle new : ManagerFields P) (tx : ℕ) → HasOneIdle bits_of old tx → (t : Told) → Meets bits_of (Event.Abort tx) t (counted old) middle → MeetsUndoing bits_of (undoing_told t) middle tx new
      → IsAtRest bits_of new × IsTakenBack bits_of old new tx
  back_by old middle new tx one (Told.Aborting true) meets same =
      subst (λ (m : ManagerFields P). IsAtRest bits_of m × IsTakenBack bits_of old m tx) (sym same) (closes_it bits_of old middle tx one meets)
  back_by old middle new tx one (Told.Aborting false) meets (Told.Answered a, undoes) = undoes_it bits_of old middle new tx one meets a undoes.0 undoes.1 undoes.2
  back_by old middle new tx one (Told.Aborting false) meets (Told.Refused reason, undoes) = absurd (undo_is_told bits_of old middle new tx one meets reason undoes)
  back_by old middle new tx one (Told.Aborting false) meets (other, undoes) = absurd undoes
  back_by old middle new tx one (Told.Refused reason) meets same = absurd (idle_is_idle reason old.txs tx one.one meets.0)
  back_by old middle new tx one other meets same = absurd meets

  -- any desk whose calls are those of its manager
  module _ {D : Type 0} (manager_of : D → ManagerFields P) where
    abbrev moves_of : Moves D
    moves_of old call answer new = MeetsCall bits_of (manager_of old) call answer (manager_of new)

    -- **The operations of the transcript are done.**
    gives_asked : (tx : ℕ) (d : D) (t : Transcript) (e : D) → HasOneIdle bits_of (manager_of d) tx → Gives moves_of tx d t e
        → HasOneIdle bits_of (manager_of e) tx × HasAsked bits_of (manager_of d) (manager_of e) t (done_by tx t)
    gives_asked tx d [] e one same =
        subst (λ (z : D). HasOneIdle bits_of (manager_of z) tx × HasAsked bits_of (manager_of d) (manager_of z) [] (done_by tx [])) same
        (one, record { run = refl; leads = λ base leads. (base, refl, leads); keeps = (refl, refl) })
    gives_asked tx d (x ∷ t) e one (m, answers, gives) =
        let first = done_so (manager_of d) (manager_of m) tx x.0 one answers.said x.1 answers.answers answers.meets in
        let later = gives_asked tx m t e first.0 gives in
        (later.0, asked_on bits_of (manager_of d) (manager_of m) (manager_of e) (x ∷ []) t (done_by tx (x ∷ [])) (done_by tx t) first.1 later.1)

    gives_all : (old : ManagerFields P) (tx : ℕ) (d : D) (t : Transcript) (e : D) → HasOneIdle bits_of (manager_of d) tx → HasAsked bits_of old (manager_of d) [] (begun_by tx []) → Gives moves_of tx d t e
        → HasOneIdle bits_of (manager_of e) tx × HasAsked bits_of old (manager_of e) t (begun_by tx t)
    gives_all old tx d t e one begun gives =
        let asked = gives_asked tx d t e one gives in
        (asked.0, asked_on bits_of old (manager_of d) (manager_of e) [] t (begun_by tx []) (done_by tx t) begun asked.1)

    -- **The script is played and closed.**
    closed_alone : (s : ScriptForm) (old : ManagerFields P) (tx : ℕ) (d m : D) (t : Transcript) (ended : Result Ending Refusal) (end : End) (e : D) → IsAtRest bits_of old → HasOneIdle bits_of (manager_of d) tx
        → HasAsked bits_of old (manager_of d) [] (begun_by tx []) → PlaysAt moves_of s tx d t ended m → ClosesAs moves_of tx ended m end e
        → IsAtRest bits_of (manager_of e) × HasRunScript bits_of s old (manager_of e) tx t end
    closed_alone s old tx d m t (Ok Commit) (Committed number) e rest one begun plays closes =
        let asked = gives_all old tx d t m one begun plays.1 in (
          committed_rests bits_of (counted (manager_of m)) (manager_of e) tx (counted_one bits_of IsIdle (manager_of m) tx asked.0) number closes,
          ended_committed bits_of s old (manager_of m) (manager_of e) tx number t asked.0 plays.0 asked.1 closes,
        )
    closed_alone s old tx d m t (Ok Commit) (Refused other) e rest one begun plays (reason, same, (n, commits, aborts)) =
        absurd (idle_is_idle reason (manager_of m).txs tx (gives_all old tx d t m one begun plays.1).0.one commits.0)
    closed_alone s old tx d m t (Ok Abort) Aborted e rest one begun plays closes =
        let asked = gives_all old tx d t m one begun plays.1 in
        let back = back_by (manager_of m) closes.middle (manager_of e) tx asked.0 closes.said closes.meets closes.undoes in
        (back.0, ended_aborted bits_of s old (manager_of m) (manager_of e) tx t rest plays.0 asked.1 back.1 back.0)
    closed_alone s old tx d m t (Err reason) (Refused other) e rest one begun plays (same, aborts) =
        let asked = gives_all old tx d t plays.middle one begun plays.gives in
        let refused = refused_by (manager_of plays.middle) (manager_of m) tx plays.op asked.0 plays.refused.said reason plays.refused.answers plays.refused.meets in
        let back = back_by (manager_of m) aborts.middle (manager_of e) tx refused.0 aborts.said aborts.meets aborts.undoes in
        subst (λ (r : Refusal). IsAtRest bits_of (manager_of e) × HasRunScript bits_of s old (manager_of e) tx t (Refused r)) (sym (same ∙ marks_itself reason refused.1.can))
        (back.0, ended_refused bits_of s plays.left old (manager_of plays.middle) (manager_of m) (manager_of e) tx t plays.op reason rest plays.reaches plays.asked asked.1 refused.1 back.1 back.0)
    closed_alone s old tx d m t ended end e rest one begun plays closes = absurd closes

    -- **A script that runs at rest leaves the manager at rest,** and its events were told what it was told.
    pub run_at_rest : (s : ScriptForm) (d : D) (tx : ℕ) (t : Transcript) (end : End) (e : D) → IsAtRest bits_of (manager_of d) → IsRunAt moves_of s d tx t end e
        → IsAtRest bits_of (manager_of e) × HasRunScript bits_of s (manager_of d) (manager_of e) tx t end
    run_at_rest s d tx t end e rest (inl u) =
        subst (λ (x : End). IsAtRest bits_of (manager_of e) × HasRunScript bits_of s (manager_of d) (manager_of e) tx t x) (sym u.refused)
        (run_not_begun bits_of s (manager_of d) (manager_of e) tx t u.refusal u.no_number u.nothing rest u.begins_none)
    run_at_rest s d tx t end e rest (inr b) =
        closed_alone s (manager_of d) tx b.after_begin b.after_script t b.ended end e rest (begun_alone _ _ _ _ rest b.begun) (begun_asked _ _ _ _ rest b.begun) b.plays b.closes
