-- Runs of scripts at a desk, as they grow.
use Rattle.std.proofs.Common.{◌≡◌, ℕ, ◌+◌, List, [], ◌∷◌, ◌++◌, Result, Ok, Err, length, arith, refl, sym, subst}
use Rattle.mlt_object_kinds.specs.Bases.{Transcript}
use Rattle.mlt_types.specs.declared.refusal.Refusal.{Refusal}
use Rattle.mlt_script.specs.{declared.statement.Ending.Ending, declared.statement.Ending.TheVariants.Commit, declared.statement.Ending.TheVariants.Abort, Scripts.ScriptForm}
use Rattle.mlt_script_serial.{specs.Follows.IsPartial, specs.Follows.questions_of_script, specs.Follows.Questions.Ends, specs.Calls.Moves, specs.Plays.PlaysAt, proofs.Transcripts.is_partial, specs.declared.outcome.End.End, specs.declared.outcome.End.TheVariants.Committed, specs.declared.outcome.End.TheVariants.Aborted, specs.declared.outcome.End.TheVariants.Refused, specs.declared.outcome.Outcome.Outcome, specs.DeskRuns.ClosesAs, specs.DeskRuns.HasEndedAs, specs.Clients.AreOutcomes, specs.Clients.AreRunsAt, specs.Clients.IsServedAt, specs.Clients.IsOutcome}

-- a script that asked nothing was told a partial transcript
pub nothing_is_partial : (s : ScriptForm) (t : Transcript) → t ≡ [] → IsPartial s t
nothing_is_partial s t nothing = subst (IsPartial s) (sym nothing) (is_partial s [] (questions_of_script s) refl)

module _ {D : Type 0} (moves : Moves D) where
  -- how a script ended that was played and closed
  pub ended_as : (s : ScriptForm) (a b : D) (tx : ℕ) (t : Transcript) (ended : Result Ending Refusal) (end : End) (e : D)
      → PlaysAt moves s tx a t ended b → ClosesAs moves tx ended b end e → HasEndedAs s t end
  ended_as s a b tx t (Ok Commit) (Committed number) e plays closes = plays.0
  ended_as s a b tx t (Ok Commit) (Refused refusal) e plays closes = is_partial s t (Ends Commit) plays.0
  ended_as s a b tx t (Ok Commit) Aborted e plays closes = absurd closes
  ended_as s a b tx t (Ok Abort) Aborted e plays closes = plays.0
  ended_as s a b tx t (Ok Abort) (Committed number) e plays closes = absurd closes
  ended_as s a b tx t (Ok Abort) (Refused refusal) e plays closes = absurd closes
  ended_as s a b tx t (Err refusal) (Refused other) e plays closes = is_partial s t plays.left plays.reaches
  ended_as s a b tx t (Err refusal) Aborted e plays closes = absurd closes
  ended_as s a b tx t (Err refusal) (Committed number) e plays closes = absurd closes

  -- one more script is run
  pub runs_more : (ss : List ScriptForm) (d : D) (os : List Outcome) (m : D) (s : ScriptForm) (o : Outcome) (e : D)
      → AreRunsAt moves ss d os m → IsServedAt moves s m o.tx o.done o.end e → AreRunsAt moves (ss ++ s ∷ []) d (os ++ o ∷ []) e
  runs_more [] d [] m s o e h r = (e, subst (λ (z : D). IsServedAt moves s z o.tx o.done o.end e) (sym h) r, refl)
  runs_more [] d (p ∷ os) m s o e h r = absurd h
  runs_more (x ∷ ss) d [] m s o e h r = absurd h
  runs_more (x ∷ ss) d (p ∷ os) m s o e h r = (h.0, h.1, runs_more ss h.0 os m s o e h.2 r)

-- one more script has its outcome
pub outcomes_more : (n : ℕ) (ss : List ScriptForm) (os : List Outcome) (s : ScriptForm) (o : Outcome) (k : ℕ) → AreOutcomes n ss os → IsOutcome s k o → k ≡ n + length ss + 1
    → AreOutcomes n (ss ++ s ∷ []) (os ++ o ∷ [])
outcomes_more n [] [] s o k h i e = (subst (λ (m : ℕ). IsOutcome s m o) (omega arith) i, tt)
outcomes_more n [] (p ∷ os) s o k h i e = absurd h
outcomes_more n (x ∷ ss) [] s o k h i e = absurd h
outcomes_more n (x ∷ ss) (p ∷ os) s o k h i e = (h.0, outcomes_more (n + 1) ss os s o k h.1 i (omega arith))
