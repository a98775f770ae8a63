-- What scripts are refused with at desks over a lock
use Rattle.std.proofs.Common.{ℕ, List, [], ◌∷◌, Result, Ok, Err, inl, inr, sym, subst, All}
use Rattle.std.proofs.lemmas.List.Elements.{All-cons, All-nil}
use Rattle.mlt_types.specs.declared.refusal.Refusal.{Refusal}
use Rattle.mlt_object_kinds.specs.Bases.{Transcript}
use Rattle.mlt_script.specs.{declared.statement.Ending.Ending, declared.statement.Ending.TheVariants.Commit, declared.statement.Ending.TheVariants.Abort, Scripts.ScriptForm}
use Rattle.mlt_script_serial.specs.{Calls.Moves, Plays.PlaysAt, declared.outcome.End.End, declared.outcome.End.TheVariants.Committed, declared.outcome.End.TheVariants.Aborted, declared.outcome.End.TheVariants.Refused, declared.outcome.Outcome.Outcome, Clients.AreRunsAt, Clients.IsServedAt, DeskRuns.ClosesAs, DeskRuns.refusal_of_script}
use Rattle.mlt_work_desk.specs.{Holds.Answers, Holds.IsOfBegin, Holds.IsOfCommit, Holds.IsOfOperation, Views.DeskView}
use Rattle.mlt_work.specs.Runs.{IsScriptEnd, IsScriptRefusal}

begin_refuses : (r : Refusal) → IsOfBegin r → IsScriptRefusal r
begin_refuses Refusal.TooManyOpen h = tt
begin_refuses Refusal.IdsSpent h = tt
begin_refuses Refusal.OutOfMemory h = tt
begin_refuses other h = absurd h

commit_refuses : (r : Refusal) → IsOfCommit r → IsScriptRefusal (refusal_of_script r)
commit_refuses Refusal.NoSuchTx h = tt
commit_refuses Refusal.Undoing h = tt
commit_refuses Refusal.Running h = tt
commit_refuses other h = absurd h

operation_refuses : (r : Refusal) → IsOfOperation r → IsScriptRefusal (refusal_of_script r)
operation_refuses Refusal.LogFull h = tt
operation_refuses Refusal.NoRoom h = tt
operation_refuses Refusal.OutOfMemory h = tt
operation_refuses Refusal.GaveUp h = tt
operation_refuses other h = commit_refuses other h

-- an outcome ends as a script may
abbrev pub EndsSo : Outcome → Type 0
EndsSo o = IsScriptEnd o.end

module _ {P : Type 0} (bits_of : P → ℕ → ℕ) where
  abbrev moves_of : Moves DeskView
  moves_of = Answers bits_of

  -- a script that was played and closed
  closes_end : (s : ScriptForm) (tx : ℕ) (d m : DeskView) (t : Transcript) (ended : Result Ending Refusal) (end : End) (e : DeskView) → PlaysAt moves_of s tx d t ended m → ClosesAs moves_of tx ended m end e → IsScriptEnd end
  closes_end s tx d m t ended (Committed number) e plays closes = tt
  closes_end s tx d m t ended Aborted e plays closes = tt
  closes_end s tx d m t (Ok Commit) (Refused other) e plays (reason, same, (n, commits, aborts)) = subst IsScriptRefusal (sym same) (commit_refuses reason commits.may.0)
  closes_end s tx d m t (Ok Abort) (Refused reason) e plays closes = absurd closes
  closes_end s tx d m t (Err reason) (Refused other) e plays (same, aborts) = subst IsScriptRefusal (sym same) (operation_refuses reason plays.refused.may.0)

  run_ends : (s : ScriptForm) (d : DeskView) (tx : ℕ) (t : Transcript) (end : End) (e : DeskView) → IsServedAt moves_of s d tx t end e → IsScriptEnd end
  run_ends s d tx t end e (inl none) = subst IsScriptEnd (sym none.refused) tt
  run_ends s d tx t end e (inr (inl unbegun)) = subst IsScriptEnd (sym unbegun.refused) (begin_refuses unbegun.refusal unbegun.begins_none.may.0)
  run_ends s d tx t end e (inr (inr begun)) = closes_end s tx begun.after_begin begun.after_script t begun.ended end e begun.plays begun.closes

  -- **Each script ends as a script may.**
  pub runs_end : (ss : List ScriptForm) (d : DeskView) (os : List Outcome) (e : DeskView) → AreRunsAt moves_of ss d os e → All EndsSo os
  runs_end [] d [] e h = All-nil EndsSo
  runs_end [] d (o ∷ os) e h = absurd h
  runs_end (s ∷ ss) d [] e h = absurd h
  runs_end (s ∷ ss) d (o ∷ os) e (m, run, more) = All-cons EndsSo o os (run_ends s d o.tx o.done o.end m run) (runs_end ss m os e more)
