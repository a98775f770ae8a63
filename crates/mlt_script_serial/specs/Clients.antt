-- What became of the scripts of a client.
use Rattle.std.specs.Prelude.{◌≡◌, ◌⊎◌, ℕ, ◌+◌, List, [], ◌∷◌}
use Rattle.mlt_types.specs.declared.refusal.Refusal.TheVariants.{OutOfMemory}
use Rattle.mlt_object_kinds.specs.Bases.{Transcript}
use Rattle.mlt_script.specs.Scripts.{ScriptForm}
use Rattle.mlt_script_serial.specs.{Calls.Moves, declared.outcome.End.End, declared.outcome.End.TheVariants.Refused, declared.outcome.Outcome.Outcome, DeskRuns.HasEndedAs, DeskRuns.IsRunAt}

-- the outcome of a script, which is the n-th of its client
pub record IsOutcome (s : ScriptForm) (n : ℕ) (o : Outcome) : Type 0 where
  pub client : o.client ≡ s.client
  pub number : o.number ≡ n
  pub ended : HasEndedAs s o.done o.end

-- an outcome for each script, in order, n scripts of the client having come before
abbrev pub AreOutcomes : ℕ → List ScriptForm → List Outcome → Type 0
AreOutcomes n [] [] = Unit {0}
AreOutcomes n (s ∷ ss) (o ∷ os) = IsOutcome s (n + 1) o × AreOutcomes (n + 1) ss os
AreOutcomes n ss os = ⊥

-- there was no room for the replies of a script, so that it was not begun and nothing was asked
pub record IsWithoutRoom {D : Type 0} (d : D) (tx : ℕ) (t : Transcript) (end : End) (e : D)
    : Type 0 where
  pub no_number : tx ≡ 0
  pub nothing : t ≡ []
  pub refused : end ≡ Refused OutOfMemory
  pub unasked : e ≡ d

module _ {D : Type 0} (moves : Moves D) where
  -- what became of a script for which room was asked first
  abbrev pub IsServedAt : ScriptForm → D → ℕ → Transcript → End → D → Type 0
  IsServedAt s d tx t end e = IsWithoutRoom d tx t end e ⊎ IsRunAt moves s d tx t end e

  -- the runs of scripts at a desk, one after another
  abbrev pub AreRunsAt : List ScriptForm → D → List Outcome → D → Type 0
  AreRunsAt [] d [] e = d ≡ e
  AreRunsAt (s ∷ ss) d (o ∷ os) e =
      (m : D) × IsServedAt s d o.tx o.done o.end m × AreRunsAt ss m os e
  AreRunsAt ss d os e = ⊥
