-- What the scripts of clients have done, once they were run side by side.
use Rattle.std.specs.Prelude.{◌≡◌, ℕ, All, List}
use Rattle.mlt_types.specs.declared.refusal.Refusal.{Refusal}
use Rattle.mlt_script.specs.Scripts.{ScriptForm}
use Rattle.mlt_script_serial.specs.{Clients.AreOutcomes, Clients.AreRunsAt, declared.outcome.End.End, declared.outcome.End.TheVariants.Refused, declared.outcome.Outcome.Outcome, declared.report.Report.Report}
use Rattle.mlt_trace_audit.specs.{Agreement.Agrees, Committed.IsBaseOfOutcomes}
use Rattle.mlt_manager.specs.{Managers.ManagerFields, Openings.IsMadeWith}
use Rattle.mlt_work_desk.specs.{Holds.Answers, Views.DeskView, declared.tries.Tries.Tries, declared.tries.Tries.TheVariants.PerScript}
use Rattle.mlt_work.specs.{Places.AreAllOutcomes, declared.running.RunOptions.RunOptions}

-- what a script may be refused with
abbrev pub IsScriptRefusal : Refusal → Type 0
IsScriptRefusal Refusal.OutOfMemory = Unit {0}
IsScriptRefusal Refusal.NoRoom = Unit {0}
IsScriptRefusal Refusal.TooManyOpen = Unit {0}
IsScriptRefusal Refusal.LogFull = Unit {0}
IsScriptRefusal Refusal.IdsSpent = Unit {0}
IsScriptRefusal Refusal.GaveUp = Unit {0}
IsScriptRefusal other = ⊥

-- where a script is refused, it is so
abbrev pub IsScriptEnd : End → Type 0
IsScriptEnd (Refused reason) = IsScriptRefusal reason
IsScriptEnd other = Unit {0}

-- The scripts of a client were run one after another at a desk over a manager, with these tries, and these are their outcomes.
pub record AreRunWith {P : Type 0} (bits_of : P → ℕ → ℕ) (tries : Tries) (scripts : List ScriptForm)
    (outcomes : List Outcome) : Type 0 where
  -- an outcome for each script, in order
  pub outcomes_are : AreOutcomes 0 scripts outcomes
  -- each ends as that of a script may
  pub ends : All (λ outcome. IsScriptEnd outcome.end) outcomes
  -- what the desk has seen before the scripts and after them
  pub before : DeskView
  pub after : DeskView
  -- it has these tries
  pub given : before.tries.given ≡ tries
  -- the outcomes are what it has answered, and it spends tries and gives up as a desk may
  pub runs : AreRunsAt (Answers bits_of) scripts before outcomes after

-- The report of the scripts of each client, which were run with these options on this manager, made with this function from
-- keys to pseudokeys.
pub record HasRunAll {P : Type 0} (bits_of : P → ℕ → ℕ) (clients : List (List ScriptForm)) (options : RunOptions) (pseudo : P)
    (report : Report) (manager : ManagerFields P) : Type 0 where
  -- the manager has these limits and this function
  pub made : IsMadeWith manager options.limits pseudo
  -- an outcome for each script, clients and scripts in order; the scripts of a client were run at a desk with so many tries for
  -- each script
  pub outcomes : AreAllOutcomes (AreRunWith bits_of (PerScript options.tries)) clients report.outcomes
  -- the events that the workers counted are those of the manager
  pub events : manager.events ≡ report.events
  -- what scripts were told is what the manager has done
  pub agrees : Agrees report.outcomes manager.shared.history.items
  -- the committed scripts, run alone in commit order, lead to this base
  pub base : IsBaseOfOutcomes report.outcomes report.base
