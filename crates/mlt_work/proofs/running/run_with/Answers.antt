use Rattle.std.proofs.Common.{◌≡◌, ℕ, List, Bool, rules, sym, subst}
use Rattle.mlt_script.specs.Scripts.{ScriptForm}
use Rattle.mlt_script_serial.specs.declared.outcome.Outcome.{Outcome}
use Rattle.mlt_work_desk.specs.declared.tries.Tries.{Tries}
use Rattle.mlt_work.specs.{Places.AreAllOutcomes, Runs.AreRunWith, Workers.HasWorked, declared.claim_handles.ClaimHandle.ClaimHandle, declared.claim_handles.ClientCounter.ClientCounter, declared.forms.ClientRun.ClientRun}
use Rattle.mlt_work.proofs.running.run_with.Goals as goal

module _ {P : Type 0} (bits_of : P → ℕ → ℕ) (one other : Tries) (same : one ≡ other) where
  -- a worker's runs with the same tries
  worked_by : (counter : ClientCounter) (clients : List (List ScriptForm)) (claim_handle : ClaimHandle) (runs : List ClientRun) (failed : Bool)
      → HasWorked (AreRunWith bits_of one) counter clients claim_handle runs failed → HasWorked (AreRunWith bits_of other) counter clients claim_handle runs failed
  worked_by counter clients claim_handle runs failed worked = subst (λ (tries : Tries). HasWorked (AreRunWith bits_of tries) counter clients claim_handle runs failed) same worked

  -- the outcomes of all clients
  all_by : (clients : List (List ScriptForm)) (outcomes : List Outcome) → AreAllOutcomes (AreRunWith bits_of other) clients outcomes → AreAllOutcomes (AreRunWith bits_of one) clients outcomes
  all_by clients outcomes all = subst (λ (tries : Tries). AreAllOutcomes (AreRunWith bits_of tries) clients outcomes) (sym same) all

pub collect-requires-clause-worked : goal.collect-requires-clause-worked
collect-requires-clause-worked g c k d lt = worked_by g.P.Pseudo.bits_of _ _ c.requires.tries _ _ _ _ _ (c.in-Ok.ensures.each k d lt)

pub returns-in-Ok-report_of-clause-ran : goal.returns-in-Ok-report_of-clause-ran
returns-in-Ok-report_of-clause-ran g c = (
  record {
    made = search rules;
    outcomes = rw (c.in-Ok-report_of.ensures.outcomes) (all_by g.P.Pseudo.bits_of _ _ c.requires.tries _ _ c.in-Ok-collect.ensures.outcomes);
    events = search rules;
    agrees = c.in-Ok-report_of.ensures.agrees;
    base = c.in-Ok-report_of.ensures.base;
  },
  search rules,
)
