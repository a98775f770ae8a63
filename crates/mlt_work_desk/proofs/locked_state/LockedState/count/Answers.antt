use Rattle.std.proofs.Common.{◌≤◌, subst}
use Rattle.mlt_trace.specs.Numbers.{begun_txs}
use Rattle.mlt_work_desk.{specs.Prefixes.times, specs.LogHandles.begun_by, proofs.Playing.same_made}
use Rattle.mlt_work_desk.proofs.locked_state.LockedState.count.Goals as goal

pub returns-clause-counted : goal.returns-clause-counted
returns-clause-counted g c = λ tx.
    subst (λ items. times tx (begun_by c.args.all) ≤ times tx (begun_txs items)) c.args.self.now.logged (c.count.ensures.counted tx)

pub invariant_of-self-clause-made_by : goal.invariant_of-self-clause-made_by
invariant_of-self-clause-made_by g c = same_made _ _ c.args.self.now.manager c.count.ensures.same c.args.self.now.made_by
