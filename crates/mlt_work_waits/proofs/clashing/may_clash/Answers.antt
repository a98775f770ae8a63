use Rattle.std.proofs.Common.{sym, subst, MatchBool}
use Rattle.mlt_work_waits.{specs.Queues.MayClash, specs.Queues.NeverClash, proofs.Exact.table_is_exact}
use Rattle.mlt_work_waits.proofs.clashing.may_clash.Goals as goal

pub returns-clause-exact : goal.returns-clause-exact
returns-clause-exact c =
    let held = c.args.held.now in
    let requested = c.args.requested.now in
    subst (λ result. MatchBool result (MayClash held requested) (NeverClash held requested)) (sym c.are_near.ensures) (table_is_exact held requested)
