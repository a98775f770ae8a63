use Rattle.std.proofs.Common.{rules, subst, IfOk}
use Rattle.mlt_manager.specs.Promises.{IsCommittedBaseOf}
use Rattle.mlt_work.proofs.reporting.report_of.Goals as goal

pub returns-clause-base : goal.returns-clause-base
returns-clause-base g c =
    let told = subst (λ answer. IfOk answer (λ base. IsCommittedBaseOf c.args.manager.now base)) c.in_ok-base.was c.audit_and_base-audited.ensures.base in
    c.committed_outcomes_are_the_committed_list.ensures.base c.args.outcomes c.args.manager.now.shared.history.items c.in_ok-base.base
    c.keeps_a_placed_history.ensures.placed c.keeps_a_placed_history.ensures.begun (search rules) told.serial
