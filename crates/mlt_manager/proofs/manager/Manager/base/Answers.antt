use Rattle.std.proofs.Common.{sym, subst}
use Rattle.std.proofs.lemmas.Result.{IfOk-weaker}
use Rattle.mlt_manager.proofs.Names.{IsCommittedBaseOf}
use Rattle.mlt_manager.proofs.manager.Manager.base.Goals as goal

pub returns-clause-base : goal.returns-clause-base
returns-clause-base g c =
    let image = c.in_ok-image.ensures.image in
    IfOk-weaker c.base.result _ _ (λ base is. subst (IsCommittedBaseOf c.args.self.now) (sym (is image.base image.of_base)) image.committed) c.base.ensures.base
