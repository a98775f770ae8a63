use Rattle.std.proofs.Common.{◌∙◌, subst, sym}
use Rattle.mlt_manager.specs.Managers.{ManagerFields}
use Rattle.mlt_serve.specs.{Desks.AreGiven, Tellings.HaveBegun}
use Rattle.mlt_serve.proofs.Loading.{among}
use Rattle.mlt_serve.proofs.Names.{TellsOutcomes}
use Rattle.mlt_serve.proofs.serving.serve_with.Goals as goal

pub returns-in-Ok-clause-told : goal.returns-in-Ok-clause-told
returns-in-Ok-clause-told g c =
    let outcomes = g.K.Receipts.receipts c.gather-gathered.result.outcomes in
    λ have. subst (λ (m : ManagerFields _). TellsOutcomes m.shared.history.items outcomes) (sym (c.close-manager.ensures.same ∙ c.gather-gathered.ensures.manager)) (c.gather-gathered.ensures.told have)

pub returns-in-Ok-clause-begun : goal.returns-in-Ok-clause-begun
returns-in-Ok-clause-begun g c =
    let outcomes = g.K.Receipts.receipts c.gather-gathered.result.outcomes in
    λ have. subst (λ (m : ManagerFields _). HaveBegun m.shared.history.items outcomes) (sym (c.close-manager.ensures.same ∙ c.gather-gathered.ensures.manager)) (c.gather-gathered.ensures.begun have)

pub returns-in-Ok-clause-loaded : goal.returns-in-Ok-clause-loaded
returns-in-Ok-clause-loaded g c = λ have. among _ _ _ _ c.in-Ok.ensures.heard (c.gather-gathered.ensures.outcomes have)

pub returns-in-Ok-clause-given : goal.returns-in-Ok-clause-given
returns-in-Ok-clause-given g c = λ have.
    subst (λ tries. AreGiven g.P.Pseudo.bits_of tries (g.K.Receipts.receipts c.gather-gathered.result.outcomes)) (sym c.requires.tries) (c.gather-gathered.ensures.given have)
