use Rattle.std.proofs.Common.{refl}
use Rattle.mlt_manager.proofs.Names.{err_from_is_err_and}
use Rattle.mlt_manager.proofs.parts.Parts.whole_undo.Goals as goal

pub returns-in_err-undoing-clause-answers : goal.returns-in_err-undoing-clause-answers
returns-in_err-undoing-clause-answers g c =
    let p = err_from_is_err_and c.from_residual.result c.from_residual.ensures.1 in
    rw (p.1, p.2) (c.in_err-undoing.ensures.refusal, refl)
