use Rattle.std.proofs.Common.{refl}
use Rattle.mlt_manager.proofs.Names.{err_from_is_err_and, fields_of}
use Rattle.mlt_manager.proofs.Stepping.{may_cancel}
use Rattle.mlt_manager.proofs.parts.Parts.cancel.Goals as goal

pub returns-in_err-pending-clause-answers : goal.returns-in_err-pending-clause-answers
returns-in_err-pending-clause-answers g c =
    let p = err_from_is_err_and c.from_residual.result c.from_residual.ensures.1 in
    rw (p.1, p.2) (c.in_err-pending.ensures.refusal, refl)

pub cancel-requires : goal.cancel-requires
cancel-requires g c = record { is_open = may_cancel g.P.Pseudo.bits_of (fields_of c.args.self.now) c.args.tx c.requires.sound c.in_ok-pending.ensures.pending }

pub returns-clause-answers : goal.returns-clause-answers
returns-clause-answers g c = (c.in_ok-pending.ensures.pending, c.cancel.ensures.cancels, refl)
