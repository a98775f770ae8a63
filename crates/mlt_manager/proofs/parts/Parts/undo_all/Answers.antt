use Rattle.std.proofs.Common.{refl, ◌∙◌}
use Rattle.mlt_manager.proofs.Names.{IsUndoing, fields_of, GoesOnBack}
use Rattle.mlt_manager.proofs.{Chains.none_taken, Finding.undoing_is_busy, UndoingAll.back_ends, UndoingAll.back_on, UndoingAll.fewer_left, UndoingAll.goes_by}
use Rattle.mlt_manager.proofs.parts.Parts.undo_all.Goals as goal

pub loop-answer-init : goal.loop-answer-init
loop-answer-init g c = (none_taken g.P.Pseudo.bits_of GoesOnBack IsUndoing (fields_of c.args.self.now) c.args.tx c.requires.sound c.requires.undoing, refl)

pub step_open-requires-clause-busy : goal.step_open-requires-clause-busy
step_open-requires-clause-busy g c = undoing_is_busy c.loop-answer.self.txs c.args.tx c.loop-answer.invariant.0.is_at

pub loop-answer-preserved : goal.loop-answer-preserved
loop-answer-preserved g c = (
  back_on g.P.Pseudo.bits_of (fields_of c.args.self.now) (fields_of c.loop-answer.self) (fields_of c.step_open.new.self) c.args.tx c.step_open.result c.loop-answer.invariant.0 c.step_open.ensures.steps (goes_by c.step_open.result c.in-Going.is),
  c.step_open.ensures.handed ∙ c.loop-answer.invariant.1,
)

pub loop-answer-smaller : goal.loop-answer-smaller
loop-answer-smaller g c =
    fewer_left g.P.Pseudo.bits_of (fields_of c.loop-answer.self) (fields_of c.step_open.new.self) c.args.tx c.step_open.result c.loop-answer.invariant.0.is_at c.step_open.ensures.steps (goes_by c.step_open.result c.in-Going.is)

pub returns-in_default-clause-steps : goal.returns-in_default-clause-steps
returns-in_default-clause-steps g c = back_ends g.P.Pseudo.bits_of (fields_of c.args.self.now) (fields_of c.loop-answer.self) (fields_of c.step_open.new.self) c.args.tx c.step_open.result c.loop-answer.invariant.0 c.step_open.ensures.steps c.in_default.not-Going c.in_default.not-Undone
