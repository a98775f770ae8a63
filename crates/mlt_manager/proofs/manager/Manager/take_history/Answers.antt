use Rattle.std.proofs.Common.{◌∙◌, ap}
use Rattle.mlt_manager.specs.Courses.{course_of}
use Rattle.mlt_manager.proofs.Names.{fields_of}
use Rattle.mlt_manager.proofs.HandingOut.{hands_out_keeps}
use Rattle.mlt_manager.proofs.manager.Manager.take_history.Goals as goal

pub invariant_of-self : goal.invariant_of-self
invariant_of-self g c = hands_out_keeps g.P.Pseudo.bits_of (fields_of c.self.inside.parts) (fields_of c.hand_out.new.self) c.hand_out.ensures.rest c.self.invariant

pub returns-clause-course : goal.returns-clause-course
returns-clause-course g c = ap course_of c.hand_out.ensures.rest.same ∙ ap course_of c.self.view_is
