use Rattle.mlt_manager.proofs.Names.{fields_of}
use Rattle.mlt_manager.proofs.{Courses.new_course, Kept.new_kept}
use Rattle.mlt_manager.proofs.manager.Manager.new.Goals as goal

pub invariant_of-result : goal.invariant_of-result
invariant_of-result g c =
    new_kept g.P.Pseudo.bits_of (fields_of c.in_ok-new.field-0) c.args.limits c.args.pseudo (g.met.P.Pseudo.has_64_bits c.in_ok-new.field-0.root.pseudo) c.in_ok-new.ensures.opening

pub returns-clause-course : goal.returns-clause-course
returns-clause-course g c = new_course g.P.Pseudo.bits_of c.args.limits c.args.pseudo (fields_of c.in_ok-new.field-0) c.in_ok-new.ensures.opening
