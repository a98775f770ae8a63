use Rattle.mlt_manager.proofs.Names.{counted}
use Rattle.mlt_manager.proofs.{Added.event_adds, Courses.event_course, Keeping.counted_keeps}
use Rattle.mlt_manager.proofs.manager.Manager.act.Goals as goal

pub returns-clause-course : goal.returns-clause-course
returns-clause-course g c =
    (event_course g.P.Pseudo.bits_of (counted c.args.self.now) c.execute-told.new.self (counted_keeps _ _ c.keeps_its_invariant.ensures) c.args.event c.execute-told.result c.execute-told.ensures.meets).0

pub returns-clause-items : goal.returns-clause-items
returns-clause-items g c =
    event_adds g.P.Pseudo.bits_of (counted c.args.self.now) c.execute-told.new.self (counted_keeps _ _ c.keeps_its_invariant.ensures) c.args.event c.execute-told.result c.execute-told.ensures.meets
