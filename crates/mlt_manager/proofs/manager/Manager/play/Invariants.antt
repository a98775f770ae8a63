use Rattle.std.proofs.Common.{◌≡◌, [], take}
use Rattle.mlt_manager.specs.Courses.{TellsAll, course_of, opening_course}
use Rattle.mlt_manager.proofs.Playing.{HasPlayed}
use Rattle.mlt_manager.proofs.manager.Manager.play.Given as goal

abbrev pub invariant-loop-event : goal.invariant-loop-event
invariant-loop-event g l = HasPlayed g.P.Pseudo.bits_of l.fn.limits l.fn.pseudo (take l.event-index l.events) l.tolds.items l.manager
    × (l.manager.shared.history.handed ≡ [])
    × TellsAll opening_course (take l.event-index l.events) l.tolds.items (course_of l.manager) l.manager.shared.history.items
