use Rattle.std.proofs.Common.{◌≡◌, List, [], string_bytes, take}
use Rattle.mlt_event.specs.declared.told.Told.{Told}
use Rattle.mlt_manager.{specs.Courses.TellsAll, specs.Courses.course_of, specs.Courses.opening_course, proofs.Playing.HasPlayed}
use Rattle.mlt_manager_steps.specs.Steps.{AreExplained}
use Rattle.mlt_manager_steps.proofs.playing.play_explained.Given as goal

abbrev pub invariant-loop-event : goal.invariant-loop-event
invariant-loop-event g l =
    ((tolds : List Told) × HasPlayed g.P.Pseudo.bits_of l.fn.limits l.fn.pseudo (take l.event-index l.events) tolds l.manager
    × TellsAll opening_course (take l.event-index l.events) tolds (course_of l.manager) l.manager.shared.history.items × AreExplained tolds (string_bytes l.text))
    × (l.manager.shared.history.handed ≡ [])
