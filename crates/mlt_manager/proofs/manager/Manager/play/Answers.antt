use Rattle.std.proofs.Common.{refl, subst, sym, List, [], ◌∙◌}
use Rattle.mlt_manager.proofs.Names.{Event, Told, IsRun}
use Rattle.mlt_manager.specs.Courses.{TellsAll, course_of, opening_course}
use Rattle.mlt_manager.proofs.{Playing.all_played, Playing.played_on, Playing.take_all, Playing.told_on, Quiet.none_waits}
use Rattle.mlt_manager.proofs.manager.Manager.play.Goals as goal

pub loop-event-init : goal.loop-event-init
loop-event-init g c = (
  record {
    opening = c.in_ok-manager.manager;
    is_new = c.in_ok-manager.ensures.opening;
    run = subst (λ (ts : List Told). IsRun g.P.Pseudo.bits_of c.in_ok-manager.manager [] ts c.in_ok-manager.manager) (sym c.in_ok-tolds.ensures.items) refl;
  },
  c.in_ok-manager.ensures.opening.handed,
  subst (λ (ts : List Told). TellsAll opening_course [] ts (course_of c.in_ok-manager.manager) c.in_ok-manager.manager.shared.history.items) (sym c.in_ok-tolds.ensures.items)
      (c.in_ok-manager.ensures.course, c.in_ok-manager.ensures.opening.items),
)

pub loop-event-preserved : goal.loop-event-preserved
loop-event-preserved g c = (
  played_on g.P.Pseudo.bits_of c.args.limits c.args.pseudo c.args.events.now c.loop-event.event-index c.loop-event.tolds.items c.push.new.self.items c.loop-event.manager c.act.new.self c.event-item.result c.act.result
      c.loop-event-test.true c.event-item.is c.in-Ok.ensures.items c.loop-event.invariant.0 c.act.ensures.meets,
  c.act.ensures.handed ∙ c.loop-event.invariant.1,
  told_on opening_course (course_of c.loop-event.manager) (course_of c.act.new.self) c.args.events.now c.loop-event.event-index c.loop-event.tolds.items c.push.new.self.items c.loop-event.manager.shared.history.items
      c.act.new.self.shared.history.items c.event-item.result c.act.result c.loop-event-test.true c.event-item.is c.in-Ok.ensures.items c.loop-event.invariant.2 c.act.ensures.course c.act.ensures.items,
)

pub returns-clause-plays : goal.returns-clause-plays
returns-clause-plays g c =
    all_played g.P.Pseudo.bits_of c.args.limits c.args.pseudo c.args.events.now c.loop-event.event-index c.loop-event.tolds.items c.loop-event.manager c.loop-event-test.false c.loop-event.invariant.0 c.keeps_its_promises.ensures

pub returns-clause-whole : goal.returns-clause-whole
returns-clause-whole g c = λ whole.
    let plays = all_played g.P.Pseudo.bits_of c.args.limits c.args.pseudo c.args.events.now c.loop-event.event-index c.loop-event.tolds.items c.loop-event.manager c.loop-event-test.false c.loop-event.invariant.0 c.keeps_its_promises.ensures in
    none_waits g.P.Pseudo.bits_of c.args.limits c.args.pseudo c.args.events.now c.loop-event.tolds.items plays.first c.loop-event.manager plays.is_new plays.run whole

pub returns-clause-course : goal.returns-clause-course
returns-clause-course g c = (
  subst (λ (es : List Event). TellsAll opening_course es c.loop-event.tolds.items (course_of c.loop-event.manager) c.loop-event.manager.shared.history.items) (take_all c.args.events.now c.loop-event.event-index c.loop-event-test.false) c.loop-event.invariant.2,
  c.keeps_its_promises.ensures.main,
)
