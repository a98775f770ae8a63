use Rattle.std.proofs.Common.{◌∷◌, ◌++◌, ◌∙◌, List, [], refl, string_bytes, subst, sym}
use Rattle.mlt_event.specs.declared.event.Event.{Event}
use Rattle.mlt_manager.{specs.Courses.TellsAll, specs.Courses.course_of, specs.Courses.opening_course, proofs.Playing.all_played, proofs.Playing.played_on, proofs.Playing.take_all, proofs.Playing.told_on}
use Rattle.mlt_manager_steps.proofs.StepsTexts.{explained_on, on_ok}
use Rattle.mlt_manager_steps.proofs.playing.play_explained.Goals as goal

pub loop-event-init : goal.loop-event-init
loop-event-init g c = (
  (
    [],
    record { opening = c.in_ok-manager.manager; is_new = c.in_ok-manager.ensures.opening; run = refl },
    (c.in_ok-manager.ensures.course, c.in_ok-manager.ensures.opening.items),
    record { explained = []; told = refl; written = c.new-text.ensures.bytes },
  ),
  c.in_ok-manager.ensures.opening.handed,
)

pub loop-event-preserved : goal.loop-event-preserved
loop-event-preserved g c =
    let so_far = c.loop-event.invariant.0 in
    let tolds = so_far.0 ++ c.act-told.result ∷ [] in
    let added = on_ok c.explain-explained.result (sym c.is_err.ensures.value ∙ c.if-is_err.false) c.explain-explained.ensures.text in (
      (
        tolds,
        played_on g.P.Pseudo.bits_of c.args.limits c.args.pseudo c.args.events.now c.loop-event.event-index so_far.0 tolds c.loop-event.manager c.act-told.new.self c.event-item.result c.act-told.result
            c.loop-event-test.true c.event-item.is refl so_far.1 c.act-told.ensures.meets,
        told_on opening_course (course_of c.loop-event.manager) (course_of c.act-told.new.self) c.args.events.now c.loop-event.event-index so_far.0 tolds c.loop-event.manager.shared.history.items
            c.act-told.new.self.shared.history.items c.event-item.result c.act-told.result c.loop-event-test.true c.event-item.is refl so_far.2 c.act-told.ensures.course c.act-told.ensures.items,
        explained_on so_far.0 tolds c.act-told.result (string_bytes c.loop-event.text) (string_bytes c.explain-explained.new.text) added.0 refl added.1 so_far.3,
      ),
      c.act-told.ensures.handed ∙ c.loop-event.invariant.1,
    )

pub returns-clause-plays : goal.returns-clause-plays
returns-clause-plays g c =
    let so_far = c.loop-event.invariant.0 in
    record {
      tolds = so_far.0;
      played = all_played g.P.Pseudo.bits_of c.args.limits c.args.pseudo c.args.events.now c.loop-event.event-index so_far.0 c.loop-event.manager c.loop-event-test.false so_far.1 c.keeps_its_promises.ensures;
      course = subst (λ (es : List Event). TellsAll opening_course es so_far.0 (course_of c.loop-event.manager) c.loop-event.manager.shared.history.items)
          (take_all c.args.events.now c.loop-event.event-index c.loop-event-test.false) so_far.2;
      told = so_far.3;
    }
