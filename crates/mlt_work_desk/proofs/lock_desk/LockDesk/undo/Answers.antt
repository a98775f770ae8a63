use Rattle.std.proofs.Common.{◌≡◌, ◌∙◌, ◌++◌, ◌∷◌, [], refl, subst}
use Rattle.std.proofs.lemmas.List.Elements.{All-nil, All-push}
use Rattle.mlt_work_desk.proofs.Names.{Event, first_items}
use Rattle.mlt_work_desk.specs.Views.{HasMade, desk_view}
use Rattle.mlt_work_desk.proofs.{Seeing.more_than, Seeing.no_more, Trying.made_more, Trying.made_nothing}
use Rattle.mlt_work_desk.proofs.lock_desk.LockDesk.undo.Goals as goal

pub loop-init : goal.loop-init
loop-init g c = (no_more _ _ refl, refl, refl, refl, ([], made_nothing _ _ refl refl, All-nil (λ act. act.0 ≡ Event.Step c.args.self.now.thread.tx)))

pub loop-preserved : goal.loop-preserved
loop-preserved g c =
    let tx = c.args.self.now.thread.tx in
    let had = c.loop.invariant in
    let step = c.undo_step.ensures in
    let told = step.made.0 in
    let first = desk_view c.args.self.now.snapshot c.args.self.now.tries c.args.self.now.share.amount in
    let prior = desk_view c.loop.self.snapshot c.loop.self.tries c.loop.self.share.amount in
    let next = desk_view c.undo_step.new.self.snapshot c.undo_step.new.self.tries c.undo_step.new.self.share.amount in (
      more_than (first_items c.args.self.now.snapshot) (first_items c.loop.self.snapshot) (first_items c.undo_step.new.self.snapshot) step.more had.0,
      step.tx ∙ had.1,
      step.tries ∙ had.2,
      step.begun ∙ had.3,
      (
        had.4.0 ++ (Event.Step tx, told) ∷ [],
        made_more first prior next had.4.0 ((Event.Step tx, told) ∷ []) had.4.1 (subst (λ x. HasMade prior next ((Event.Step x, told) ∷ [])) had.1 step.made.1),
        All-push (λ act. act.0 ≡ Event.Step tx) had.4.0 (Event.Step tx, told) had.4.2 refl,
      ),
    )

pub returns-then-not-undo_step : goal.returns-then-not-undo_step
returns-then-not-undo_step g c =
    let tx = c.args.self.now.thread.tx in
    let had = c.loop.invariant in
    let step = c.undo_step.ensures in
    let told = step.made.0 in
    let first = desk_view c.args.self.now.snapshot c.args.self.now.tries c.args.self.now.share.amount in
    let prior = desk_view c.loop.self.snapshot c.loop.self.tries c.loop.self.share.amount in
    let next = desk_view c.undo_step.new.self.snapshot c.undo_step.new.self.tries c.undo_step.new.self.share.amount in
    record {
      made = record {
        own = had.4.0 ++ (Event.Step tx, told) ∷ [];
        made = made_more first prior next had.4.0 ((Event.Step tx, told) ∷ []) had.4.1 (subst (λ x. HasMade prior next ((Event.Step x, told) ∷ [])) had.1 step.made.1);
        steps = record { front = had.4.0; last = told; whole = refl; steps = had.4.2; ends = step.made.2 c.if-not-undo_step.true };
      };
      more = more_than (first_items c.args.self.now.snapshot) (first_items c.loop.self.snapshot) (first_items c.undo_step.new.self.snapshot) step.more had.0;
      begun = step.begun ∙ had.3;
      tries = step.tries ∙ had.2;
    }
