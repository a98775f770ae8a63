use Rattle.std.proofs.Common.{◌∙◌, subst}
use Rattle.mlt_work_desk.proofs.Names.{first_items, SleepingThread}
use Rattle.mlt_work_desk.specs.{Tries.StepsByTries, Views.desk_view}
use Rattle.mlt_work_desk.proofs.{Seeing.more_than, Trying.spends_more}
use Rattle.mlt_work_desk.proofs.lock_desk.LockDesk.steps.Goals as goal

pub loop-preserved : goal.loop-preserved
loop-preserved g c =
    let first = c.args.self.now in
    let before = c.loop.self in
    let after = c.step.new.self in
    let had = c.loop.invariant in
    let step = c.step.ensures in
    let prior = desk_view before.snapshot before.tries before.share.amount in
    let next = desk_view after.snapshot after.tries after.share.amount in (
      more_than (first_items first.snapshot) (first_items before.snapshot) (first_items after.snapshot) step.more had.0,
      step.thread ∙ had.1,
      spends_more first.thread.tx _ prior next had.2 (subst (λ (s : SleepingThread). StepsByTries s.tx prior next) had.1 step.made),
      step.begun ∙ had.3,
    )

pub returns-in-Some-step-clause-begun : goal.returns-in-Some-step-clause-begun
returns-in-Some-step-clause-begun g c = c.in-Some-step.ensures.begun ∙ c.loop.invariant.3

pub returns-in-Some-step-clause-made : goal.returns-in-Some-step-clause-made
returns-in-Some-step-clause-made g c =
    let had = c.loop.invariant in
    let prior = desk_view c.loop.self.snapshot c.loop.self.tries c.loop.self.share.amount in
    let next = desk_view c.step.new.self.snapshot c.step.new.self.tries c.step.new.self.share.amount in
    spends_more c.args.self.now.thread.tx _ prior next had.2 (subst (λ (s : SleepingThread). StepsByTries s.tx prior next) had.1 c.in-Some-step.ensures.made)
