use Rattle.std.proofs.Common.{◌≡◌}
use Rattle.mlt_work_desk.proofs.Names.{StartsWith, first_items}
use Rattle.mlt_work_desk.specs.{LogHandles.begun_by, Tries.StepsByTries, Views.desk_view}
use Rattle.mlt_work_desk.proofs.lock_desk.LockDesk.steps.Given as goal

-- it has seen what it had seen, is in the same operation, has spent its tries by waits, and has begun nothing
abbrev pub invariant-loop : goal.invariant-loop
invariant-loop g l = StartsWith (first_items l.self.snapshot) (first_items l.initial.self.snapshot)
    × (l.self.thread ≡ l.initial.self.thread)
    × StepsByTries l.initial.self.thread.tx (desk_view l.initial.self.snapshot l.initial.self.tries l.initial.self.share.amount)
    (desk_view l.self.snapshot l.self.tries l.self.share.amount)
    × (begun_by l.self.snapshot ≡ begun_by l.initial.self.snapshot)
