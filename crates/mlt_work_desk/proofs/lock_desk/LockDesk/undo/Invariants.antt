use Rattle.std.proofs.Common.{◌≡◌, List, All}
use Rattle.mlt_work_desk.proofs.Names.{Event, Told, StartsWith, first_items}
use Rattle.mlt_work_desk.specs.{LogHandles.begun_by, Views.HasMade, Views.desk_view}
use Rattle.mlt_work_desk.proofs.lock_desk.LockDesk.undo.Given as goal

-- it has seen what it had seen, takes back the same transaction, has its tries, has begun nothing, and has made steps alone
abbrev pub invariant-loop : goal.invariant-loop
invariant-loop g l = StartsWith (first_items l.self.snapshot) (first_items l.initial.self.snapshot)
    × (l.self.thread.tx ≡ l.initial.self.thread.tx) × (l.self.tries ≡ l.initial.self.tries)
    × (begun_by l.self.snapshot ≡ begun_by l.initial.self.snapshot)
    × ((front : List (Event × Told)) × HasMade (desk_view l.initial.self.snapshot l.initial.self.tries l.initial.self.share.amount)
    (desk_view l.self.snapshot l.self.tries l.self.share.amount) front × All (λ act. act.0 ≡ Event.Step l.initial.self.thread.tx) front)
