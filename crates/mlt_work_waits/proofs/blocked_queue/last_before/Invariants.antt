use Rattle.std.proofs.Common.{◌≡◌, drop}
use Rattle.std.specs.Option.{option_or}
use Rattle.mlt_work_waits.specs.Queues.{last_before}
use Rattle.mlt_work_waits.proofs.blocked_queue.last_before.Given as goal

-- the last of those that are left, or else the one that was found
abbrev pub invariant-loop-blocked : goal.invariant-loop-blocked
invariant-loop-blocked l =
    option_or (last_before l.op l.held (drop l.blocked-index l.queue)) l.last ≡ last_before l.op l.held l.queue
