use Rattle.std.proofs.Common.{rules, ◌==◌, ◌∙◌, not, ap}
use Rattle.arrayvec.proofs.ArrayVecLemmas.{filter-from_retain}
use Rattle.mlt_work_waits.specs.Queues.{without}
use Rattle.mlt_work_waits.proofs.blocked_queue.BlockedQueue.remove.Goals as goal

pub returns-then-not-is_empty : goal.returns-then-not-is_empty
returns-then-not-is_empty c =
    filter-from_retain _ (λ blocked. not (blocked.tx == c.args.tx)) _ (λ x b f' y called. search rules) _ _ c.retain.ensures.filtered
    ∙ ap (without c.args.tx) c.self.view_is
