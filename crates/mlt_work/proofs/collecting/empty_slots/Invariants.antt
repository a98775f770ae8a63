use Rattle.std.proofs.Common.{◌≡◌, ◌≤◌, ◌-◌, replicate, vec_len, None}
use Rattle.mlt_work.proofs.collecting.empty_slots.Given as goal

abbrev pub invariant-loop-slots : goal.invariant-loop-slots
invariant-loop-slots l = (l.slots.items ≡ replicate (vec_len l.slots) None) × (vec_len l.slots ≤ l.clients)

abbrev pub decreases-loop-slots : goal.decreases-loop-slots
decreases-loop-slots l = l.clients - vec_len l.slots
