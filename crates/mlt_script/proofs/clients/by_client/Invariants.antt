use Rattle.std.proofs.Common.{length, map}
use Rattle.mlt_script.proofs.Parting.{Parted}
use Rattle.mlt_script.proofs.clients.by_client.Given as goal

abbrev pub invariant-loop-part : goal.invariant-loop-part
invariant-loop-part l = Parted l.fn.scripts.items (map (λ list. list.items) l.table.items) (map (λ list. list.items) l.parts.items)

abbrev pub decreases-loop-part : goal.decreases-loop-part
decreases-loop-part l = length l.table.items
