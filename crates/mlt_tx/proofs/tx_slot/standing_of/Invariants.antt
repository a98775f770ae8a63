use Rattle.std.proofs.Common.{◌≡◌, flat_map, take}
use Rattle.mlt_tx.specs.TxSlots.{entries_in}
use Rattle.mlt_tx.proofs.tx_slot.standing_of.Given as goal

-- what stands in the first slots is in the list
abbrev pub invariant-loop-slot : goal.invariant-loop-slot
invariant-loop-slot l = l.done.items ≡ flat_map entries_in (take l.slot-index l.slots)
