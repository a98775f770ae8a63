use Rattle.mlt_tx.proofs.Names.{LackImage}
use Rattle.mlt_tx.proofs.tx_slot.image_in.Given as goal

-- nobody that was asked keeps one
abbrev pub invariant-loop-slot : goal.invariant-loop-slot
invariant-loop-slot l = LackImage l.slots l.page l.slot-index
