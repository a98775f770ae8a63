use Rattle.std.proofs.Common.{List, sym, subst}
use Rattle.mlt_tx.proofs.Names.{TxSlot, AreTxSlots}
use Rattle.mlt_tx.proofs.TxSlots.{no_slots}
use Rattle.mlt_tx.proofs.table.OpenTransactions.new.Goals as goal

pub invariant_of-result : goal.invariant_of-result
invariant_of-result c = subst (λ (slots : List TxSlot). AreTxSlots slots 0) (sym c.new.ensures.items) no_slots
