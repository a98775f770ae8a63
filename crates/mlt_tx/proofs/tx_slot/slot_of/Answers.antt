use Rattle.std.proofs.Common.{ap, sym, ◌∙◌, arith}
use Rattle.mlt_tx.proofs.Names.{nat_tests, is_slot_of}
use Rattle.mlt_tx.proofs.TxSlots.{found_where}
use Rattle.mlt_tx.proofs.tx_slot.slot_of.Goals as goal

pub returns-in-Some : goal.returns-in-Some
returns-in-Some c =
    let within = c.in-Some.ensures.lookup.0 in
    sym (found_where c.args.slots.now c.args.tx c.of-likely.result c.in-Some.slot.now c.requires (grind (arith, nat_tests)) (ap (is_slot_of c.args.tx) (sym c.in-Some.ensures.lookup.1) ∙ sym c.is_of.ensures ∙ c.if-is_of.true))
