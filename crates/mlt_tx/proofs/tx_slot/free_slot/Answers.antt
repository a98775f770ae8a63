use Rattle.std.proofs.Common.{ap, sym, ◌∙◌, arith}
use Rattle.mlt_tx.proofs.Names.{nat_tests, is_free}
use Rattle.mlt_tx.proofs.TxSlots.{free_at, free_found, none_found}
use Rattle.mlt_tx.proofs.tx_slot.free_slot.Goals as goal

pub returns-in-Some-clause-free : goal.returns-in-Some-clause-free
returns-in-Some-clause-free c =
    let within = c.in-Some.ensures.lookup.0 in
    free_at c.args.slots.now c.args.likely c.in-Some.slot.now (grind (arith, nat_tests)) (ap is_free (sym c.in-Some.ensures.lookup.1) ∙ c.if-slot.true)

pub returns-in_default-clause-free : goal.returns-in_default-clause-free
returns-in_default-clause-free c = free_found c.args.slots.now c.first_free.result c.first_free.ensures

pub returns-in_default-clause-none : goal.returns-in_default-clause-none
returns-in_default-clause-none c = none_found c.args.slots.now c.first_free.result c.first_free.ensures
