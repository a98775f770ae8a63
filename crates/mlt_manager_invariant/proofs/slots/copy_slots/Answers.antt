use Rattle.std.proofs.Common.{List, subst, arith, take_all}
use Rattle.mlt_page.specs.declared.slot.Slot.{Slot}
use Rattle.mlt_manager_invariant.{specs.Copies.CopiesSlots, proofs.OneByOne.nothing_copied, proofs.OneByOne.one_of_slots, proofs.OneByOne.went_on}
use Rattle.mlt_manager_invariant.proofs.slots.copy_slots.Goals as goal

pub loop-slot-init : goal.loop-slot-init
loop-slot-init c = λ whole part slots. nothing_copied c.args.base.now whole part

pub copy_slot-requires : goal.copy_slot-requires
copy_slot-requires c =
    let l = c.loop-slot in
    let made = c.requires.slots in
    record {
      slot = (
        made.0,
        (l.invariant made.0 made.1 made.2).part,
        one_of_slots c.args.slots.now l.slot-index c.slot-item.result c.loop-slot-test.true c.slot-item.is made.0 made.2,
      );
    }

pub loop-slot-preserved : goal.loop-slot-preserved
loop-slot-preserved c = λ whole part slots.
    let l = c.loop-slot in
    let first = l.invariant whole part slots in
    let here = one_of_slots c.args.slots.now l.slot-index c.slot-item.result c.loop-slot-test.true c.slot-item.is whole slots in
    went_on c.args.slots.now l.slot-index c.slot-item.result c.loop-slot-test.true c.slot-item.is c.args.base.now l.base c.copy_slot.new.base whole
    first (c.in_ok-copy_slot.ensures.copies whole first.part here)

pub returns-clause-copies : goal.returns-clause-copies
returns-clause-copies c = λ whole part slots.
    let l = c.loop-slot in
    subst (λ (s : List Slot). CopiesSlots s c.args.base.now l.base whole) (take_all l.slot-index c.args.slots.now (omega (arith, c.loop-slot-test.false))) (l.invariant whole part slots)
