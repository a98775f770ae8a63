use Rattle.std.proofs.Common.{sym, ◌∙◌, arith}
use Rattle.mlt_tx.proofs.Images.{kept_there, lack_more, none_of}
use Rattle.mlt_tx.proofs.tx_slot.image_in.Goals as goal

pub loop-slot-init : goal.loop-slot-init
loop-slot-init c = λ k d below used. absurd (omega arith)

pub loop-slot-preserved : goal.loop-slot-preserved
loop-slot-preserved c =
    lack_more c.args.slots.now c.args.page c.loop-slot.slot-index c.slot-item.result c.loop-slot-test.true c.slot-item.is
    (none_of c.first_image-first.result _ (sym c.is_some.ensures ∙ c.if-is_some.false) c.first_image-first.ensures.none) c.loop-slot.invariant

pub returns-then-is_some-clause-kept : goal.returns-then-is_some-clause-kept
returns-then-is_some-clause-kept c = kept_there c.args.slots.now c.args.page c.loop-slot.slot-index c.slot-item.result c.first_image-first.result c.loop-slot-test.true c.slot-item.is c.first_image-first.ensures.kept

pub returns-clause-none : goal.returns-clause-none
returns-clause-none c = λ k d below used. let all = c.loop-slot-test.false in c.loop-slot.invariant k d (omega arith) used
