use Rattle.std.proofs.Common.{subst}
use Rattle.mlt_hash.proofs.Names.{page_with_slot, LocalState, local, WritesHeldSlot, WriteFields, Phase}
use Rattle.mlt_hash.proofs.change.write_change.Goals as goal

pub returns-in-Ok-clause-writes : goal.returns-in-Ok-clause-writes
returns-in-Ok-clause-writes c =
    let old : LocalState = local c.args.subtx.now c.args.pages.now in
    let new : LocalState = local c.write_slot.new.subtx c.write_slot.new.pages in
    let writes = subst (λ (w : WriteFields). WritesHeldSlot old new w.number w.at w.slot) c.write.view_is c.in-Ok.ensures.writes in
    let planned = c.requires.planned in
    (page_with_slot planned.bucket c.args.write.at c.args.write.slot, writes planned.bucket planned.reads)

pub returns-in-Ok-clause-tells : goal.returns-in-Ok-clause-tells
returns-in-Ok-clause-tells c =
    let old : LocalState = local c.args.subtx.now c.args.pages.now in
    let new : LocalState = local c.write_slot.new.subtx c.write_slot.new.pages in (
      subst (λ (w : WriteFields). WritesHeldSlot old new w.number w.at w.slot) c.write.view_is c.in-Ok.ensures.writes,
      λ i. record (c.walk.view_is i) { phase = Phase.Changed (c.write.view_is i).number c.args.done },
    )
