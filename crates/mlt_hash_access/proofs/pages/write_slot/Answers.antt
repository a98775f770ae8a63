use Rattle.mlt_hash_access.proofs.Names.{LocalState, local}
use Rattle.mlt_hash_access.proofs.Results.{bucket_there, slot_leaves, slot_writes, slot_writes_in_view}
use Rattle.mlt_hash_access.proofs.pages.write_slot.Goals as goal

abbrev before : goal.After-write_slot → LocalState
before c = local c.args.subtx.now c.args.pages.now

pub write_slot-requires-clause-bucket : goal.write_slot-requires-clause-bucket
write_slot-requires-clause-bucket c =
    let before : LocalState = local c.args.subtx.now c.args.pages.now in
    (c.requires.bucket.0, bucket_there before c.args.number c.requires.bucket.0 c.requires.may c.requires.held c.requires.bucket.1)

pub returns-clause-writes : goal.returns-clause-writes
returns-clause-writes c = slot_writes (before c) c.write_slot.new.self c.write_slot.new.store c.args.number c.args.at c.args.slot c.write_slot.result c.requires.may c.requires.held c.write_slot.ensures.store c.write_slot.ensures.images c.write_slot.ensures.err

pub returns-clause-view : goal.returns-clause-view
returns-clause-view c = slot_writes_in_view (before c) c.write_slot.new.self c.write_slot.new.store c.args.number c.args.at c.args.slot c.write_slot.result c.requires.may c.requires.held c.write_slot.ensures.store c.write_slot.ensures.images c.write_slot.ensures.err

pub returns-clause-leaves : goal.returns-clause-leaves
returns-clause-leaves c =
    slot_leaves (before c) c.write_slot.new.self c.write_slot.new.store c.args.number c.args.at c.args.slot c.write_slot.result c.requires.may c.requires.held c.write_slot.ensures.store c.write_slot.ensures.images c.write_slot.ensures.err c.requires.bucket.0 c.requires.bucket.1
