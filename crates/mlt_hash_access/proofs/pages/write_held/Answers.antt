use Rattle.mlt_hash_access.proofs.Names.{LocalState, local}
use Rattle.mlt_hash_access.proofs.Results.{WriteTold, leaves_after_write_told, view_after_write_told, write_told}
use Rattle.mlt_hash_access.proofs.pages.write_held.Goals as goal

abbrev before : goal.After-write → LocalState
before c = local c.args.subtx.now c.args.pages.now

abbrev after : goal.After-write → LocalState
after c = local c.write.new.self (record { store = c.write.new.store; locks = c.args.pages.now.locks })

told : (c : goal.After-write) → WriteTold (before c) (after c) c.args.number c.args.page c.write.result
told c = write_told (before c) c.write.new.self c.write.new.store c.args.number c.args.page c.write.result c.requires.held c.write.ensures.store c.write.ensures.images c.write.ensures.err

pub returns-clause-view : goal.returns-clause-view
returns-clause-view c = view_after_write_told (before c) (after c) c.args.number c.args.page c.write.result (told c)

pub returns-clause-leaves : goal.returns-clause-leaves
returns-clause-leaves c = leaves_after_write_told (before c) (after c) c.args.number c.args.page c.write.result c.requires.may (told c)
