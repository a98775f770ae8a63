use Rattle.mlt_hash_access.proofs.Names.{LocalState, local}
use Rattle.mlt_hash_access.proofs.Results.{MakeTold, leaves_after_make_told, make_told, view_after_make_told}
use Rattle.mlt_hash_access.proofs.pages.make_page.Goals as goal

abbrev before : goal.After-grow → LocalState
before c = local c.args.subtx.now c.args.pages.now

abbrev after : goal.After-grow → LocalState
after c = local c.grow.new.self (record { store = c.grow.new.store; locks = c.grow.new.locks })

told : (c : goal.After-grow) → MakeTold (before c) (after c) c.args.page c.grow.result
told c = make_told (before c) (after c) c.args.page c.grow.result c.grow.ensures.fresh c.grow.ensures.store c.grow.ensures.images c.grow.ensures.locks c.grow.ensures.err

pub returns-clause-view : goal.returns-clause-view
returns-clause-view c = view_after_make_told (before c) (after c) c.args.page c.grow.result c.requires.may (told c)

pub returns-clause-leaves : goal.returns-clause-leaves
returns-clause-leaves c = leaves_after_make_told (before c) (after c) c.args.page c.grow.result c.requires.may (told c)
