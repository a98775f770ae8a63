use Rattle.std.proofs.Common.{ap, refl}
use Rattle.mlt_hash_access.proofs.Names.{page_at, seen_as, LocalState, local, LocksPage}
use Rattle.mlt_hash_access.proofs.{Leaving.leaves_by_locking, Leaving.leaves_it, Results.lock_granted, Views.lock_reads, pages.lock.Goals.After-ask, pages.lock.Goals.In-Held}
use Rattle.mlt_hash_access.proofs.pages.lock.Goals as goal

abbrev before : After-ask → LocalState
before c = local c.args.subtx.now c.args.pages.now

abbrev after : After-ask → LocalState
after c = local c.args.subtx.now (record { store = c.args.pages.now.store; locks = c.ask.new.self })

told : (c : In-Held) → LocksPage (before c.before) (after c.before) c.args.number c.args.mode
told c = lock_granted (before c.before) c.ask.new.self c.tx.result c.args.number c.args.mode c.tx.ensures c.requires.there c.in-Held.ensures.answer

pub returns-in-Held-clause-view : goal.returns-in-Held-clause-view
returns-in-Held-clause-view c =
    let there = seen_as (page_at c.args.pages.now.store.pages c.args.number) c.requires.there in
    (_, lock_reads (before c.before) (after c.before) c.args.number c.args.mode there.0 c.requires.may (told c) there.1)

pub returns-in-Held-clause-leaves : goal.returns-in-Held-clause-leaves
returns-in-Held-clause-leaves c = leaves_by_locking (before c.before) (after c.before) _ c.args.number c.args.mode c.requires.may (told c) refl

pub returns-in-Waiting-clause-leaves : goal.returns-in-Waiting-clause-leaves
returns-in-Waiting-clause-leaves c = leaves_it (before c.before) _ c.requires.may (ap (λ locks. local c.args.subtx.now (record { store = c.args.pages.now.store; locks = locks })) c.in-Waiting.ensures.answer.1)
