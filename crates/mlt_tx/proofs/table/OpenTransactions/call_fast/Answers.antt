use Rattle.std.proofs.Common.{ℕ, sym, ◌∙◌}
use Rattle.mlt_tx.proofs.Names.{on_err_weaker, WalkContext, ChangesOne}
use Rattle.mlt_hash.specs.Walks.{context_in}
use Rattle.mlt_tx.proofs.{FastCalls.calls_if_ok, TxSlots.transaction_changed, TxSlots.it_sits, TxSlots.not_open, TxSlots.one_changes}
use Rattle.mlt_tx.proofs.table.OpenTransactions.call_fast.Goals as goal

pub unreachable-requires : goal.unreachable-requires
unreachable-requires g c = not_open c.self.inside.slots.items c.deref.result.now c.args.self.now c.args.tx c.requires.is_open.0 c.self.view_is c.deref.ensures.value (sym c.in_default.is ∙ c.slot_of.ensures) c.requires.is_open.1

pub invariant_of-self : goal.invariant_of-self
invariant_of-self g c = (transaction_changed c.self.inside.slots.items c.deref.result.now c.self.inside.taken c.args.tx c.in-Some.place c.index_mut.result.now c.call_fast.new.self c.self.invariant c.deref.ensures.value c.in-Some.ensures c.index_mut.ensures.value).are_slots

pub call_fast-requires : goal.call_fast-requires
call_fast-requires g c = record { ready = rw (it_sits c.self.inside.slots.items c.deref.result.now c.args.self.now c.args.tx c.in-Some.place c.index_mut.result.now c.requires.is_open.0 c.self.view_is c.deref.ensures.value c.in-Some.ensures c.index_mut.ensures.value c.requires.is_open.1 c.deref_mut.result.now c.deref_mut.ensures.value) c.requires.is_open.2 }

pub returns-clause-calls : goal.returns-clause-calls
returns-clause-calls g c =
    let context : ℕ → WalkContext = context_in g.P.Pseudo.bits_of c.args.environment.now in
    let changes : ChangesOne c.args.tx c.args.self.now _ = one_changes c.self.inside.slots.items c.deref.result.now c.args.self.now c.self.inside.taken c.args.tx c.in-Some.place c.index_mut.result.now c.call_fast.new.self c.self.invariant c.self.view_is c.deref.ensures.value c.in-Some.ensures c.index_mut.ensures.value c.deref_mut.result.now c.deref_mut.ensures.value in
    calls_if_ok context c.args.tx c.args.op c.args.self.now _ c.args.shared.now c.call_fast.new.shared c.call_fast.result changes c.call_fast.ensures.calls

pub returns-clause-err : goal.returns-clause-err
returns-clause-err g c = on_err_weaker c.call_fast.result (λ tells. record { changes = one_changes c.self.inside.slots.items c.deref.result.now c.args.self.now c.self.inside.taken c.args.tx c.in-Some.place c.index_mut.result.now c.call_fast.new.self c.self.invariant c.self.view_is c.deref.ensures.value c.in-Some.ensures c.index_mut.ensures.value c.deref_mut.result.now c.deref_mut.ensures.value; tells = tells }) c.call_fast.ensures.err
