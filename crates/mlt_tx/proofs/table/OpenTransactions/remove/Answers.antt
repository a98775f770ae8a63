use Rattle.std.proofs.Common.{◌≡◌, ◌+◌, ◌-◌, true, sym, ap, ◌∙◌, refl, arith}
use Rattle.std.specs.FinMap as map
use Rattle.mlt_tx.proofs.Names.{Table}
use Rattle.mlt_tx.proofs.TxSlots.{freed_slot, none_freed, some_taken}
use Rattle.mlt_tx.proofs.table.OpenTransactions.remove.Goals as goal

pub overflow_sub-self : goal.overflow_sub-self
overflow_sub-self c =
    let more = some_taken c.self.inside.slots.items c.deref.result.now c.args.tx c.in-Some.place c.index_mut.result.now c.deref.ensures.value c.in-Some.ensures in
    let counted = c.self.invariant.counted in
    omega arith

pub invariant_of-self : goal.invariant_of-self
invariant_of-self c =
    let more = some_taken c.self.inside.slots.items c.deref.result.now c.args.tx c.in-Some.place c.index_mut.result.now c.deref.ensures.value c.in-Some.ensures in
    let counted = c.self.invariant.counted in
    let less : c.self.inside.taken - 1 + 1 ≡ c.self.inside.taken = omega arith in
    (freed_slot c.self.inside.slots.items c.deref.result.now c.self.inside.taken (c.self.inside.taken - 1) c.args.tx c.in-Some.place c.index_mut.result.now (record c.index_mut.result.now { is_free = true }) c.self.invariant c.deref.ensures.value c.in-Some.ensures refl less).are_slots

pub returns-in-Some : goal.returns-in-Some
returns-in-Some c =
    let more = some_taken c.self.inside.slots.items c.deref.result.now c.args.tx c.in-Some.place c.index_mut.result.now c.deref.ensures.value c.in-Some.ensures in
    let counted = c.self.invariant.counted in
    let less : c.self.inside.taken - 1 + 1 ≡ c.self.inside.taken = omega arith in
    (freed_slot c.self.inside.slots.items c.deref.result.now c.self.inside.taken (c.self.inside.taken - 1) c.args.tx c.in-Some.place c.index_mut.result.now (record c.index_mut.result.now { is_free = true }) c.self.invariant c.deref.ensures.value c.in-Some.ensures refl less).makes ∙ ap (λ (t : Table). map.remove t c.args.tx) c.self.view_is

pub returns-in_default : goal.returns-in_default
returns-in_default c =
    sym c.self.view_is ∙ none_freed c.self.inside.slots.items c.deref.result.now c.args.tx c.deref.ensures.value (sym c.in_default.is ∙ c.slot_of.ensures) ∙ ap (λ (t : Table). map.remove t c.args.tx) c.self.view_is
