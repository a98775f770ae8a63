use Rattle.std.proofs.Common.{◌≡◌, ◌+◌, ◌++◌, ◌∷◌, [], List, length, sym, ap, subst, ◌∙◌, arith}
use Rattle.std.specs.FinMap as map
use Rattle.mlt_tx.proofs.Names.{TxSlot, Table, AreTxSlots, table_of}
use Rattle.mlt_tx.proofs.TxSlots.{Changed, transaction_changed, slot_given, no_more_taken, none_sits, one_is_free, one_more_slot}
use Rattle.mlt_tx.proofs.table.OpenTransactions.begin.Goals as goal

behind : (c : goal.After-self-2-1) → Changed c.self.inside.slots.items (c.self.inside.slots.items ++ c.in_ok-slot.slot ∷ []) (c.self.inside.taken + 1) (map.insert (table_of c.self.inside.slots.items) c.args.tx c.in_ok-slot.slot.transaction.value)
behind c =
    one_more_slot c.self.inside.slots.items c.self.inside.taken c.args.tx c.in_ok-slot.slot c.self.invariant
    (none_sits c.self.inside.slots.items c.deref.result.now c.args.tx c.deref.ensures.value (sym c.in_default.is ∙ c.slot_of.ensures)) c.in_ok-slot.ensures.tx_is c.in_ok-slot.ensures.used

pub invariant_of-self : goal.invariant_of-self
invariant_of-self c = (transaction_changed c.self.inside.slots.items c.deref.result.now c.self.inside.taken c.args.tx c.in-Some.place c.index_mut.result.now c.restart.new.self c.self.invariant c.deref.ensures.value c.in-Some.ensures c.index_mut.ensures.value).are_slots

pub returns-in-Some-clause-begins : goal.returns-in-Some-clause-begins
returns-in-Some-clause-begins c = record {
  one = c.restart.new.self;
  nothing = record { subtx = c.restart.ensures.subtx; entries = c.restart.ensures.entries; idle = c.restart.ensures.at };
  is = (transaction_changed c.self.inside.slots.items c.deref.result.now c.self.inside.taken c.args.tx c.in-Some.place c.index_mut.result.now c.restart.new.self c.self.invariant c.deref.ensures.value c.in-Some.ensures c.index_mut.ensures.value).makes ∙ ap (λ (t : Table). map.insert t c.args.tx c.restart.new.self) c.self.view_is;
}

pub overflow_add-self : goal.overflow_add-self
overflow_add-self c =
    let fewer = one_is_free c.self.inside.slots.items c.deref-2.result.now c.in-Some-free_slot.place c.index_mut-in-Some-free_slot.result.now c.deref-2.ensures.value c.in-Some-free_slot.ensures.free in
    let counted = c.self.invariant.counted in
    let long : length c.deref.result.now ≡ length c.self.inside.slots.items = ap length c.deref.ensures.value in
    let bound = c.deref.type_inv.0 in
    omega arith

pub invariant_of-self-in-Some-free_slot : goal.invariant_of-self-in-Some-free_slot
invariant_of-self-in-Some-free_slot c = (slot_given c.self.inside.slots.items c.deref-2.result.now c.self.inside.taken c.args.tx c.in-Some-free_slot.place c.index_mut-in-Some-free_slot.result.now c.give_to.new.self c.self.invariant c.deref-2.ensures.value
    (none_sits c.self.inside.slots.items c.deref.result.now c.args.tx c.deref.ensures.value (sym c.in_default.is ∙ c.slot_of.ensures)) c.in-Some-free_slot.ensures.free c.give_to.ensures.tx_is c.give_to.ensures.used).are_slots

pub returns-in-Some-free_slot-clause-begins : goal.returns-in-Some-free_slot-clause-begins
returns-in-Some-free_slot-clause-begins c = record {
  one = c.give_to.new.self.transaction.value;
  nothing = c.give_to.ensures.nothing;
  is = (slot_given c.self.inside.slots.items c.deref-2.result.now c.self.inside.taken c.args.tx c.in-Some-free_slot.place c.index_mut-in-Some-free_slot.result.now c.give_to.new.self c.self.invariant c.deref-2.ensures.value
      (none_sits c.self.inside.slots.items c.deref.result.now c.args.tx c.deref.ensures.value (sym c.in_default.is ∙ c.slot_of.ensures)) c.in-Some-free_slot.ensures.free c.give_to.ensures.tx_is c.give_to.ensures.used).makes ∙ ap (λ (t : Table). map.insert t c.args.tx c.give_to.new.self.transaction.value) c.self.view_is;
}

pub overflow_add-self-2 : goal.overflow_add-self-2
overflow_add-self-2 c =
    let most = no_more_taken c.self.inside.slots.items in
    let counted = c.self.invariant.counted in
    let long : length c.deref.result.now ≡ length c.self.inside.slots.items = ap length c.deref.ensures.value in
    let bound = c.deref.type_inv.1 in
    omega arith

pub invariant_of-self-2 : goal.invariant_of-self-2
invariant_of-self-2 c = subst (λ (slots : List TxSlot). AreTxSlots slots (c.self.inside.taken + 1)) (sym c.in_ok-push.ensures.items) (behind c).are_slots

pub returns-clause-begins : goal.returns-clause-begins
returns-clause-begins c = record {
  one = c.in_ok-slot.slot.transaction.value;
  nothing = c.in_ok-slot.ensures.nothing;
  is = ap table_of c.in_ok-push.ensures.items ∙ (behind c).makes ∙ ap (λ (t : Table). map.insert t c.args.tx c.in_ok-slot.slot.transaction.value) c.self.view_is;
}
