use Rattle.std.proofs.Common.{ℕ, [], ◌∷◌, ◌++◌, refl, ap, subst, ◌∙◌}
use Rattle.mlt_tx.proofs.Names.{HoldsClash, SameReservations, TraceItem}
use Rattle.mlt_object_locks.specs.Locks.{IsLowestClash}
use Rattle.mlt_tx.proofs.ending.finish.Goals as goal

pub returns-in-Err-clause-tells : goal.returns-in-Err-clause-tells
returns-in-Err-clause-tells c = record {
  lowest = subst (λ (tx : ℕ). IsLowestClash c.args.shared.now.objects.held tx c.args.done c.in-Err.by) c.tx-tx.ensures c.in-Err.ensures.lowest;
  back = record { running = c.roll_back.ensures.images; locks = c.roll_back.ensures.locks; store = c.roll_back.ensures.store };
  objects = c.in-Err.ensures.err;
  history = refl;
  kept = refl;
}

pub returns-clause-tells : goal.returns-clause-tells
returns-clause-tells c = (
  c.reply.ensures,
  record {
    free = subst (λ (tx : ℕ). (holder : ℕ) → HoldsClash c.args.shared.now.objects.held tx c.args.done holder → ⊥) c.tx-tx.ensures c.in_default.ensures.free;
    ends = record { running = c.end.ensures.images; locks = c.end.ensures.locks; store = refl };
    held = c.in_default.ensures.granted ∙ ap (λ (tx : ℕ). c.args.shared.now.objects.held ++ (tx, c.args.done) ∷ []) c.tx-tx.ensures;
    reserved = subst (λ (tx : ℕ). SameReservations c.args.shared.now.objects.reserved c.ask.new.self.reserved tx) c.tx-tx.ensures c.ask.ensures.others;
    entries = c.push.ensures.entries;
    items = c.push-2.ensures.items ∙ ap (λ (tx : ℕ). c.args.shared.now.history.items ++ TraceItem.Op tx c.args.done ∷ []) c.tx-tx.ensures;
    room = c.push-2.ensures.room;
  },
)
