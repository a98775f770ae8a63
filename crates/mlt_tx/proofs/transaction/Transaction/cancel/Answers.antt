use Rattle.std.proofs.Common.{refl}
use Rattle.mlt_tx.proofs.transaction.Transaction.cancel.Goals as goal

pub returns-clause-tells : goal.returns-clause-tells
returns-clause-tells c = record {
  between = record {
    alloc = c.args.shared.now.alloc;
    pages = record { store = c.roll_back.new.store; locks = c.roll_back.new.locks };
    objects = c.args.shared.now.objects;
    history = c.args.shared.now.history;
  };
  back = record { running = c.roll_back.ensures.images; locks = c.roll_back.ensures.locks; store = c.roll_back.ensures.store };
  objects = refl;
  history = refl;
  undo_kept = refl;
  idle = c.rest.ensures;
  room = record { pages = refl; objects = refl; items = c.release.ensures.items; room = c.release.ensures.room };
}
