-- An operation that takes all of its steps at once
use Rattle.std.proofs.Common.{◌≡◌, ℕ, ◌+◌, [], ◌∷◌, ◌++◌, refl, sym, ap, subst, ◌∙◌}
use Rattle.mlt_tx.proofs.Names.{ObjOp, ObjReply, HoldsClash, SameReservations, Running, LocalState, local, WalkContext, OperationFields, started_for, TraceItem, Answer, StepsFast, called_with, SharedState, At, Transaction}
use Rattle.mlt_object_base.specs.declared.request.Request.TheVariants.{Do}
use Rattle.mlt_page.specs.Stores.{PageStore}
use Rattle.mlt_page_subtx.specs.Images.{started}
use Rattle.mlt_tx_operation.specs.Fast.{GoesOn, PassesFast}
use Rattle.mlt_tx.specs.{Fast.TakesStep, Endings.IsDone, Transactions.tx_state_of}

-- the transaction, and what all share, at a moment of its operation
abbrev pub at_local : Transaction → LocalState → OperationFields → Transaction
at_local t m o = record { subtx = m.running; undo = t.undo; at = At.Pending o }

abbrev pub with_local : SharedState → LocalState → SharedState
with_local shared m = record shared { pages = record { store = m.store; locks = m.locks } }

-- a step of the operation is one of the transaction
goes_on : (context : WalkContext) (t : Transaction) (shared : SharedState) (old new : LocalState) (o o' : OperationFields) → GoesOn context old new o o'
    → TakesStep context (at_local t old o) (at_local t new o') (with_local shared old) (with_local shared new) Answer.Going
goes_on context t shared old new o o' step = record {
  tells = record {
    next = o';
    between = with_local shared new;
    tells = record { unready = step.untold; rest = record { undo_kept = refl; objects = refl; history = refl }; tells = step.tells };
    now_at = refl;
    leaves = refl;
  };
  number = step.own;
}

-- The operation is done: nobody else holds a clash, and its transaction holds it, may take it back, and has it in the history.
pub record IsAdded (tx : ℕ) (item : ObjOp × ObjReply) (before after : Transaction) (old new : SharedState) : Type 0 where
  pub free : (holder : ℕ) → HoldsClash old.objects.held tx item holder → ⊥
  pub held : new.objects.held ≡ old.objects.held ++ (tx, item) ∷ []
  pub reserved : SameReservations old.objects.reserved new.objects.reserved tx
  pub entries : after.undo.entries ≡ before.undo.entries ++ item ∷ []
  pub items : new.history.items ≡ old.history.items ++ TraceItem.Op tx item ∷ []
  pub room : new.history.room + 1 ≡ old.history.room

-- **The steps up to its end, and its end, are four steps of its transaction.**
module _ (context : WalkContext) (op : ObjOp) (reply : ObjReply) (before after : Transaction) (old new : SharedState) (store : PageStore)
    (fresh : before.subtx ≡ started before.subtx.tx) (passes : PassesFast context (local before.subtx old.pages) (started_for (Do op)) reply store)
    (stays : after.subtx ≡ before.subtx) (idle : after.at ≡ At.Idle) (store_is : new.pages.store ≡ store) (locks_are : new.pages.locks ≡ old.pages.locks)
    (adds : IsAdded before.subtx.tx (op, reply) before after old new) where
  abbrev first_after : Transaction
  first_after = at_local before passes.reaches.headed passes.reaches.with_header

  abbrev second_after : Transaction
  second_after = at_local before passes.reaches.placed passes.reaches.with_directory

  abbrev third_after : Transaction
  third_after = at_local before passes.at_end passes.after

  same_number : passes.at_end.running.tx ≡ before.subtx.tx
  same_number = passes.reaches.third.own ∙ passes.reaches.second.own ∙ passes.reaches.first.own

  first : TakesStep context (called_with op before) first_after old (with_local old passes.reaches.headed) Answer.Going
  first = goes_on context before old (local before.subtx old.pages) passes.reaches.headed (started_for (Do op)) passes.reaches.with_header passes.reaches.first

  asked : passes.after.request ≡ Do op
  asked = passes.reaches.third.asked ∙ passes.reaches.second.asked ∙ passes.reaches.first.asked

  is_done : IsDone (op, reply) (tx_state_of third_after (with_local old passes.at_end)) (tx_state_of after new)
  is_done = subst (λ (tx : ℕ). IsDone (op, reply) (record { running = record { tx = tx; images = passes.at_end.running.images }; undo = before.undo; shared = with_local old passes.at_end }) (tx_state_of after new)) (sym same_number) (record {
    free = adds.free;
    ends = record {
      running = stays ∙ fresh;
      locks = locks_are ∙ sym passes.unlocked;
      store = store_is ∙ sym passes.store_is;
    };
    held = adds.held;
    reserved = adds.reserved;
    entries = adds.entries;
    items = adds.items;
    room = adds.room;
  })

  ends : TakesStep context third_after after (with_local old passes.at_end) new (Answer.Done reply)
  ends = record {
    tells = record {
      next = passes.after;
      between = new;
      tells = record { op = op; reply = reply; asked = asked; ready = passes.told; tells = (refl, is_done) };
      now_at = idle;
      leaves = refl;
    };
    number = ap (λ (r : Running). r.tx) stays ∙ sym same_number;
  }

  pub steps_fast : StepsFast context (called_with op before) after old new reply
  steps_fast = record {
    headed = first_after;
    placed = second_after;
    told = third_after;
    with_header = with_local old passes.reaches.headed;
    with_directory = with_local old passes.reaches.placed;
    with_bucket = with_local old passes.at_end;
    first = first;
    second = goes_on context before old passes.reaches.headed passes.reaches.placed passes.reaches.with_header passes.reaches.with_directory passes.reaches.second;
    third = goes_on context before old passes.reaches.placed passes.at_end passes.reaches.with_directory passes.after passes.reaches.third;
    ends = ends;
  }
