-- A whole operation whose steps are taken at once
use Rattle.std.proofs.Common.{◌≡◌, ℕ, ◌≤◌, ◌+◌, List, [], ◌∷◌, true, None, Option, Some, is_some, refl, sym, ap, subst, ◌∙◌, inl, inr, arith, nat_cmp}
use Rattle.std.specs.FinMap as map
use Rattle.mlt_manager.proofs.Names.{cases_eq, false≢true, nat_tests, Cell, ObjOp, ObjReply, cell_of, Do, SameReservations, reservation_of, is_holder, not_true, HoldsNothing, local, context_by, started_for, IsOpInRange, Answer, SharedState, At, Transaction, CallsOneFast, Table, may_step, inserted_here, FitsAt, all_of, images_kept, HasCalled, IsBusy, MayCall, IsManager, ManagerFields, state_of, HasRun, StepsOnUpTo}
use Rattle.mlt_page_locks.proofs.Maps.{get_removed}
use Rattle.mlt_tx_operation.specs.{Operating.MayOperate, Fast.NobodyHolds}
use Rattle.mlt_tx.specs.{Fast.MayCallFast, Transactions.MayStepAt, Tables.DoesOneFast, Tables.StepsOneFast}
use Rattle.mlt_manager.proofs.{Called.called_keeps, Keeping.len_removed, Keeping.nobody, Stepping.stepped}

-- ---- who is open alone

-- where a map has one entry, each key in it is the same
only_one : {X : Type 0} (m : map.FinMap nat_cmp X) (a b : ℕ) → map.len m ≤ 1 → is_some (map.get m a) ≡ true → is_some (map.get m b) ≡ true → b ≡ a
only_one m a b few has also =
    elim (cases_eq b a) [
      | inl same ↦ same
      | inr other ↦
          let left : is_some (map.get (map.remove m a) b) ≡ true = ap is_some (grind (arith, nat_tests, get_removed m a b, other)) ∙ also in
          absurd (nobody (map.remove m a) b left (omega (arith, len_removed m a has, few)))
    ]

open_if : (t : Option Transaction) → is_some (images_kept t) ≡ true → is_some t ≡ true
open_if None is = is
open_if (Some t) is = refl

reserves : (reserved : List (ℕ × Cell)) (tx : ℕ) (cell : Cell) → reservation_of ((tx, cell) ∷ reserved) tx ≡ Some cell
reserves reserved tx cell = grind (arith, nat_tests)

reserves_no_other : (reserved : List (ℕ × Cell)) (tx : ℕ) (cell : Cell) → SameReservations reserved ((tx, cell) ∷ reserved) tx
reserves_no_other reserved tx cell other ne = grind (arith, nat_tests, ne)

-- A transaction that may be called with this operation, by itself: what is so of it, before it is.
module _ {P : Type 0} (bits_of : P → ℕ → ℕ) (m : ManagerFields P) (tx : ℕ) (op : ObjOp) (h : IsManager bits_of m) (may : MayCall m tx) (range : IsOpInRange op) where
  abbrev t : Transaction
  t = may.1.one

  number : t.subtx.tx ≡ tx
  number = (h.sound.fits tx t may.1.there).number

  held_nothing : HoldsNothing (all_of (state_of bits_of m h.images h.base)) tx
  held_nothing = subst (λ (a : At). FitsAt a (state_of bits_of m h.images h.base) tx t) may.1.idle (h.sound.fits tx t may.1.there).where_at

  no_images : t.subtx.images ≡ map.empty
  no_images =
      let both : Some t.subtx.images ≡ Some map.empty = sym (h.sound.kept tx ∙ ap images_kept may.1.there) ∙ held_nothing.no_images in
      cc

  -- whoever holds a page is open, so where tx alone is open nobody holds one
  nobody_holds : map.len m.txs ≤ 1 → NobodyHolds m.shared.pages.locks
  nobody_holds alone u =
      not_true (is_holder m.shared.pages.locks u) (λ holds.
      let open_u : is_some (map.get m.txs u) ≡ true = open_if (map.get m.txs u) (ap is_some (sym (h.sound.kept u)) ∙ h.sound.running.holders_open u holds) in
      let own : u ≡ tx = only_one m.txs tx u alone (ap is_some may.1.there) open_u in
      false≢true (sym held_nothing.no_locks ∙ subst (λ n. is_holder m.shared.pages.locks n ≡ true) own holds))

  -- what a call would make of it, and of what all share
  abbrev called : Transaction
  called = record { subtx = t.subtx; undo = record { entries = t.undo.entries; spare = 1 }; at = At.Pending (started_for (Do op)) }

  abbrev with_room : SharedState
  with_room = record m.shared {
    objects = record { held = m.shared.objects.held; reserved = (t.subtx.tx, cell_of op) ∷ m.shared.objects.reserved };
    history = record m.shared.history { room = m.shared.history.room + 2 };
  }

  abbrev were_called : ManagerFields P
  were_called = record m { shared = with_room; txs = map.insert m.txs tx called }

  would_call : HasCalled m were_called tx op
  would_call = record {
    may = may;
    in_range = range;
    calls = record {
      changes = record { before = t; after = called; was = may.1.there; is = refl };
      tells = record {
        makes = record {
          subtx_kept = refl;
          entries = refl;
          pages = refl;
          held = refl;
          others = reserves_no_other m.shared.objects.reserved t.subtx.tx (cell_of op);
          items = refl;
        };
        pending = refl;
        spare = omega arith;
        reserved = reserves m.shared.objects.reserved t.subtx.tx (cell_of op);
        room = refl;
      };
    };
    rest = refl;
  }

  -- so it might take its steps
  may_operate : MayOperate (context_by bits_of m.root m.active t.subtx.tx) (local t.subtx m.shared.pages) (started_for (Do op))
  may_operate =
      let then : IsManager bits_of were_called = called_keeps bits_of m h tx were_called refl op would_call in
      let steps : MayStepAt (At.Pending (started_for (Do op))) (context_by bits_of m.root m.active tx) called with_room =
      may_step (state_of bits_of were_called then.images then.base) tx called then.sound (inserted_here m.txs tx called) (λ is. subst IsBusy is tt) in
      subst (λ (n : ℕ). MayOperate (context_by bits_of m.root m.active n) (local t.subtx m.shared.pages) (started_for (Do op))) (sym number) (steps.0.goes refl)

  -- **It may be called at once, where it alone is open.**
  pub may_call_fast : map.len m.txs ≤ 1 → (one : Transaction) × (map.get m.txs tx ≡ Some one) × MayCallFast (context_by bits_of m.root m.active one.subtx.tx) op one m.shared
  may_call_fast alone = (
    t,
    may.1.there,
    record {
      idle = may.1.idle;
      fresh = λ i. record { tx = t.subtx.tx; images = no_images i };
      free = nobody_holds alone;
      may = may_operate;
    },
  )

-- ---- what its steps come to

-- **Steps at once are steps one after another, up to the end.**
pub fast_up_to : {P : Type 0} (bits_of : P → ℕ → ℕ) (m : ManagerFields P) (tx : ℕ) (txs : Table) (shared : SharedState) (reply : ObjReply)
    → StepsOneFast (context_by bits_of m.root m.active) tx m.txs txs m.shared shared reply → StepsOnUpTo bits_of m (record m { shared = shared; txs = txs }) tx (Answer.Done reply)
fast_up_to bits_of m tx txs shared reply steps =
    let headed : ManagerFields _ = record m { shared = steps.with_header; txs = steps.headed } in
    let placed : ManagerFields _ = record m { shared = steps.with_directory; txs = steps.placed } in
    let told : ManagerFields _ = record m { shared = steps.with_bucket; txs = steps.told } in
    record {
      steps = (headed, Answer.Going) ∷ (placed, Answer.Going) ∷ (told, Answer.Going) ∷ [];
      before = told;
      goes = (
        stepped bits_of m tx steps.with_header steps.headed _ _ Answer.Going steps.first refl refl,
        tt,
        (
          stepped bits_of headed tx steps.with_directory steps.placed _ _ Answer.Going steps.second refl refl,
          tt,
          (stepped bits_of placed tx steps.with_bucket steps.told _ _ Answer.Going steps.third refl refl, tt, refl),
        ),
      );
      ends = stepped bits_of told tx shared txs _ _ (Answer.Done reply) steps.ends refl refl;
      stops = tt;
    }

-- **An operation that is done at once was called, and took its steps.**
pub done_fast : {P : Type 0} (bits_of : P → ℕ → ℕ) (m : ManagerFields P) (tx : ℕ) (op : ObjOp) (txs : Table) (shared : SharedState) (reply : ObjReply) → MayCall m tx → IsOpInRange op
    → DoesOneFast (context_by bits_of m.root m.active) tx op m.txs txs m.shared shared reply → HasRun bits_of m (record m { shared = shared; txs = txs }) tx op (Answer.Done reply)
done_fast bits_of m tx op txs shared reply may range does =
    let called : ManagerFields _ = record m { shared = does.with_room; txs = does.called } in
    record {
      called = called;
      calls = record { may = may; in_range = range; calls = does.calls; rest = refl };
      runs = record {
        stopped = record m { shared = shared; txs = txs };
        steps = fast_up_to bits_of called tx txs shared reply does.steps;
        drops = refl;
      };
    }

-- one that is not done at once was called
pub called_fast : {P : Type 0} (bits_of : P → ℕ → ℕ) (m : ManagerFields P) (tx : ℕ) (op : ObjOp) (txs : Table) (shared : SharedState) (told : Option ObjReply) → told ≡ None → MayCall m tx → IsOpInRange op
    → CallsOneFast told (context_by bits_of m.root m.active) tx op m.txs txs m.shared shared → HasCalled m (record m { shared = shared; txs = txs }) tx op
called_fast bits_of m tx op txs shared None is may range calls = record { may = may; in_range = range; calls = calls; rest = refl }
called_fast bits_of m tx op txs shared (Some reply) is may range calls = absurd cc
