-- Each open transaction that is not idle may take a step
use Rattle.std.proofs.Common.{◌≡◌, ◌≢◌, ℕ, ◌+◌, ◌≤◌, true, false, List, [], ◌∷◌, ◌++◌, length, Option, None, Some, is_some, unwrap_or, refl, sym, ap, subst, ◌∙◌, arith, length-append, Contains}
use Rattle.std.specs.FinMap as map
use Rattle.mlt_manager_invariant.proofs.Names.{false≢true, Contains-append_right, none-some, ObjOp, ObjReply, cell_of, IsInRange, reservation_of, Images, LocalState, local, view_of, AllRunning, HoldsNothing, clean_of, is_open, local_of, Stands, Do, TakeBack, size_key_of, starts, IsOperating, OperationFields, started_for, MayUndo, context_of, At, Transaction, Fits, FitsAt, HasPending, IsSound, State, all_of, images_kept, is_undoing, is_undoing_at, pending_room, room_of, abstract_state_of}
use Rattle.mlt_trace.proofs.RoomLaws.{room_within_total}
use Rattle.mlt_page_locks.specs.LockTables.{Modes, pages_of}
use Rattle.mlt_page_subtx.specs.Images.{AreThere}
use Rattle.mlt_hash_access.proofs.AllRunning.{clean_for_each, each_may_step}
use Rattle.mlt_tx_operation.specs.Operating.{CanDo, CanDoBy, MayOperate}
use Rattle.mlt_tx_meaning.proofs.{Matches.in_range_there, TwoEnds.can_do_both, TwoEnds.can_take_back_both, Walks.undone_is_there}
use Rattle.mlt_tx.specs.{Steps.IsInverting, Steps.MayStepBack, Steps.MayStepOn, Transactions.MayStepAt, Transactions.MayStepIn}

-- a list that is not empty has a last item
pub last_of_some : {A : Type 0} (xs : List A) → (xs ≡ [] → ⊥) → (front : List A) × (last : A) × (xs ≡ front ++ last ∷ [])
last_of_some [] some = absurd (some refl)
last_of_some (x ∷ []) some = ([], x, refl)
last_of_some (x ∷ y ∷ ys) some =
    let rest = last_of_some (y ∷ ys) (λ none. absurd cc) in
    (x ∷ rest.0, rest.1, ap (λ l. x ∷ l) rest.2)

holds_none : (o : Option Modes) → is_some o ≡ false → unwrap_or o map.empty ≡ map.empty
holds_none None none = refl
holds_none (Some modes) none = absurd (false≢true (sym none))

-- who holds nothing holds no page
pub unheld : (all : AllRunning) (i : ℕ) → HoldsNothing all i → pages_of all.locks i ≡ map.empty
unheld all i none = holds_none (map.get all.locks.held i) none.no_locks

module _ (s : State) (i : ℕ) (t : Transaction) (sound : IsSound s) (is : map.get s.txs i ≡ Some t) where
  own : Fits s i t
  own = sound.fits i t is

  pub is_open_now : is_open (all_of s) i ≡ true
  is_open_now = ap is_some (sound.kept i ∙ ap images_kept is)

  -- what its next step works on
  pub same_local : local_of (all_of s) i ≡ local t.subtx s.shared.pages
  same_local p = record {
    running = record { tx = sym own.number p; images = ap (λ (o : Option Images). unwrap_or o map.empty) (sound.kept i ∙ ap images_kept is) p };
    locks = s.shared.pages.locks;
    store = s.shared.pages.store;
  }

  may_operate : (o : OperationFields) → IsOperating (context_of (abstract_state_of s) i) o (view_of (local_of (all_of s) i)) → CanDo (context_of (abstract_state_of s) i) (clean_of (all_of s)) o.request
      → MayOperate (context_of (abstract_state_of s) i) (local t.subtx s.shared.pages) o
  may_operate o operates can =
      subst (λ (m : LocalState). MayOperate (context_of (abstract_state_of s) i) m o) same_local (record {
        bounded = sound.match.file.bounded;
        small = sound.match.file.small;
        may = each_may_step (all_of s) i sound.running is_open_now;
        file = record { clean = clean_of (all_of s); is_clean = clean_for_each (all_of s) i sound.running; form = sound.match.file.form };
        shallow = sound.match.file.shallow;
        operates = operates;
        can = can;
      })

  room_there : room_of t ≤ s.shared.history.room
  room_there = omega (arith, sound.room, room_within_total room_of s.txs i t is)

  there : AreThere t.subtx.images s.shared.pages.store.pages
  there = subst (λ (m : LocalState). AreThere m.running.images m.store.pages) same_local (each_may_step (all_of s) i sound.running is_open_now).images_there

  -- what an operation is to change is there
  can_do : (op : ObjOp) → IsInRange (cell_of op) → CanDo (context_of (abstract_state_of s) i) (clean_of (all_of s)) (Do op)
  can_do op range = by (size_key_of (Do op))
    where
      by : (key : Option ℕ) → CanDoBy key (context_of (abstract_state_of s) i) (clean_of (all_of s)) (Do op)
      by None = tt
      by (Some size) = can_do_both (abstract_state_of s) i sound.match op range

  may_step_on : (o : OperationFields) → t.at ≡ At.Pending o → MayStepOn (context_of (abstract_state_of s) i) o t.subtx t.undo s.shared × (2 ≤ s.shared.history.room)
  may_step_on o pending_at =
      let pending : HasPending s i t o = subst (λ (a : At). FitsAt a s i t) pending_at own.where_at in
      let two : pending_room t.at ≡ 2 = ap pending_room pending_at in
      let can : CanDo (context_of (abstract_state_of s) i) (clean_of (all_of s)) o.request = subst (CanDo (context_of (abstract_state_of s) i) (clean_of (all_of s))) (sym pending.asked) (can_do pending.op pending.in_range.cell) in (
        record {
          op = pending.op;
          asked = pending.asked;
          goes = λ none. may_operate o pending.operates can;
          ends = λ reply told. record {
            reserved = ap (reservation_of s.shared.objects.reserved) own.number ∙ pending.reserved;
            spare = pending.spare;
            room = omega (arith, room_there, two);
            there = there;
          };
        },
        omega (arith, room_there, two),
      )

  may_undo : (front : List (ObjOp × ObjReply)) (last : ObjOp × ObjReply) → is_undoing t.at ≡ true → t.undo.entries ≡ front ++ last ∷ [] → MayUndo (abstract_state_of s) i last
  may_undo front last undoing entries = record {
    is_open = sound.opened i ∙ ap is_some is;
    backward = ap is_undoing_at is ∙ undoing;
    rest = front;
    last = sym own.stands ∙ entries;
  }

  pub last_in_range : (front : List (ObjOp × ObjReply)) (last : ObjOp × ObjReply) → t.undo.entries ≡ front ++ last ∷ [] → IsInRange (cell_of last.0)
  last_in_range front last entries =
      in_range_there (abstract_state_of s) sound.match i last (subst (λ (l : List (ObjOp × ObjReply)). Contains l last) (sym entries ∙ own.stands) (Contains-append_right front (last ∷ []) last (0, omega arith, refl)))

  can_take_back : (front : List (ObjOp × ObjReply)) (last : ObjOp × ObjReply) → is_undoing t.at ≡ true → t.undo.entries ≡ front ++ last ∷ [] → CanDo (context_of (abstract_state_of s) i) (clean_of (all_of s)) (TakeBack last)
  can_take_back front last undoing entries = by (size_key_of (TakeBack last))
    where
      by : (key : Option ℕ) → CanDoBy key (context_of (abstract_state_of s) i) (clean_of (all_of s)) (TakeBack last)
      by None = λ walk view bucket depth found key phase here agree.
          let both = undone_is_there (abstract_state_of s) i last walk view bucket depth found sound.match (may_undo front last undoing entries) phase key
          (subst (λ p. Stands p (context_of (abstract_state_of s) i) walk view) (sym phase) here) agree in
          record { fits = both.0; ghost = both.1 }
      by (Some size) = can_take_back_both (abstract_state_of s) i sound.match last (may_undo front last undoing entries)

  -- one that holds nothing is at the start of an inverse
  starts_inverse : (front : List (ObjOp × ObjReply)) (last : ObjOp × ObjReply) → is_undoing t.at ≡ true → t.undo.entries ≡ front ++ last ∷ [] → HoldsNothing (all_of s) i
      → MayOperate (context_of (abstract_state_of s) i) (local t.subtx s.shared.pages) (started_for (TakeBack last))
  starts_inverse front last undoing entries none =
      may_operate (started_for (TakeBack last)) (starts (context_of (abstract_state_of s) i) (TakeBack last) (local_of (all_of s) i) (last_in_range front last entries) (unheld (all_of s) i none)) (can_take_back front last undoing entries)

  may_step_back : (inverting : Option OperationFields) → t.at ≡ At.Undoing inverting → FitsAt (At.Undoing inverting) s i t → MayStepBack (context_of (abstract_state_of s) i) inverting t.subtx t.undo s.shared
  may_step_back None back_at fits =
      let last = last_of_some t.undo.entries fits.1 in
      let undoing : is_undoing t.at ≡ true = ap is_undoing back_at in
      let longer : length t.undo.entries ≡ length last.0 + 1 = ap length last.2 ∙ length-append last.0 (last.1 ∷ []) in
      record {
        front = last.0;
        last = last.1;
        entries = last.2;
        room = omega (arith, room_there, longer);
        starts = λ none has. starts_inverse last.0 last.1 undoing last.2 fits.0;
        runs = λ o some. absurd (none-some o some);
        goes = λ o some none. absurd (none-some o some);
      }
  may_step_back (Some o) back_at fits =
      let undoing : is_undoing t.at ≡ true = ap is_undoing back_at in
      let longer : length t.undo.entries ≡ length fits.front + 1 = ap length fits.entries ∙ length-append fits.front (fits.last ∷ []) in
      let may : MayOperate (context_of (abstract_state_of s) i) (local t.subtx s.shared.pages) o =
      may_operate o fits.operates (subst (CanDo (context_of (abstract_state_of s) i) (clean_of (all_of s))) (sym fits.inverts.asked) (can_take_back fits.front fits.last undoing fits.entries)) in
      record {
        front = fits.front;
        last = fits.last;
        entries = fits.entries;
        room = omega (arith, room_there, longer);
        starts = λ none has. absurd (none-some o (sym none));
        runs = λ p some. subst (IsInverting fits.last) (let same : o ≡ p = cc in same) fits.inverts;
        goes = λ p some none. subst (MayOperate (context_of (abstract_state_of s) i) (local t.subtx s.shared.pages)) (let same : o ≡ p = cc in same) may;
      }

  by_at : (a : At) → t.at ≡ a → FitsAt a s i t → (a ≡ At.Idle → ⊥) → MayStepAt a (context_of (abstract_state_of s) i) t s.shared
  by_at At.Idle at_is fits busy = absurd (busy refl)
  by_at (At.Pending o) at_is fits busy = may_step_on o at_is
  by_at (At.Undoing inverting) at_is fits busy = may_step_back inverting at_is fits

  -- **It may take a step.**
  pub may_step : t.at ≢ At.Idle → MayStepIn (context_of (abstract_state_of s) i) t s.shared
  may_step busy = by_at t.at refl own.where_at busy
