-- Steps of a pending operation that is not done
use Rattle.std.proofs.Common.{◌≡◌, ℕ, ◌+◌, ◌≤◌, false, ◌<◌, length, Some, refl, sym, ap, subst, ◌∙◌, inl, inr, arith}
use Rattle.std.specs.FinMap as map
use Rattle.mlt_manager_invariant.proofs.Names.{ObjOp, ObjReply, IsInRange, Request, released, Locks, reservation_of, ItemsWithRoom, Running, put_back, started, Undo, LockedStore, LocalState, local, view_of, RunningImages, AllRunning, HoldsNothing, after_roll_back, after_step, images_by, local_of, nothing_after_roll_back, context_of, IsOperating, OperationFields, started_for, TakesTurn, TurnsBack, Answer, starts, SharedState, At, Transaction, KeepsCleanPages, with_transaction, FitsAt, HasPending, IsSound, State, all_of, is_undoing, pending_room, room_of, abstract_state_of}
use Rattle.mlt_tx_operation.{specs.declared.answer.StepAnswer.StepAnswer, proofs.Operations.cell_asked}
use Rattle.mlt_tx.specs.{Steps.KeepsRest, Steps.TellsOfPending, Steps.Walks, Endings.IsBlocked}
use Rattle.mlt_tx.specs.Transactions.{GivesUpRoom, LeavesRoom, StepsPending, pending_after, tx_state_of}
use Rattle.mlt_manager_invariant.proofs.{MaySteps.is_open_now, MaySteps.same_local, MaySteps.unheld, Turning.local_now, Turning.sound_after, Turning.stays_all, Turning.turns_all, Tables.inserted_here}
use Rattle.mlt_manager_invariant.proofs.Turned.{LeavesAll, rolled_back, stepped, turn_back_leaves, turn_leaves}

module _ (s : State) (i : ℕ) (o : OperationFields) (before after : Transaction) (shared : SharedState)
    (sound : IsSound s) (was : map.get s.txs i ≡ Some before) (pending_at : before.at ≡ At.Pending o) where
  abbrev now : RunningImages → State
  now images = with_transaction s i after shared images

  pending : HasPending s i before o
  pending = subst (λ (a : At). FitsAt a s i before) pending_at (sound.fits i before was).where_at

  -- the operation is pending still, and another step of it is to come
  still : (images : RunningImages) (next : OperationFields) → map.get images i ≡ Some after.subtx.images → after.subtx.tx ≡ i
      → next.request ≡ o.request → IsOperating (context_of (abstract_state_of s) i) next (view_of (local after.subtx shared.pages))
      → after.undo ≡ before.undo → shared.objects ≡ s.shared.objects → HasPending (with_transaction s i after shared images) i after next
  still images next own tx request operates undo objects = record {
    op = pending.op;
    asked = request ∙ pending.asked;
    in_range = pending.in_range;
    operates = subst (λ (m : LocalState). IsOperating (context_of (abstract_state_of s) i) next (view_of m)) (sym (local_now s i after shared images own tx)) operates;
    reserved = ap (λ (l : Locks). reservation_of l.reserved i) objects ∙ pending.reserved;
    spare = subst (λ (u : Undo). 1 ≤ u.spare) (sym undo) pending.spare;
    fewer = subst (λ (u : Undo). length u.entries < s.max_ops) (sym undo) pending.fewer;
  }

  same_room : (next : OperationFields) → after.at ≡ At.Pending next → after.undo ≡ before.undo → shared.history ≡ s.shared.history
      → shared.history.room + room_of before ≡ s.shared.history.room + room_of after
  same_room next is undo history =
      let two : pending_room before.at ≡ 2 = ap pending_room pending_at in
      let two_still : pending_room after.at ≡ 2 = ap pending_room is in
      let rooms : shared.history.room ≡ s.shared.history.room = ap (λ (h : ItemsWithRoom). h.room) history in
      let lengths : length after.undo.entries ≡ length before.undo.entries = ap (λ (u : Undo). length u.entries) undo in
      omega (arith, two, two_still, rooms, lengths)

  still_forward : (a : At) → after.at ≡ a → is_undoing a ≡ false → is_undoing after.at ≡ is_undoing before.at
  still_forward a is forward = ap is_undoing is ∙ forward ∙ sym (ap is_undoing pending_at)

  -- it takes a turn
  turned : (next : OperationFields) → after.at ≡ At.Pending next → KeepsRest before.undo after.undo s.shared shared
      → TakesTurn (local before.subtx s.shared.pages) (local after.subtx shared.pages)
      → next.request ≡ o.request → IsOperating (context_of (abstract_state_of s) i) next (view_of (local after.subtx shared.pages))
      → KeepsCleanPages s i before after shared
  turned next is rest turn request operates =
      let t = turns_all s i before after shared sound was turn in
      sound_after s i before after shared sound was t.0 t.1.leaves t.1.same t.1.own t.1.number rest.undo_kept rest.objects (ap (λ (h : ItemsWithRoom). h.items) rest.history) (same_room next is rest.undo_kept rest.history) (still_forward (At.Pending next) is refl)
      (subst (λ (a : At). FitsAt a (with_transaction s i after shared t.0.images) i after) (sym is) (still t.0.images next t.1.own t.1.number request operates rest.undo_kept rest.objects))

  -- it is rolled back from here, and holds nothing
  pub back_to : (all : AllRunning) → LeavesAll i (all_of s) (after_roll_back all i) → after.subtx ≡ started i → shared.pages.locks ≡ released all.locks i
      → shared.pages.store ≡ record all.store { pages = put_back (images_by all i) all.store.pages }
      → (all_of (with_transaction s i after shared (after_roll_back all i).images) ≡ after_roll_back all i) × (map.get (after_roll_back all i).images i ≡ Some after.subtx.images)
  back_to all leaves running locks store = (
    (λ p. record { images = map.insert all.images i map.empty; locks = locks p; store = store p }),
    inserted_here all.images i map.empty ∙ sym (ap (λ (r : Running). Some r.images) running),
  )

  -- all that a turn did is rolled back
  rolled : (back : TurnsBack (local_of (all_of s) i) (local after.subtx shared.pages))
      → (all : AllRunning) × LeavesAll i (all_of s) (after_roll_back all i) × (after.subtx ≡ started i)
      × (all_of (with_transaction s i after shared (after_roll_back all i).images) ≡ after_roll_back all i) × (map.get (after_roll_back all i).images i ≡ Some after.subtx.images)
  rolled back =
      let m : LocalState = local after.subtx shared.pages in
      let opened = is_open_now s i before sound was in
      let turned = turn_leaves (all_of s) i back.mid sound.running opened back.turn in
      let all = after_step (all_of s) back.mid in
      let leaves = turn_back_leaves (all_of s) i m sound.running opened back in
      let running : after.subtx ≡ started i = back.back.running ∙ ap started turned.1 in
      let here : local_of all i ≡ back.mid = stepped (all_of s) i back.mid turned.1 in
      let locks : shared.pages.locks ≡ released all.locks i = back.back.locks ∙ ap (λ (n : ℕ). released back.mid.locks n) turned.1 in
      let store : shared.pages.store ≡ record all.store { pages = put_back (images_by all i) all.store.pages } =
      back.back.store ∙ ap (λ (n : LocalState). record back.mid.store { pages = put_back n.running.images back.mid.store.pages }) (sym here) in
      let both = back_to all leaves running locks store in
      (all, leaves, running, both.0, both.1)

  back_here : TurnsBack (local before.subtx s.shared.pages) (local after.subtx shared.pages) → TurnsBack (local_of (all_of s) i) (local after.subtx shared.pages)
  back_here back = subst (λ (n : LocalState). TurnsBack n (local after.subtx shared.pages)) (sym (same_local s i before sound was)) back

  -- it begins another pass
  restarted : (next : OperationFields) → after.at ≡ At.Pending next → KeepsRest before.undo after.undo s.shared shared
      → TurnsBack (local before.subtx s.shared.pages) (local after.subtx shared.pages)
      → next.request ≡ o.request → IsOperating (context_of (abstract_state_of s) i) next (view_of (local after.subtx shared.pages))
      → KeepsCleanPages s i before after shared
  restarted next is rest back request operates =
      let r = rolled (back_here back) in
      let tx : after.subtx.tx ≡ i = ap (λ (t : Running). t.tx) r.2 in
      sound_after s i before after shared sound was (after_roll_back r.0 i) r.1 r.3 r.4 tx rest.undo_kept rest.objects (ap (λ (h : ItemsWithRoom). h.items) rest.history) (same_room next is rest.undo_kept rest.history) (still_forward (At.Pending next) is refl)
      (subst (λ (a : At). FitsAt a (with_transaction s i after shared (after_roll_back r.0 i).images) i after) (sym is) (still (after_roll_back r.0 i).images next r.4 tx request operates rest.undo_kept rest.objects))

  -- it is idle, and holds nothing
  idle_now : (all : AllRunning) → all_of (with_transaction s i after shared (after_roll_back all i).images) ≡ after_roll_back all i → after.at ≡ At.Idle → FitsAt after.at (with_transaction s i after shared (after_roll_back all i).images) i after
  idle_now all same is = subst (λ (a : At). FitsAt a (with_transaction s i after shared (after_roll_back all i).images) i after) (sym is) (subst (λ (a : AllRunning). HoldsNothing a i) (sym same) (nothing_after_roll_back all i))

  -- it is refused, and idle
  refused : (between : SharedState) → TurnsBack (local before.subtx s.shared.pages) (local after.subtx between.pages) → KeepsRest before.undo after.undo s.shared between
      → GivesUpRoom 2 between shared → after.at ≡ At.Idle → KeepsCleanPages s i before after shared
  refused between back rest gives is =
      let back_now : TurnsBack (local before.subtx s.shared.pages) (local after.subtx shared.pages) = subst (λ (l : LockedStore). TurnsBack (local before.subtx s.shared.pages) (local after.subtx l)) (sym gives.pages) back in
      let r = rolled (back_here back_now) in
      let tx : after.subtx.tx ≡ i = ap (λ (t : Running). t.tx) r.2 in
      let two : pending_room before.at ≡ 2 = ap pending_room pending_at in
      let none : pending_room after.at ≡ 0 = ap pending_room is in
      let rooms : between.history.room ≡ s.shared.history.room = ap (λ (h : ItemsWithRoom). h.room) rest.history in
      let lengths : length after.undo.entries ≡ length before.undo.entries = ap (λ (u : Undo). length u.entries) rest.undo_kept in
      sound_after s i before after shared sound was (after_roll_back r.0 i) r.1 r.3 r.4 tx rest.undo_kept (gives.objects ∙ rest.objects) (gives.items ∙ ap (λ (h : ItemsWithRoom). h.items) rest.history)
      (omega (arith, gives.room, two, none, rooms, lengths)) (still_forward At.Idle is refl) (idle_now r.0 r.3 is)

  -- it waits, and nothing has changed
  waited : (next : OperationFields) → after.at ≡ At.Pending next → KeepsRest before.undo after.undo s.shared shared
      → local after.subtx shared.pages ≡ local before.subtx s.shared.pages → next ≡ o → KeepsCleanPages s i before after shared
  waited next is rest same stays =
      let t = stays_all s i before after shared sound was same in
      let operates : IsOperating (context_of (abstract_state_of s) i) next (view_of (local after.subtx shared.pages)) =
      subst (λ (m : LocalState). IsOperating (context_of (abstract_state_of s) i) next (view_of m)) (same_local s i before sound was ∙ sym same) (subst (λ (p : OperationFields). IsOperating (context_of (abstract_state_of s) i) p (view_of (local_of (all_of s) i))) (sym stays) pending.operates) in
      sound_after s i before after shared sound was (all_of s) t.leaves t.same t.own t.number rest.undo_kept rest.objects (ap (λ (h : ItemsWithRoom). h.items) rest.history) (same_room next is rest.undo_kept rest.history) (still_forward (At.Pending next) is refl)
      (subst (λ (a : At). FitsAt a (with_transaction s i after shared s.images) i after) (sym is) (still s.images next t.own t.number (ap (λ (p : OperationFields). p.request) stays) operates rest.undo_kept rest.objects))

  -- it is blocked, and to be run anew
  blocked : (next : OperationFields) (by : ℕ) → after.at ≡ At.Pending next → next ≡ started_for o.request
      → (item : ObjOp × ObjReply) → IsBlocked item (tx_state_of before s.shared) (tx_state_of after shared) by
      → KeepsCleanPages s i before after shared
  blocked next by is anew item b =
      let fits = sound.fits i before was in
      let all = all_of s in
      let leaves = rolled_back all i sound.running (is_open_now s i before sound was) in
      let running : after.subtx ≡ started i = b.back.running ∙ ap started fits.number in
      let locks : shared.pages.locks ≡ released all.locks i = b.back.locks ∙ ap (λ (n : ℕ). released all.locks n) fits.number in
      let store : shared.pages.store ≡ record all.store { pages = put_back (images_by all i) all.store.pages } =
      b.back.store ∙ ap (λ (m : LocalState). record all.store { pages = put_back m.running.images all.store.pages }) (sym (same_local s i before sound was)) in
      let both = back_to all leaves running locks store in
      let tx : after.subtx.tx ≡ i = ap (λ (t : Running). t.tx) running in
      let images = (after_roll_back all i).images in
      let nothing : HoldsNothing (all_of (with_transaction s i after shared images)) i = subst (λ (a : AllRunning). HoldsNothing a i) (sym both.0) (nothing_after_roll_back all i) in
      let range : IsInRange (cell_asked o.request) = subst (λ (r : Request). IsInRange (cell_asked r)) (sym pending.asked) pending.in_range.cell in
      let at_rest : IsOperating (context_of (abstract_state_of s) i) (started_for o.request) (view_of (local after.subtx shared.pages)) =
      subst (λ (m : LocalState). IsOperating (context_of (abstract_state_of s) i) (started_for o.request) (view_of m)) (local_now s i after shared images both.1 tx)
      (starts (context_of (abstract_state_of s) i) o.request (local_of (all_of (with_transaction s i after shared images)) i) range (unheld (all_of (with_transaction s i after shared images)) i nothing)) in
      let operates : IsOperating (context_of (abstract_state_of s) i) next (view_of (local after.subtx shared.pages)) =
      subst (λ (p : OperationFields). IsOperating (context_of (abstract_state_of s) i) p (view_of (local after.subtx shared.pages))) (sym anew) at_rest in
      sound_after s i before after shared sound was (after_roll_back all i) leaves both.0 both.1 tx b.kept b.objects (ap (λ (h : ItemsWithRoom). h.items) b.history) (same_room next is b.kept b.history) (still_forward (At.Pending next) is refl)
      (subst (λ (a : At). FitsAt a (with_transaction s i after shared images) i after) (sym is) (still images next both.1 tx (ap (λ (p : OperationFields). p.request) anew) operates b.kept b.objects))

  by_answer : (told : Answer) (next : OperationFields) (between : SharedState) → TellsOfPending (context_of (abstract_state_of s) i) o next (tx_state_of before s.shared) (tx_state_of after between) told
      → after.at ≡ pending_after told next → LeavesRoom told between shared → ((reply : ObjReply) → told ≡ Answer.Done reply → ⊥)
      → KeepsCleanPages s i before after shared
  by_answer Answer.Going next between tells is same not =
      let w = subst (λ (b : SharedState). Walks (context_of (abstract_state_of s) i) o next (tx_state_of before s.shared) (tx_state_of after b) StepAnswer.Going) (sym same) tells in
      elim w.tells [
        | inl goes ↦ turned next is w.rest goes.turn goes.request goes.operates
        | inr (inl splits) ↦ turned next is w.rest splits.turn splits.request splits.operates
        | inr (inr again) ↦ restarted next is w.rest again.back again.request again.operates
      ]
  by_answer (Answer.Waiting page by) next between tells is same not =
      let w = subst (λ (b : SharedState). Walks (context_of (abstract_state_of s) i) o next (tx_state_of before s.shared) (tx_state_of after b) (StepAnswer.Waiting page by)) (sym same) tells in
      waited next is w.rest w.tells.pages w.tells.stays
  by_answer (Answer.Blocked by) next between (ends, anew) is same not =
      blocked next by is anew (ends.op, ends.reply) (subst (λ (b : SharedState). IsBlocked (ends.op, ends.reply) (tx_state_of before s.shared) (tx_state_of after b) by) (sym same) ends.tells)
  by_answer (Answer.Done reply) next between tells is same not = absurd (not reply refl)
  by_answer (Answer.Refused reason) next between tells is gives not = refused between tells.tells.back tells.rest gives is
  by_answer Answer.Undone next between tells is same not = absurd tells
  by_answer Answer.Aborted next between tells is same not = absurd tells

-- **A step of a pending operation that is not done keeps all that is always true.**
pub not_done_sound : (s : State) (i : ℕ) (o : OperationFields) (before after : Transaction) (shared : SharedState) (told : Answer) → IsSound s → map.get s.txs i ≡ Some before → before.at ≡ At.Pending o
    → StepsPending (context_of (abstract_state_of s) i) o before after s.shared shared told → ((reply : ObjReply) → told ≡ Answer.Done reply → ⊥)
    → KeepsCleanPages s i before after shared
not_done_sound s i o before after shared told sound was pending_at steps not =
    by_answer s i o before after shared sound was pending_at told steps.next steps.between steps.tells steps.now_at steps.leaves not
