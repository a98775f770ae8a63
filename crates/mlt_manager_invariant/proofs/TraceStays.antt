-- Events that leave the items, and the text of them
use Rattle.std.proofs.Common.{◌≡◌, ◌≢◌, ℕ, List, [], true, false, Option, None, Some, is_some, refl, sym, ap, subst, ◌∙◌, nat_cmp}
use Rattle.std.specs.FinMap as map
use Rattle.mlt_manager_invariant.proofs.Names.{Base, ObjReply, TraceItem, ItemsWithRoom, ArePlaced, IsWhole, told, OperationFields, Answer, SharedState, Transaction, tx_state_of, IsSound, State, is_undoing, IsTraced}
use Rattle.mlt_object_kinds.specs.Bases.{Step}
use Rattle.mlt_order.specs.{Histories.Stage.Running, Interleavings.UndoneTo}
use Rattle.mlt_trace.specs.{Items.trace_text, Numbers.committed_txs, Ranges.AllFit}
use Rattle.mlt_trace_check.{specs.Traces.IsAcceptedTrace, proofs.Histories.accepted_history, proofs.Histories.accepted_where_nothing_is_open, proofs.Histories.nothing_of_others, proofs.Places.nothing_placed, proofs.Places.writable}
use Rattle.mlt_hash_access.specs.CleanPages.{RunningImages}
use Rattle.mlt_hash.specs.Walks.{WalkContext}
use Rattle.mlt_tx_meaning.specs.AbstractStates.{lists_in}
use Rattle.mlt_tx.specs.{declared.transaction.At.At, Steps.TellsOfBack, Steps.TellsOfPending, Transactions.LeavesRoom, Transactions.StepsBack, Transactions.StepsPending, Transactions.TellsOfCancel}
use Rattle.mlt_manager_invariant.{specs.Events.Calls, specs.Events.KeepsClean, specs.Events.with_transaction, specs.Opening.opening_state, specs.States.abstract_state_of, specs.Transactions.BeginsAbort, proofs.Wholes.others_of, proofs.Wholes.whole_with}

pub opening_traced : (bits : ℕ → ℕ) (root max_depth max_ops : ℕ) (shared : SharedState) → shared.history.items ≡ [] → IsTraced (opening_state bits root max_depth max_ops shared)
opening_traced bits root max_depth max_ops shared none = record {
  placed = subst ArePlaced (sym none) nothing_placed;
  whole = λ i t found. let nobody = map.get-empty {X = Transaction} nat_cmp i in absurd (let f : None ≡ Some t = sym nobody ∙ found in cc f);
}

module _ (s : State) (i : ℕ) (before after : Transaction) (shared : SharedState) (images : RunningImages) (traced : IsTraced s) (was : map.get s.txs i ≡ Some before) where
  -- the items stay, and an abort that has begun goes on
  stays : shared.history.items ≡ s.shared.history.items → (is_undoing after.at ≡ false → is_undoing before.at ≡ false) → IsTraced (with_transaction s i after shared images)
  stays items forward = record {
    placed = subst ArePlaced (sym items) traced.placed;
    whole = whole_with s.txs i after shared.history.items
        (λ j t differ found not_undone. subst (λ (l : List TraceItem). IsWhole l j) (sym items) (others_of s i traced j t differ found not_undone))
        (λ not_undone. subst (λ (l : List TraceItem). IsWhole l i) (sym items) (traced.whole i before was (forward not_undone)));
  }

  same_items : shared.history ≡ s.shared.history → shared.history.items ≡ s.shared.history.items
  same_items history = ap (λ (h : ItemsWithRoom). h.items) history

  never_forward : (inverting : Option OperationFields) → after.at ≡ At.Undoing inverting → is_undoing after.at ≡ false → is_undoing before.at ≡ false
  never_forward inverting is not_undone = absurd (let f : true ≡ false = sym (ap is_undoing is) ∙ not_undone in cc f)

  pub clean_traced : KeepsClean s i before after shared images → IsTraced (with_transaction s i after shared images)
  clean_traced keeps = stays keeps.items (λ not_undone. sym keeps.undoing ∙ not_undone)

  pub called_traced : Calls s i before after shared → IsTraced (with_transaction s i after shared images)
  called_traced calls = stays calls.items (λ not_undone. ap is_undoing calls.idle)

  pub cancelled_traced : (o : OperationFields) → before.at ≡ At.Pending o → TellsOfCancel before after s.shared shared → IsTraced (with_transaction s i after shared images)
  cancelled_traced o pending c = stays (c.room.items ∙ ap (λ (h : ItemsWithRoom). h.items) c.history) (λ not_undone. ap is_undoing pending)

  by_answer : (context : WalkContext) (o next : OperationFields) (between : SharedState) (told_answer : Answer) → TellsOfPending context o next (tx_state_of before s.shared) (tx_state_of after between) told_answer
      → LeavesRoom told_answer between shared → ((reply : ObjReply) → told_answer ≡ Answer.Done reply → ⊥) → shared.history.items ≡ s.shared.history.items
  by_answer context o next between Answer.Going tells same apart = ap (λ (c : SharedState). c.history.items) same ∙ ap (λ (h : ItemsWithRoom). h.items) tells.rest.history
  by_answer context o next between (Answer.Waiting page by) tells same apart = ap (λ (c : SharedState). c.history.items) same ∙ ap (λ (h : ItemsWithRoom). h.items) tells.rest.history
  by_answer context o next between (Answer.Blocked by) (ends, anew) same apart = ap (λ (c : SharedState). c.history.items) same ∙ ap (λ (h : ItemsWithRoom). h.items) ends.tells.history
  by_answer context o next between (Answer.Done reply) tells same apart = absurd (apart reply refl)
  by_answer context o next between (Answer.Refused reason) tells gives apart = gives.items ∙ ap (λ (h : ItemsWithRoom). h.items) tells.rest.history
  by_answer context o next between Answer.Undone tells same apart = absurd tells
  by_answer context o next between Answer.Aborted tells same apart = absurd tells

  pub not_done_traced : (context : WalkContext) (o : OperationFields) (told_answer : Answer) → before.at ≡ At.Pending o → StepsPending context o before after s.shared shared told_answer
      → ((reply : ObjReply) → told_answer ≡ Answer.Done reply → ⊥) → IsTraced (with_transaction s i after shared images)
  not_done_traced context o told_answer pending steps apart =
      stays (by_answer context o steps.next steps.between told_answer steps.tells steps.leaves apart) (λ not_undone. ap is_undoing pending)

  by_back : (context : WalkContext) (inverting next : Option OperationFields) (told_answer : Answer) → TellsOfBack context inverting next (tx_state_of before s.shared) (tx_state_of after shared) told_answer
      → (told_answer ≡ Answer.Undone → ⊥) → (told_answer ≡ Answer.Aborted → ⊥) → shared.history.items ≡ s.shared.history.items
  by_back context inverting next Answer.Going tells undone aborted = same_items tells.rest.history
  by_back context inverting next (Answer.Waiting page by) tells undone aborted = same_items tells.rest.history
  by_back context inverting next Answer.Undone tells undone aborted = absurd (undone refl)
  by_back context inverting next Answer.Aborted tells undone aborted = absurd (aborted refl)
  by_back context inverting next other tells undone aborted = absurd tells

  pub inverse_traced : (context : WalkContext) (inverting : Option OperationFields) (told_answer : Answer) → StepsBack context inverting before after s.shared shared told_answer
      → (told_answer ≡ Answer.Undone → ⊥) → (told_answer ≡ Answer.Aborted → ⊥) → IsTraced (with_transaction s i after shared images)
  inverse_traced context inverting told_answer steps undone aborted =
      stays (by_back context inverting steps.next told_answer steps.tells undone aborted) (never_forward steps.next steps.now_at)

pub abort_traced : (s : State) (i : ℕ) (before after : Transaction) (images : RunningImages) → IsTraced s → map.get s.txs i ≡ Some before → BeginsAbort before after → IsTraced (with_transaction s i after s.shared images)
abort_traced s i before after images traced was begins =
    stays s i before after s.shared images traced was refl (never_forward s i before after s.shared images traced was None begins.undoing)

-- ---- the text

abbrev AcceptedWithOpen : State → Type 0
AcceptedWithOpen s = (base : Base) × IsAcceptedTrace (trace_text s.shared.history.items) (committed_txs s.shared.history.items) base × UndoneTo Step base (lists_in (abstract_state_of s)).transcripts s.base

pub text_accepted : (s : State) → IsSound s → IsTraced s → AllFit s.shared.history.items → AcceptedWithOpen s
text_accepted s sound traced fit =
    let items = s.shared.history.items in
    accepted_history items s.base (writable items traced.placed sound.begun fit) traced.placed sound.match.records.history

pub nobody_runs : (s : State) → IsSound s → ((i : ℕ) → map.get s.txs i ≡ None) → (i : ℕ) → (told s.shared.history.items).stage i ≢ Running
nobody_runs s sound none i running =
    let opened = (sound.match.records.running i).1 running in
    let f : true ≡ false = sym opened ∙ sound.opened i ∙ ap is_some (none i) in
    cc f

pub text_accepted_where_nobody_is_open : (s : State) → IsSound s → IsTraced s → AllFit s.shared.history.items → ((i : ℕ) → map.get s.txs i ≡ None)
    → IsAcceptedTrace (trace_text s.shared.history.items) (committed_txs s.shared.history.items) s.base
text_accepted_where_nobody_is_open s sound traced fit none =
    let items = s.shared.history.items in
    accepted_where_nothing_is_open items s.base (writable items traced.placed sound.begun fit) traced.placed sound.match.records.history
    (λ tx. nothing_of_others items s.base sound.match.records.history tx (nobody_runs s sound none tx))
