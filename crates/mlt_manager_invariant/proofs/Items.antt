-- Events of which the history gets items
use Rattle.std.proofs.Common.{◌≡◌, ◌≢◌, ℕ, ◌+◌, List, [], ◌∷◌, ◌++◌, true, false, Option, None, Some, refl, sym, ap, subst, ◌∙◌, append_assoc}
use Rattle.std.specs.FinMap as map
use Rattle.mlt_manager_invariant.proofs.Names.{Base, ObjOp, ObjReply, TraceItem, ItemsWithRoom, commit_count, ArePlaced, HasPlace, IsWhole, told, whole_more, OperationFields, Answer, tx_state_of, SharedState, Transaction, IsSound, State, is_undoing, IsTraced}
use Rattle.mlt_order.{specs.Histories.Lists, specs.Histories.but_last, proofs.Growing.but_last-push, proofs.Tables.changed}
use Rattle.mlt_trace_check.proofs.{Progressing.placed_more, Growing.told-push, Places.whole_begin}
use Rattle.mlt_tx.specs.Steps.{EndsBack}
use Rattle.mlt_manager_invariant.{specs.Events.EndsPending, specs.Events.with_end, specs.Transactions.Begins, specs.Transactions.Ends, specs.Transactions.with_next, specs.Transactions.without_transaction, specs.Undoing.TakesLastBack, specs.Undoing.with_aborted, specs.Undoing.with_undone, proofs.Wholes.others_more, proofs.Wholes.others_of, proofs.Wholes.whole_with, proofs.Wholes.whole_without}
use Rattle.mlt_manager_invariant.proofs.Places.{back_place, begin_place, close_place, commit_place, done_place}

placed_as : (items new : List TraceItem) (item : TraceItem) → new ≡ items ++ item ∷ [] → ArePlaced items → HasPlace items item → ArePlaced new
placed_as items new item is placed place = subst ArePlaced (sym is) (placed_more items item placed place)

whole_as : (items new : List TraceItem) (item : TraceItem) (i : ℕ) → new ≡ items ++ item ∷ [] → item ≢ TraceItem.Back i → IsWhole items i → IsWhole new i
whole_as items new item i is other whole = subst (λ (l : List TraceItem). IsWhole l i) (sym is) (whole_more items item i other whole)

-- ---- a transaction begins

pub begin_traced : (s : State) (t : Transaction) (shared : SharedState) → IsSound s → IsTraced s → Begins s t shared → IsTraced (with_next s t shared)
begin_traced s t shared sound traced begins =
    let items = s.shared.history.items in
    let next = s.begun + 1 in
    let place = begin_place s sound in
    record {
      placed = placed_as items shared.history.items (TraceItem.Begin next) begins.items traced.placed place;
      whole = whole_with s.txs next t shared.history.items (others_more s.txs next items shared.history.items (TraceItem.Begin next) begins.items (λ j differ e. cc e) (others_of s next traced))
          (λ forward. subst (λ (l : List TraceItem). IsWhole l next) (sym begins.items) (whole_begin items next traced.placed place));
    }

-- ---- an operation is done

pub done_traced : (s : State) (i : ℕ) (o : OperationFields) (before after : Transaction) (shared : SharedState) (told_reply : ObjReply) (base : Base) → IsSound s → IsTraced s → map.get s.txs i ≡ Some before
    → EndsPending s i o before after shared told_reply → IsTraced (with_end s i after shared base)
done_traced s i o before after shared told_reply base sound traced was ends =
    let items = s.shared.history.items in
    let done : ObjOp × ObjReply = (ends.ends.op, ends.ends.reply) in
    let tells = ends.ends.tells in
    let is : shared.history.items ≡ items ++ TraceItem.Op i done ∷ [] = tells.1.items ∙ ap (λ n. items ++ TraceItem.Op n done ∷ []) (sound.fits i before was).number in
    let whole = traced.whole i before was (ap is_undoing ends.pending) in
    record {
      placed = placed_as items shared.history.items (TraceItem.Op i done) is traced.placed (done_place s i before sound was done whole);
      whole = whole_with s.txs i after shared.history.items (others_more s.txs i items shared.history.items (TraceItem.Op i done) is (λ j differ e. cc e) (others_of s i traced))
          (λ forward. whole_as items shared.history.items (TraceItem.Op i done) i is (λ e. cc e) whole);
    }

-- ---- the last operation is taken back

items_between : (inverting : Option OperationFields) (s : State) (before after : Transaction) (shared : SharedState) (answered : Answer)
    → (ends : EndsBack inverting None (tx_state_of before s.shared) (tx_state_of after shared) answered) → ends.between.history.items ≡ s.shared.history.items
items_between None s before after shared answered ends = ap (λ (c : SharedState). c.history.items) (ends.fast refl).0
items_between (Some o) s before after shared answered ends = ap (λ (h : ItemsWithRoom). h.items) (ends.at_end o refl).3

not_empty : (xs : List (ObjOp × ObjReply)) (x : ObjOp × ObjReply) → xs ++ x ∷ [] ≡ [] → ⊥
not_empty [] x e = cc e
not_empty (y ∷ xs) x e = cc e

other_back : (i j : ℕ) → j ≢ i → TraceItem.Back i ≢ TraceItem.Back j
other_back i j differ e = let same : i ≡ j = cc e in differ (sym same)

pub undone_traced : (s : State) (i : ℕ) (inverting : Option OperationFields) (before after : Transaction) (shared : SharedState) (base : Base) → IsSound s → IsTraced s → map.get s.txs i ≡ Some before
    → TakesLastBack s inverting before after shared Answer.Undone → IsTraced (with_undone s i after shared base)
undone_traced s i inverting before after shared base sound traced was takes =
    let items = s.shared.history.items in
    let one = takes.ends.takes in
    let is : shared.history.items ≡ items ++ TraceItem.Back i ∷ [] =
    one.items ∙ ap (λ (l : List TraceItem). l ++ TraceItem.Back before.subtx.tx ∷ []) (items_between inverting s before after shared Answer.Undone takes.ends) ∙ ap (λ n. items ++ TraceItem.Back n ∷ []) (sound.fits i before was).number in
    let some : before.undo.entries ≡ [] → ⊥ = λ none. not_empty after.undo.entries one.off.last (sym one.off.entries ∙ none) in
    record {
      placed = placed_as items shared.history.items (TraceItem.Back i) is traced.placed (back_place s i before sound was some);
      whole = whole_with s.txs i after shared.history.items (others_more s.txs i items shared.history.items (TraceItem.Back i) is (λ j differ. other_back i j differ) (others_of s i traced))
          (λ forward. absurd (let f : true ≡ false = sym (ap is_undoing takes.is_at) ∙ forward in cc f));
    }

-- the transaction runs on behind an undoing, and what is left of it stands
closes_behind : (items : List TraceItem) (i : ℕ) (front : List (ObjOp × ObjReply)) (last : ObjOp × ObjReply) → HasPlace items (TraceItem.Back i) → (told items).transcripts i ≡ front ++ last ∷ [] → front ≡ []
    → HasPlace (items ++ TraceItem.Back i ∷ []) (TraceItem.Abort i)
closes_behind items i front last place stands none =
    let after = told-push items (TraceItem.Back i) in (
      ap (λ (l : Lists (ObjOp × ObjReply)). l.stage i) after ∙ place.0,
      ap (λ (l : Lists (ObjOp × ObjReply)). l.transcripts i) after ∙ (changed (told items).transcripts i _).0 ∙ ap but_last stands ∙ but_last-push front last ∙ none,
    )

pub last_undone_traced : (s : State) (i : ℕ) (inverting : Option OperationFields) (before after : Transaction) (shared : SharedState) (base : Base) → IsSound s → IsTraced s → map.get s.txs i ≡ Some before
    → TakesLastBack s inverting before after shared Answer.Aborted → IsTraced (with_aborted s i shared base)
last_undone_traced s i inverting before after shared base sound traced was takes =
    let items = s.shared.history.items in
    let mid = items ++ TraceItem.Back i ∷ [] in
    let last = takes.ends.takes in
    let is : shared.history.items ≡ mid ++ TraceItem.Abort i ∷ [] =
    last.items ∙ ap (λ (l : List TraceItem). l ++ TraceItem.Back before.subtx.tx ∷ TraceItem.Abort before.subtx.tx ∷ []) (items_between inverting s before after shared Answer.Aborted takes.ends)
    ∙ ap (λ n. items ++ TraceItem.Back n ∷ TraceItem.Abort n ∷ []) (sound.fits i before was).number ∙ sym (append_assoc items (TraceItem.Back i ∷ []) (TraceItem.Abort i ∷ [])) in
    let some : before.undo.entries ≡ [] → ⊥ = λ none. not_empty after.undo.entries last.off.last (sym last.off.entries ∙ none) in
    let place = back_place s i before sound was some in
    let others = others_more s.txs i items mid (TraceItem.Back i) refl (λ j differ. other_back i j differ) (others_of s i traced) in
    record {
      placed = placed_as mid shared.history.items (TraceItem.Abort i) is (placed_more items (TraceItem.Back i) traced.placed place)
          (closes_behind items i after.undo.entries last.off.last place (sym (sound.fits i before was).stands ∙ last.off.entries) last.none);
      whole = whole_without s.txs i shared.history.items (others_more s.txs i mid shared.history.items (TraceItem.Abort i) is (λ j differ e. cc e) others);
    }

-- ---- a transaction ends

pub commit_traced : (s : State) (i : ℕ) (before : Transaction) (shared : SharedState) → IsSound s → IsTraced s → map.get s.txs i ≡ Some before
    → Ends s i before shared (TraceItem.Commit i (commit_count s.shared.history.items + 1)) → IsTraced (without_transaction s i shared)
commit_traced s i before shared sound traced was ends =
    let items = s.shared.history.items in
    let item = TraceItem.Commit i (commit_count items + 1) in
    record {
      placed = placed_as items shared.history.items item ends.items traced.placed (commit_place s i before sound was (traced.whole i before was (ap is_undoing ends.idle)));
      whole = whole_without s.txs i shared.history.items (others_more s.txs i items shared.history.items item ends.items (λ j differ e. cc e) (others_of s i traced));
    }

pub close_traced : (s : State) (i : ℕ) (before : Transaction) (shared : SharedState) → IsSound s → IsTraced s → map.get s.txs i ≡ Some before → before.undo.entries ≡ []
    → Ends s i before shared (TraceItem.Abort i) → IsTraced (without_transaction s i shared)
close_traced s i before shared sound traced was none ends =
    let items = s.shared.history.items in
    record {
      placed = placed_as items shared.history.items (TraceItem.Abort i) ends.items traced.placed (close_place s i before sound was none);
      whole = whole_without s.txs i shared.history.items (others_more s.txs i items shared.history.items (TraceItem.Abort i) ends.items (λ j differ e. cc e) (others_of s i traced));
    }
