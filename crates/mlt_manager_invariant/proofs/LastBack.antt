-- What the clean pages and the base are once the last operation is taken back
use Rattle.std.proofs.Common.{◌≡◌, ℕ, ◌+◌, ◌∷◌, [], Option, None, Some, length, is_some, refl, sym, ap, subst, ◌∙◌, arith, length-append, nat_cmp}
use Rattle.std.specs.FinMap as map
use Rattle.mlt_manager_invariant.proofs.Names.{IsInRange, Page, Base, Step, ObjOp, ObjReply, cell_of, Running, clean_pages, MayUndo, PagesMeanHistory, OperationFields, Answer, SharedState, At, Transaction, FitsAt, IsSound, State, images_kept, is_undoing, is_undoing_at, pending_room, room_of, abstract_state_of, TakesLastBack}
use Rattle.mlt_tx_meaning.{specs.Events.with_undone, proofs.Undoing.undoing_keeps, proofs.Undoing.undone_in_range}
use Rattle.mlt_hash_access.proofs.Rebased.{same_some}
use Rattle.mlt_tx.{specs.Steps.TakesOff, proofs.Backing.one_last}
use Rattle.mlt_manager_invariant.proofs.InverseEnds.{IsCleared, cleared_by_inverse, cleared_without}

-- the transaction holds nothing, and nothing but the pages has changed
pub record IsLeft (s : State) (i : ℕ) (after : Transaction) (between shared : SharedState) (item : ObjOp × ObjReply) : Type 0 where
  pub cleared : IsCleared s i shared item
  pub number : after.subtx.tx ≡ i
  pub own : after.subtx.images ≡ map.empty
  pub objects : between.objects ≡ s.shared.objects
  pub history : between.history ≡ s.shared.history

module _ (s : State) (i : ℕ) (before after : Transaction) (shared : SharedState) (told : Answer) (sound : IsSound s) (was : map.get s.txs i ≡ Some before) where
  no_images : map.get s.images i ≡ Some map.empty → before.subtx.images ≡ map.empty
  no_images none = same_some _ _ (sym (sound.kept i ∙ ap images_kept was) ∙ none)

  module _ (inverting : Option OperationFields) (takes : TakesLastBack s inverting before after shared told) (off : TakesOff before.subtx.tx before.undo after.undo takes.ends.between shared) where
    pub may_undo : MayUndo (abstract_state_of s) i off.last
    may_undo = record {
      is_open = sound.opened i ∙ ap is_some was;
      backward = ap is_undoing_at was ∙ ap is_undoing takes.was_at;
      rest = after.undo.entries;
      last = sym (sound.fits i before was).stands ∙ off.entries;
    }

  left_by : (inverting : Option OperationFields) (takes : TakesLastBack s inverting before after shared told) (off : TakesOff before.subtx.tx before.undo after.undo takes.ends.between shared)
      → FitsAt (At.Undoing inverting) s i before → IsLeft s i after takes.ends.between shared off.last
  left_by None takes off fits =
      let same = takes.ends.fast refl in
      record {
        cleared = cleared_without s i before takes.ends.between shared sound was off.pages off.last fits.0 same.0 (takes.ends.without after.undo.entries off.last refl off.entries);
        number = ap (λ (r : Running). r.tx) same.1 ∙ (sound.fits i before was).number;
        own = ap (λ (r : Running). r.images) same.1 ∙ no_images fits.0.no_images;
        objects = ap (λ (c : SharedState). c.objects) same.0;
        history = ap (λ (c : SharedState). c.history) same.0;
      }
  left_by (Some o) takes off fits =
      let ended = takes.ends.at_end o refl in
      let last : fits.last ≡ off.last = one_last before.undo.entries fits.front after.undo.entries fits.last off.last fits.entries off.entries in
      let range = undone_in_range (abstract_state_of s) i off.last sound.match (may_undo (Some o) takes off) in
      let in_range : IsInRange (cell_of fits.last.0) = subst (λ (x : ObjOp × ObjReply). IsInRange (cell_of x.0)) (sym last) range in
      record {
        cleared = subst (IsCleared s i shared) last (cleared_by_inverse s i before takes.ends.between shared sound was off.pages o fits ended.0 after.subtx ended.1 in_range);
        number = ap (λ (r : Running). r.tx) ended.1.running ∙ (sound.fits i before was).number;
        own = ap (λ (r : Running). r.images) ended.1.running;
        objects = ended.2;
        history = ended.3;
      }

  module _ (inverting : Option OperationFields) (takes : TakesLastBack s inverting before after shared told) (off : TakesOff before.subtx.tx before.undo after.undo takes.ends.between shared) where
    pub left : IsLeft s i after takes.ends.between shared off.last
    left = left_by inverting takes off (subst (λ (a : At). FitsAt a s i before) takes.was_at (sound.fits i before was).where_at)

    abbrev pub pages_now : map.FinMap nat_cmp Page
    pages_now = clean_pages (map.insert s.images i map.empty) shared.pages.store.pages

    -- **The clean pages mean a base from which the item leads to what it was.**
    pub led_back : (base : Base) × Step base off.last s.base × PagesMeanHistory (with_undone (abstract_state_of s) i pages_now base)
    led_back = undoing_keeps (abstract_state_of s) i off.last sound.match (may_undo inverting takes off) pages_now left.cleared.changes

    pub one_fewer : length before.undo.entries ≡ length after.undo.entries + 1
    one_fewer = ap length off.entries ∙ length-append after.undo.entries (off.last ∷ [])

    pub room_before : room_of before ≡ 2 + length after.undo.entries
    room_before = let none = ap pending_room takes.was_at in omega (arith, none, one_fewer)

    pub room_after : room_of after ≡ 1 + length after.undo.entries
    room_after = let none = ap pending_room takes.is_at in omega (arith, none)
