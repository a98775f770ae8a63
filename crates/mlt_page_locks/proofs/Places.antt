-- The place of a transaction's list: the one that it has, or one that was nobody's.
use Rattle.mlt_page_locks.proofs.Names.{zero, false≢true, position-Some, Mode, pages_of, AreCompatible, HasRoom, granted, with_page, HeldPages, is_free, is_list_of, with_lock, lock_table, IsSound}
use Rattle.std.proofs.Common.{◌≡◌, ℕ, suc, Option, Some, None, List, [], ◌∷◌, get_or, set, refl, sym, ap, subst, inl, inr, ◌∙◌, position, IsSome, get_or-set_same}
use Rattle.std.specs.FinMap as map
use Rattle.mlt_page_locks.{specs.LockLists.HasRoomFor, specs.Marks.HasPlaceFor, specs.Marks.IsPlaceFor, specs.Marks.TakesFree, proofs.Tables.get-table_of_none, proofs.Covering.AddsAt, proofs.Covering.owner_of}
use Rattle.mlt_page_locks.proofs.Grants.{Makes, blank, none_held, grown, started, theirs, room_in_list, list_left}

set_twice : (lists : List HeldPages) (i : ℕ) (a b : HeldPages) → set (set lists i a) i b ≡ set lists i b
set_twice [] i a b = refl
set_twice (x ∷ lists) zero a b = refl
set_twice (x ∷ lists) (suc i) a b = ap (λ l. x ∷ l) (set_twice lists i a b)

-- a list that is given to tx is taken
pub takes_free : (lists looked : List HeldPages) (tx place : ℕ) (list given : HeldPages) → looked ≡ lists → Some place ≡ position is_free looked → list ≡ get_or lists place list → given ≡ record { tx = tx; modes = list.modes } → TakesFree lists (set lists place given) tx place
takes_free lists looked tx place list given look at list_is is =
    let first : Some place ≡ position is_free lists = at ∙ ap (position is_free) look in
    record {
      first = first;
      is = ap (set lists place) (is ∙ ap (λ modes. record { tx = tx; modes = modes }) (ap (λ (p : HeldPages). p.modes) list_is ∙ blank lists place list first));
    }

-- where there is room for one lock more, there is a place
pub has_place : (lists : List HeldPages) (tx q : ℕ) (mode : Mode) → IsSound lists → HasRoom (granted (lock_table lists) tx q mode) → HasPlaceFor lists tx
has_place lists tx q mode sound room none = by (position is_free lists) refl
  where
    by : (o : Option ℕ) → position is_free lists ≡ o → IsSome o
    by None full = absurd (false≢true (list_left lists tx q mode sound room (get-table_of_none lists tx none) (sym full)))
    by (Some i) at = refl

module _ (lists prepared : List HeldPages) (tx place q : ℕ) (mode : Mode) (list : HeldPages) (list_is : list ≡ get_or prepared place list) (is : IsPlaceFor lists prepared tx place) where
  -- a list that was taken
  taken : TakesFree lists prepared tx place → list ≡ record { tx = tx; modes = map.empty }
  taken free =
      let at = position-Some is_free lists place list (sym free.first) in
      list_is ∙ ap (λ l. get_or l place list) free.is ∙ get_or-set_same lists place (record { tx = tx; modes = map.empty }) list at.0

  -- the list at the place has what tx holds
  pub theirs_at : list.modes ≡ pages_of (lock_table lists) tx
  theirs_at =
      elim is [
        | inl own ↦ ap (λ (p : HeldPages). p.modes) (list_is ∙ ap (λ l. get_or l place list) own.1) ∙ theirs lists tx place list own.0
        | inr new ↦ ap (λ (p : HeldPages). p.modes) (taken new.1) ∙ sym (none_held lists tx (get-table_of_none lists tx new.0))
      ]

  pub room_at : HasRoom (granted (lock_table lists) tx q mode) → HasRoomFor list q mode
  room_at room = room_in_list lists tx q mode list.modes room theirs_at

  -- and gets the page
  pub record GrantedAt (after : List HeldPages) : Type 0 where
    pub makes : Makes after (granted (lock_table lists) tx q mode)
    pub adds : AddsAt lists after tx q mode place

  pub granted_at : (new : HeldPages) → IsSound lists → AreCompatible (granted (lock_table lists) tx q mode) → new ≡ with_lock list q mode → GrantedAt (set prepared place new)
  granted_at new sound ok new_is =
      elim is [
        | inl own ↦
            let at = position-Some (is_list_of tx) lists place list (sym own.0) in
            let old : list ≡ get_or lists place list = list_is ∙ ap (λ l. get_or l place list) own.1 in
            let mine : list.tx ≡ tx = ap (λ (p : HeldPages). p.tx) old ∙ owner_of tx (get_or lists place list) at.1 in
            subst (λ l. GrantedAt (set l place new)) (sym own.1) (record {
              makes = grown lists tx q place mode list new sound own.0 (new_is ∙ ap (λ (p : HeldPages). with_lock p q mode) old) ok;
              adds = record {
                d = list;
                within = at.0;
                is = ap (set lists place) (new_is ∙ ap (λ t. record { tx = t; modes = with_page list.modes q mode }) mine ∙ ap (λ (p : HeldPages). record { tx = tx; modes = with_page p.modes q mode }) old);
              };
            })
        | inr free ↦
            let at = position-Some is_free lists place list (sym free.1.first) in
            let now : new ≡ record { tx = tx; modes = with_page (get_or lists place list).modes q mode } =
            new_is ∙ ap (λ (p : HeldPages). with_lock p q mode) (taken free.1) ∙ ap (λ modes. record { tx = tx; modes = with_page modes q mode }) (sym (blank lists place list free.1.first)) in
            let set_is : set prepared place new ≡ set lists place new = ap (λ l. set l place new) free.1.is ∙ set_twice lists place (record { tx = tx; modes = map.empty }) new in
            subst GrantedAt (sym set_is) (record {
              makes = started lists tx q place mode list new sound (get-table_of_none lists tx free.0) free.1.first now ok;
              adds = record { d = list; within = at.0; is = ap (set lists place) now };
            })
      ]
