-- What the marks cover: where none is, there is nothing; a list that is changed; and the first place of a list.
use Rattle.mlt_page_locks.proofs.Names.{zero, bit_at, bit_at-zero, cases_eq, cases_lt, cases_Bool, nat_tests, length-replicate, take_more, Mode, stronger, with_page, conflicts, IsNobody, HeldPages, is_list_of, lock_table, mask_of, IsMarked, IsUnmarked, KeepsOthers}
use Rattle.std.proofs.Common.{suc, ◌+◌, ◌≡◌, ◌≢◌, ◌⊎◌, ℕ, ◌<◌, ◌≤◌, List, [], ◌∷◌, Bool, true, false, Option, Some, None, is_some, length, get_or, set, length-set, replicate, take, take_all, sym, ap, subst, ◌∙◌, refl, true≢false, inl, inr, arith, position, nat_cmp, get_or-set_same, get_or-set_other}
use Rattle.std.specs.List.{position_or_len}
use Rattle.std.specs.FinMap as map
use Rattle.mlt_page_locks.{specs.Marks.InMask, specs.Marks.IsMaskOf, specs.Marks.Covers, specs.Marks.has_page, proofs.Maps.get_inserted, proofs.Conflicts.in_way, proofs.Conflicts.in_way_of, proofs.Conflicts.in_way-conflicts, proofs.Conflicts.nothing_more}

module _ {X : Type 0} (p : X → Bool) where
  first_is : (xs : List X) (i : ℕ) (d : X) → i < length xs → p (get_or xs i d) ≡ true → ((k : ℕ) → k < i → p (get_or xs k d) ≡ false) → position_or_len p xs ≡ i
  first_is [] i d h passes before = absurd (omega arith)
  first_is (x ∷ xs) zero d h passes before = grind arith
  first_is (x ∷ xs) (suc i) d h passes before =
      let first : p x ≡ false = before 0 (omega arith) in
      let rest = first_is xs i d (omega arith) passes (λ k below. before (suc k) (omega arith)) in
      grind arith

  none_is : (xs : List X) (d : X) → ((k : ℕ) → k < length xs → p (get_or xs k d) ≡ false) → position_or_len p xs ≡ length xs
  none_is [] d none = refl
  none_is (x ∷ xs) d none =
      let first : p x ≡ false = none 0 (omega arith) in
      let rest = none_is xs d (λ k below. none (suc k) (omega arith)) in
      grind arith

  -- the first that passes is the place
  pub place_is : (xs : List X) (i : ℕ) (d : X) → i < length xs → p (get_or xs i d) ≡ true → ((k : ℕ) → k < i → p (get_or xs k d) ≡ false) → Some i ≡ position p xs
  place_is xs i d h passes before = let e = first_is xs i d h passes before in grind (arith, nat_tests)

  -- where none passes, there is no place
  pub no_place : (xs : List X) (d : X) → ((k : ℕ) → k < length xs → p (get_or xs k d) ≡ false) → None ≡ position p xs
  no_place xs d none = let e = none_is xs d none in grind (arith, nat_tests)

-- what is not marked does not pass
pub unmarked : (lists : List HeldPages) (passes : HeldPages → Bool) (mask : ℕ) → InMask lists passes mask → (k : ℕ) (d : HeldPages) → k < length lists → bit_at mask k ≡ 0 → passes (get_or lists k d) ≡ false
unmarked lists passes mask is k d within none = by (cases_Bool (passes (get_or lists k d)))
  where
    by : (passes (get_or lists k d) ≡ true) ⊎ (passes (get_or lists k d) ≡ false) → passes (get_or lists k d) ≡ false
    by (inl h) = let one = is.marked k d within h in absurd (omega arith)
    by (inr h) = h

-- where none passed so far, and none was marked since, none passes
pub none_before : (lists : List HeldPages) (passes : HeldPages → Bool) (mask start end : ℕ) → InMask lists passes mask → end ≤ length lists → IsUnmarked mask start end
    → ((k : ℕ) (d : HeldPages) → k < start → passes (get_or lists k d) ≡ false) → (k : ℕ) (d : HeldPages) → k < end → passes (get_or lists k d) ≡ false
none_before lists passes mask start end is within none so_far k d below = by (cases_lt k start)
  where
    by : (k < start) ⊎ (start ≤ k) → passes (get_or lists k d) ≡ false
    by (inl before) = so_far k d before
    by (inr from) = unmarked lists passes mask is k d (omega arith) (none k from below)

-- a list without the page is in nobody's way
no_page : (tx q : ℕ) (mode : Mode) (pages : HeldPages) → has_page q pages ≡ false → in_way tx q mode pages ≡ false
no_page tx q mode pages h = by (map.get pages.modes q) refl h
  where
    by : (o : Option Mode) → map.get pages.modes q ≡ o → is_some o ≡ false → in_way tx q mode pages ≡ false
    by None e h = grind arith
    by (Some m) e h = absurd (true≢false h)

-- lists that are passed over are in nobody's way
pub passed_over : (tx q : ℕ) (mode : Mode) (lists : List HeldPages) (mask start : ℕ) → InMask lists (has_page q) mask → (end : ℕ) → start ≤ end → end ≤ length lists → IsUnmarked mask start end
    → (u : ℕ) → in_way_of tx q mode (take start lists) u ≡ in_way_of tx q mode (take end lists) u
passed_over tx q mode lists mask start is end from within none u = by end from within none (cases_eq start end)
  where
    by : (end : ℕ) → start ≤ end → end ≤ length lists → IsUnmarked mask start end → (start ≡ end) ⊎ (start ≡ end → ⊥) → in_way_of tx q mode (take start lists) u ≡ in_way_of tx q mode (take end lists) u
    by end from within none (inl e) = ap (λ n. in_way_of tx q mode (take n lists) u) e
    by zero from within none (inr ne) = absurd (ne (omega arith))
    by (suc end) from within none (inr ne) =
        let free : HeldPages = record { tx = 0; modes = map.empty } in
        let rest = by end (omega arith) (omega arith) (λ p f b. none p f (omega arith)) (cases_eq start end) in
        let clear : in_way tx q mode (get_or lists end free) ≡ false = no_page tx q mode (get_or lists end free) (unmarked lists (has_page q) mask is end free (omega arith) (none end (omega arith) (omega arith))) in
        let next : suc end ≡ end + 1 = omega arith in
        rest ∙ nothing_more tx q mode (take end lists) (get_or lists end free) u clear
        ∙ ap (λ l. in_way_of tx q mode l u) (sym (take_more lists end free (omega arith)) ∙ ap (λ n. take n lists) (sym next))

-- where no place is marked, nobody stands in the way
pub nobody_marked : (tx q : ℕ) (mode : Mode) (lists : List HeldPages) (mask : ℕ) → IsMaskOf lists q mask → mask ≡ 0 → IsNobody (conflicts (lock_table lists) tx q mode)
nobody_marked tx q mode lists mask is none u =
    sym (in_way-conflicts tx q mode lists (record { as_many = is.sound.one_list_each }) u) ∙ ap (λ l. in_way_of tx q mode l u) (sym (take_all (length lists) lists (omega arith)))
    ∙ sym (passed_over tx q mode lists mask 0 is.marked (length lists) (omega arith) (omega arith) (λ p from below. ap (λ m. bit_at m p) none ∙ bit_at-zero p) u)

module _ (lists : List HeldPages) (place : ℕ) (new : HeldPages) (within : place < length lists) where
  -- a list is changed: what it has is marked, and the marks of the others are kept
  in_mask : (passes : HeldPages → Bool) (mask after : ℕ) → InMask lists passes mask → (passes new ≡ true → bit_at after place ≡ 1) → ((p : ℕ) → p < length lists → p ≢ place → bit_at mask p ≡ 1 → bit_at after p ≡ 1) → InMask (set lists place new) passes after
  in_mask passes mask after is here others = record { marked = λ p d below h. by p d below h (cases_eq p place) }
    where
      by : (p : ℕ) (d : HeldPages) → p < length (set lists place new) → passes (get_or (set lists place new) p d) ≡ true → (p ≡ place) ⊎ (p ≡ place → ⊥) → bit_at after p ≡ 1
      by p d below h (inl e) =
          let at : get_or (set lists place new) p d ≡ new = ap (λ k. get_or (set lists place new) k d) e ∙ get_or-set_same lists place new d within in
          ap (bit_at after) e ∙ here (ap passes (sym at) ∙ h)
      by p d below h (inr ne) =
          let inside : p < length lists = omega (arith, length-set {A = HeldPages}) in
          others p inside ne (is.marked p d inside (ap passes (sym (get_or-set_other lists place p new d ne)) ∙ h))

added_page : (modes : map.FinMap nat_cmp Mode) (q r : ℕ) (mode : Mode) → is_some (map.get (with_page modes q mode) r) ≡ true → (r ≡ q) ⊎ (is_some (map.get modes r) ≡ true)
added_page modes q r mode h = by (cases_eq r q)
  where
    by : (r ≡ q) ⊎ (r ≡ q → ⊥) → (r ≡ q) ⊎ (is_some (map.get modes r) ≡ true)
    by (inl e) = inl e
    by (inr ne) = inr (grind (arith, nat_tests, get_inserted modes q (stronger (map.get modes q) mode) r))

pub owner_of : (u : ℕ) (pages : HeldPages) → is_list_of u pages ≡ true → pages.tx ≡ u
owner_of u pages h = grind (arith, nat_tests)

-- tx got page q in the list at this place
pub record AddsAt (old new : List HeldPages) (tx q : ℕ) (mode : Mode) (place : ℕ) : Type 0 where
  pub d : HeldPages
  pub within : place < length old
  pub is : new ≡ set old place (record { tx = tx; modes = with_page (get_or old place d).modes q mode })

-- a page that is added is covered once it is marked
pub covers_added : (lists after : List HeldPages) (pages holders pages' holders' : List ℕ) (tx q : ℕ) (mode : Mode) (place : ℕ) → Covers lists pages holders → AddsAt lists after tx q mode place
    → IsMarked pages' q place → ((n p : ℕ) → IsMarked pages n p → IsMarked pages' n p) → IsMarked holders' tx place → ((n p : ℕ) → IsMarked holders n p → IsMarked holders' n p) → Covers after pages' holders'
covers_added lists after pages holders pages' holders' tx q mode place is adds page_marked pages_kept holder_marked holders_kept =
    subst (λ (l : List HeldPages). Covers l pages' holders') (sym adds.is) (record {
      few = let few = is.few in omega (arith, length-set {A = HeldPages});
      of_pages = λ r. in_mask lists place new adds.within (has_page r) (mask_of pages r) (mask_of pages' r) (is.of_pages r) (λ h. here r (added_page old.modes q r mode h)) (λ p below ne m. pages_kept r p m);
      of_holders = λ u. in_mask lists place new adds.within (is_list_of u) (mask_of holders u) (mask_of holders' u) (is.of_holders u)
          (λ h. subst (λ n. IsMarked holders' n place) (owner_of u new h) holder_marked) (λ p below ne m. holders_kept u p m);
    })
  where
    old : HeldPages
    old = get_or lists place adds.d

    new : HeldPages
    new = record { tx = tx; modes = with_page (get_or lists place adds.d).modes q mode }

    here : (r : ℕ) → (r ≡ q) ⊎ (is_some (map.get (get_or lists place adds.d).modes r) ≡ true) → IsMarked pages' r place
    here r (inl e) = subst (λ n. IsMarked pages' n place) (sym e) page_marked
    here r (inr h) = pages_kept r place ((is.of_pages r).marked place adds.d adds.within h)

-- a list that is cleared needs no mark
pub covers_cleared : (lists : List HeldPages) (pages holders pages' holders' : List ℕ) (place : ℕ) (new : HeldPages) → place < length lists → Covers lists pages holders → new.modes ≡ map.empty
    → KeepsOthers pages pages' place → KeepsOthers holders holders' place → Covers (set lists place new) pages' holders'
covers_cleared lists pages holders pages' holders' place new within is none pages_kept holders_kept = record {
  few = let few = is.few in omega (arith, length-set {A = HeldPages});
  of_pages = λ r. in_mask lists place new within (has_page r) (mask_of pages r) (mask_of pages' r) (is.of_pages r) (λ h. absurd (true≢false (sym h ∙ no_pages r))) (λ p below ne m. pages_kept.kept r p (wide p below) ne m);
  of_holders = λ u. in_mask lists place new within (is_list_of u) (mask_of holders u) (mask_of holders' u) (is.of_holders u) (λ h. absurd (true≢false (sym h ∙ no_owner u))) (λ p below ne m. holders_kept.kept u p (wide p below) ne m);
}
  where
    wide : (p : ℕ) → p < length lists → p < 64
    wide p below = let few = is.few in omega arith

    no_pages : (r : ℕ) → is_some (map.get new.modes r) ≡ false
    no_pages r = ap (λ m. is_some (map.get m r)) none ∙ ap is_some (map.get-empty {X = Mode} nat_cmp r)

    no_owner : (u : ℕ) → is_list_of u new ≡ false
    no_owner u = let empty : map.len new.modes ≡ 0 = ap map.len none ∙ map.len-empty nat_cmp Mode in grind (arith, nat_tests)

get_or-replicate : (n k : ℕ) (free d : HeldPages) → k < n → get_or (replicate n free) k d ≡ free
get_or-replicate zero k free d h = absurd (omega arith)
get_or-replicate (suc n) zero free d h = refl
get_or-replicate (suc n) (suc k) free d h = get_or-replicate n k free d (omega arith)

-- lists that are all free need none
pub covers_free : (lists : List HeldPages) (n : ℕ) (pages holders : List ℕ) → n ≤ 64 → lists ≡ replicate n (record { tx = 0; modes = map.empty }) → Covers lists pages holders
covers_free lists n pages holders few is = record {
  few = let many : length lists ≡ n = ap length is ∙ length-replicate n free in omega arith;
  of_pages = λ r. record { marked = λ p d below h. absurd (true≢false (sym h ∙ ap (has_page r) (free_at p d below) ∙ ap is_some (map.get-empty {X = Mode} nat_cmp r))) };
  of_holders = λ u. record { marked = λ p d below h. absurd (true≢false (sym h ∙ ap (is_list_of u) (free_at p d below) ∙ no_owner u)) };
}
  where
    free : HeldPages
    free = record { tx = 0; modes = map.empty }

    free_at : (p : ℕ) (d : HeldPages) → p < length lists → get_or lists p d ≡ record { tx = 0; modes = map.empty }
    free_at p d below =
        let many : length lists ≡ n = ap length is ∙ length-replicate n (record { tx = 0; modes = map.empty }) in
        ap (λ l. get_or l p d) is ∙ get_or-replicate n p (record { tx = 0; modes = map.empty }) d (omega arith)

    no_owner : (u : ℕ) → is_list_of u (record { tx = 0; modes = map.empty }) ≡ false
    no_owner u = grind (arith, nat_tests, map.len-empty nat_cmp Mode)
