-- The pages of a list of locks, by rising numbers.
use Rattle.mlt_page_locks.proofs.Names.{zero, IsBinarySearchResult, nat_cmp_total, nat_tests, cases_eq, cases_lt, cases_Bool, get_or_default, with_items, Mode, PageLock, Modes, stronger, with_page, IsAt, IsBetween}
use Rattle.std.proofs.Common.{◌≡◌, ◌⊎◌, ℕ, suc, ◌≤◌, ◌<◌, ◌+◌, ◌-◌, eqb, Bool, true, false, cond, Some, None, is_some, true≢false, Result, Ok, Err, List, [], ◌∷◌, ◌++◌, length, get_or, set, sym, ap, subst, inl, inr, ◌∙◌, length-set, arith, MatchResult, insert, nat_cmp, get_or-set_same, get_or-set_other}
use Rattle.std.{specs.List.Sorted.IsSearchInRange, specs.Ordering.MatchOrdering, specs.Ordering.ordering_index, specs.Cmp.ranks, proofs.lemmas.List.Edits.get_or-insert_at, proofs.lemmas.List.Edits.get_or-insert_below, proofs.lemmas.List.Edits.get_or-insert_above, proofs.lemmas.List.Edits.insert_end}
use Rattle.std.specs.FinMap as map
use Rattle.arrayvec.{specs.ArrayVec.ArrayVec, proofs.ArrayVecLemmas.items-with_items}
use Rattle.mlt_page_locks.{proofs.Maps.get_inserted, proofs.Maps.same_entries, specs.LockLists.modes_of, specs.LockLists.IsRising, specs.LockLists.IsInOrder}

-- whether a lock is on page q
abbrev pub is_on : ℕ → PageLock → Bool
is_on q lock = eqb lock.page q

found : (locks : List PageLock) (q i : ℕ) (d : PageLock) → i < length locks → is_on q (get_or locks i d) ≡ true → ((k : ℕ) → k < i → is_on q (get_or locks k d) ≡ false) → map.get (modes_of locks) q ≡ Some (get_or locks i d).mode
found [] q i d within there before = absurd (omega arith)
found (lock ∷ locks) q zero d within there before = grind (arith, nat_tests, get_inserted (modes_of locks) lock.page lock.mode q)
found (lock ∷ locks) q (suc i) d within there before =
    let first : is_on q lock ≡ false = before 0 (omega arith) in
    grind (arith, nat_tests, get_inserted (modes_of locks) lock.page lock.mode q, found locks q i d (omega arith) there (λ k h. before (suc k) (omega arith)))

absent : (locks : List PageLock) (q : ℕ) → ((k : ℕ) (d : PageLock) → k < length locks → is_on q (get_or locks k d) ≡ false) → map.get (modes_of locks) q ≡ None
absent [] q none = map.get-empty nat_cmp q
absent (lock ∷ locks) q none =
    let first : is_on q lock ≡ false = none 0 lock (omega arith) in
    let rest = absent locks q (λ k d h. none (suc k) d (omega arith)) in
    grind (arith, nat_tests, get_inserted (modes_of locks) lock.page lock.mode q)

-- what holds of no lock's page holds of no page of the list
pub no_such_page : (locks : List PageLock) (q : ℕ) (P : ℕ → Type 0) → ((k : ℕ) (d : PageLock) → k < length locks → P (get_or locks k d).page → ⊥) → is_some (map.get (modes_of locks) q) ≡ true → P q → ⊥
no_such_page locks q P none there holds =
    let is = absent locks q (λ k d h. by k d h (cases_Bool (is_on q (get_or locks k d)))) in
    true≢false (sym there ∙ ap is_some is)
  where
    by : (k : ℕ) (d : PageLock) → k < length locks → (is_on q (get_or locks k d) ≡ true) ⊎ (is_on q (get_or locks k d) ≡ false) → is_on q (get_or locks k d) ≡ false
    by k d h (inl on) = let e : q ≡ (get_or locks k d).page = grind (arith, nat_tests) in absurd (none k d h (subst P e holds))
    by k d h (inr off) = off

-- where the page numbers rise, none before the place of a page is on it
none_before : (locks : List PageLock) (q i : ℕ) → IsRising locks → IsAt locks q i → (d : PageLock) (k : ℕ) → k < i → is_on q (get_or locks k d) ≡ false
none_before locks q i rising is d k h = let lower = rising k i d h is.within in let at = is.on_page d in grind (arith, nat_tests)

on_page : (locks : List PageLock) (q i : ℕ) → IsAt locks q i → (d : PageLock) → is_on q (get_or locks i d) ≡ true
on_page locks q i is d = let at = is.on_page d in grind (arith, nat_tests)

not_on_page : (locks : List PageLock) (q i : ℕ) → IsBetween locks q i → (k : ℕ) (d : PageLock) → k < length locks → is_on q (get_or locks k d) ≡ false
not_on_page locks q i is k d h = by (cases_lt k i)
  where
    by : (k < i) ⊎ (i ≤ k) → is_on q (get_or locks k d) ≡ false
    by (inl lower) = let lt = is.below k d lower in grind (arith, nat_tests)
    by (inr higher) = let lt = is.above k d higher h in grind (arith, nat_tests)

-- the mode of the lock on the page
pub get-modes_of : (locks : List PageLock) (q i : ℕ) (d : PageLock) → IsRising locks → IsAt locks q i → map.get (modes_of locks) q ≡ Some (get_or locks i d).mode
get-modes_of locks q i d rising is = found locks q i d is.within (on_page locks q i is d) (λ k h. none_before locks q i rising is d k h)

pub get-modes_of_none : (locks : List PageLock) (q i : ℕ) → IsBetween locks q i → map.get (modes_of locks) q ≡ None
get-modes_of_none locks q i is = absent locks q (not_on_page locks q i is)

replaced : (locks : List PageLock) (q i : ℕ) (d : PageLock) (mode : Mode) → i < length locks → is_on q (get_or locks i d) ≡ true → ((k : ℕ) → k < i → is_on q (get_or locks k d) ≡ false)
    → (p : ℕ) → map.get (modes_of (set locks i (record { page = q; mode = mode }))) p ≡ cond (eqb p q) (Some mode) (map.get (modes_of locks) p)
replaced [] q i d mode within there before p = absurd (omega arith)
replaced (lock ∷ locks) q zero d mode within there before p =
    grind (arith, nat_tests, get_inserted (modes_of locks) lock.page lock.mode p, get_inserted (modes_of locks) q mode p)
replaced (lock ∷ locks) q (suc i) d mode within there before p =
    let first : is_on q lock ≡ false = before 0 (omega arith) in
    grind (arith, nat_tests, get_inserted (modes_of locks) lock.page lock.mode p, get_inserted (modes_of (set locks i (record { page = q; mode = mode }))) lock.page lock.mode p, replaced locks q i d mode (omega arith) there (λ k h. before (suc k) (omega arith)) p)

inserted : (locks : List PageLock) (q i : ℕ) (mode : Mode) → map.get (modes_of locks) q ≡ None → i ≤ length locks → (p : ℕ) → map.get (modes_of (insert locks i (record { page = q; mode = mode }))) p ≡ cond (eqb p q) (Some mode) (map.get (modes_of locks) p)
inserted locks q zero mode none within p = get_inserted (modes_of locks) q mode p
inserted [] q (suc i) mode none within p = absurd (omega arith)
inserted (lock ∷ locks) q (suc i) mode none within p =
    let first : eqb q lock.page ≡ false = grind (arith, nat_tests, get_inserted (modes_of locks) lock.page lock.mode q) in
    let rest : map.get (modes_of locks) q ≡ None = grind (arith, nat_tests, get_inserted (modes_of locks) lock.page lock.mode q) in
    grind (arith, nat_tests, get_inserted (modes_of locks) lock.page lock.mode p, get_inserted (modes_of (insert locks i (record { page = q; mode = mode }))) lock.page lock.mode p, inserted locks q i mode rest (omega arith) p)

-- the lock on a page is made stronger
modes_of-set : (locks : List PageLock) (q i : ℕ) (d : PageLock) (mode : Mode) → IsRising locks → IsAt locks q i → modes_of (set locks i (record { page = q; mode = stronger (Some (get_or locks i d).mode) mode })) ≡ with_page (modes_of locks) q mode
modes_of-set locks q i d mode rising is =
    same_entries _ _ (λ u. replaced locks q i d (stronger (Some (get_or locks i d).mode) mode) is.within (on_page locks q i is d) (λ k h. none_before locks q i rising is d k h) u
    ∙ ap (λ o. cond (eqb u q) (Some (stronger o mode)) (map.get (modes_of locks) u)) (sym (get-modes_of locks q i d rising is))
    ∙ sym (get_inserted (modes_of locks) q (stronger (map.get (modes_of locks) q) mode) u))

-- a lock on a further page
modes_of-insert : (locks : List PageLock) (q i : ℕ) (mode : Mode) → IsBetween locks q i → modes_of (insert locks i (record { page = q; mode = mode })) ≡ with_page (modes_of locks) q mode
modes_of-insert locks q i mode is =
    let none = get-modes_of_none locks q i is in
    same_entries _ _ (λ u. inserted locks q i mode none is.within u
    ∙ ap (λ o. cond (eqb u q) (Some (stronger o mode)) (map.get (modes_of locks) u)) (sym none)
    ∙ sym (get_inserted (modes_of locks) q (stronger (map.get (modes_of locks) q) mode) u))

-- the pages stay where they are as one lock is changed
page-set : (locks : List PageLock) (q i : ℕ) (mode : Mode) → IsAt locks q i → (k : ℕ) (d : PageLock) → (get_or (set locks i (record { page = q; mode = mode })) k d).page ≡ (get_or locks k d).page
page-set locks q i mode is k d = by (cases_eq k i)
  where
    by : (k ≡ i) ⊎ (k ≡ i → ⊥) → (get_or (set locks i (record { page = q; mode = mode })) k d).page ≡ (get_or locks k d).page
    by (inl e) =
        ap (λ n. (get_or (set locks i (record { page = q; mode = mode })) n d).page) e ∙ ap (λ (l : PageLock). l.page) (get_or-set_same locks i (record { page = q; mode = mode }) d is.within)
        ∙ sym (is.on_page d) ∙ ap (λ n. (get_or locks n d).page) (sym e)
    by (inr ne) = ap (λ (l : PageLock). l.page) (get_or-set_other locks i k (record { page = q; mode = mode }) d ne)

rising-set : (locks : List PageLock) (q i : ℕ) (mode : Mode) → IsAt locks q i → IsRising locks → IsRising (set locks i (record { page = q; mode = mode }))
rising-set locks q i mode is rising k l d lower within =
    let low = page-set locks q i mode is k d in
    let high = page-set locks q i mode is l d in
    let before = rising k l d lower (omega (arith, length-set {A = PageLock} locks i (record { page = q; mode = mode }))) in
    omega arith

-- where a lock of the longer list stood before
page-insert : (locks : List PageLock) (q i : ℕ) (mode : Mode) → IsBetween locks q i → (k : ℕ) (d : PageLock) → ((k < i) × ((get_or (insert locks i (record { page = q; mode = mode })) k d).page ≡ (get_or locks k d).page))
    ⊎ (((k ≡ i) × ((get_or (insert locks i (record { page = q; mode = mode })) k d).page ≡ q)) ⊎ ((i < k) × ((get_or (insert locks i (record { page = q; mode = mode })) k d).page ≡ (get_or locks (k - 1) d).page)))
page-insert locks q i mode is k d = by (cases_lt k i) (cases_eq k i)
  where
    by : (k < i) ⊎ (i ≤ k) → (k ≡ i) ⊎ (k ≡ i → ⊥) → ((k < i) × ((get_or (insert locks i (record { page = q; mode = mode })) k d).page ≡ (get_or locks k d).page))
        ⊎ (((k ≡ i) × ((get_or (insert locks i (record { page = q; mode = mode })) k d).page ≡ q)) ⊎ ((i < k) × ((get_or (insert locks i (record { page = q; mode = mode })) k d).page ≡ (get_or locks (k - 1) d).page)))
    by (inl lower) same = inl (lower, ap (λ (l : PageLock). l.page) (get_or-insert_below locks i (record { page = q; mode = mode }) d k lower is.within))
    by (inr higher) (inl e) = inr (inl (e, ap (λ n. (get_or (insert locks i (record { page = q; mode = mode })) n d).page) e ∙ ap (λ (l : PageLock). l.page) (get_or-insert_at locks i (record { page = q; mode = mode }) d is.within)))
    by (inr higher) (inr ne) =
        let next : k ≡ k - 1 + 1 = omega arith in
        inr (inr (omega arith, ap (λ n. (get_or (insert locks i (record { page = q; mode = mode })) n d).page) next ∙ ap (λ (l : PageLock). l.page) (get_or-insert_above locks i (record { page = q; mode = mode }) d (k - 1) (omega arith) is.within)))

length-inserted : (locks : List PageLock) (i : ℕ) (lock : PageLock) → i ≤ length locks → length (insert locks i lock) ≡ length locks + 1
length-inserted locks zero lock within = omega arith
length-inserted [] (suc i) lock within = absurd (omega arith)
length-inserted (first ∷ locks) (suc i) lock within = let rest = length-inserted locks i lock (omega arith) in omega arith

rising-insert : (locks : List PageLock) (q i : ℕ) (mode : Mode) → IsBetween locks q i → IsRising locks → IsRising (insert locks i (record { page = q; mode = mode }))
rising-insert locks q i mode is rising k l d lower within = by (page-insert locks q i mode is k d) (page-insert locks q i mode is l d)
  where
    long : length (insert locks i (record { page = q; mode = mode })) ≡ length locks + 1
    long = length-inserted locks i (record { page = q; mode = mode }) is.within

    by : ((k < i) × ((get_or (insert locks i (record { page = q; mode = mode })) k d).page ≡ (get_or locks k d).page))
        ⊎ (((k ≡ i) × ((get_or (insert locks i (record { page = q; mode = mode })) k d).page ≡ q)) ⊎ ((i < k) × ((get_or (insert locks i (record { page = q; mode = mode })) k d).page ≡ (get_or locks (k - 1) d).page)))
        → ((l < i) × ((get_or (insert locks i (record { page = q; mode = mode })) l d).page ≡ (get_or locks l d).page))
        ⊎ (((l ≡ i) × ((get_or (insert locks i (record { page = q; mode = mode })) l d).page ≡ q)) ⊎ ((i < l) × ((get_or (insert locks i (record { page = q; mode = mode })) l d).page ≡ (get_or locks (l - 1) d).page)))
        → (get_or (insert locks i (record { page = q; mode = mode })) k d).page < (get_or (insert locks i (record { page = q; mode = mode })) l d).page
    by (inl a) (inl b) = let ka = a.1 in let lb = b.1 in let lt = rising k l d lower (let w = is.within in let h = b.0 in omega arith) in omega arith
    by (inl a) (inr (inl b)) = let ka = a.1 in let lb = b.1 in let lt = is.below k d a.0 in omega arith
    by (inl a) (inr (inr b)) =
        let ka = a.1 in let lb = b.1 in let ki = a.0 in let il = b.0 in
        let lt = is.below k d a.0 in let gt = is.above (l - 1) d (omega arith) (let n = long in omega arith) in omega arith
    by (inr (inl a)) (inl b) = let e = a.0 in let h = b.0 in absurd (omega arith)
    by (inr (inl a)) (inr (inl b)) = let e = a.0 in let h = b.0 in absurd (omega arith)
    by (inr (inl a)) (inr (inr b)) =
        let ka = a.1 in let lb = b.1 in let il = b.0 in let gt = is.above (l - 1) d (omega arith) (let n = long in omega arith) in omega arith
    by (inr (inr a)) (inl b) = let e = a.0 in let h = b.0 in absurd (omega arith)
    by (inr (inr a)) (inr (inl b)) = let e = a.0 in let h = b.0 in absurd (omega arith)
    by (inr (inr a)) (inr (inr b)) =
        let ka = a.1 in let lb = b.1 in let ik = a.0 in let il = b.0 in
        let lt = rising (k - 1) (l - 1) d (omega arith) (let n = long in omega arith) in omega arith

pub len-with_page_present : (modes : Modes) (q : ℕ) (mode held : Mode) → map.get modes q ≡ Some held → map.len (with_page modes q mode) ≡ map.len modes
len-with_page_present modes q mode held is = grind (arith, map.len-insert nat_cmp_total modes q (stronger (map.get modes q) mode))

pub len-with_page_absent : (modes : Modes) (q : ℕ) (mode : Mode) → map.get modes q ≡ None → map.len (with_page modes q mode) ≡ map.len modes + 1
len-with_page_absent modes q mode is = grind (arith, map.len-insert nat_cmp_total modes q (stronger (map.get modes q) mode))

-- A list in order has a lock on this page in the stronger mode, or gets one.
pub record Strengthened (locks : List PageLock) (q : ℕ) (mode : Mode) (new : List PageLock) : Type 0 where
  pub modes : modes_of new ≡ with_page (modes_of locks) q mode
  pub in_order : IsInOrder new

-- a lock is made stronger by a write through a slice of the list
pub strengthened : (locks : ArrayVec PageLock) (looked read written : List PageLock) (q i : ℕ) (d : PageLock) (mode held : Mode)
    → IsInOrder locks.items → looked ≡ locks.items → read ≡ locks.items → written ≡ locks.items → IsAt looked q i → held ≡ stronger (Some (get_or read i d).mode) mode
    → Strengthened locks.items q mode (with_items locks (set written i (record { page = q; mode = held }))).items
strengthened locks looked read written q i d mode held order look reads write at is =
    let new : PageLock = record { page = q; mode = held } in
    let place : IsAt locks.items q i = subst (λ (l : List PageLock). IsAt l q i) look at in
    let items : (with_items locks (set written i new)).items ≡ set locks.items i new =
    items-with_items locks (set written i new) (length-set {A = PageLock} written i new ∙ ap length write) ∙ ap (λ xs. set xs i new) write in
    let mode_is : held ≡ stronger (Some (get_or locks.items i d).mode) mode = is ∙ ap (λ xs. stronger (Some (get_or xs i d).mode) mode) reads in
    let modes : modes_of (set locks.items i new) ≡ with_page (modes_of locks.items) q mode = ap (λ m. modes_of (set locks.items i (record { page = q; mode = m }))) mode_is ∙ modes_of-set locks.items q i d mode order.rising place in
    subst (λ (l : List PageLock). Strengthened locks.items q mode l) (sym items) (record {
      modes = modes;
      in_order = record {
        once = ap map.len modes ∙ len-with_page_present (modes_of locks.items) q mode (get_or locks.items i d).mode (get-modes_of locks.items q i d order.rising place)
            ∙ order.once ∙ sym (length-set {A = PageLock} locks.items i new);
        rising = rising-set locks.items q i held place order.rising;
      };
    })

-- and a lock on a further page is put between those on lower and on higher pages
pub added : (locks looked new : List PageLock) (q i : ℕ) (mode : Mode) → IsInOrder locks → looked ≡ locks → IsBetween looked q i → new ≡ insert locks i (record { page = q; mode = mode }) → Strengthened locks q mode new
added locks looked new q i mode order look at is =
    let lock : PageLock = record { page = q; mode = mode } in
    let place : IsBetween locks q i = subst (λ (l : List PageLock). IsBetween l q i) look at in
    let modes : modes_of (insert locks i lock) ≡ with_page (modes_of locks) q mode = modes_of-insert locks q i mode place in
    subst (λ (l : List PageLock). Strengthened locks q mode l) (sym is) (record {
      modes = modes;
      in_order = record {
        once = ap map.len modes ∙ len-with_page_absent (modes_of locks) q mode (get-modes_of_none locks q i place) ∙ ap (λ n. n + 1) order.once ∙ sym (length-inserted locks i lock place.within);
        rising = rising-insert locks q i mode place order.rising;
      };
    })

-- and one behind all others is put at the end
pub added_behind : (locks looked new : List PageLock) (q : ℕ) (mode : Mode) → IsInOrder locks → looked ≡ locks → IsBetween looked q (length looked) → new ≡ locks ++ record { page = q; mode = mode } ∷ [] → Strengthened locks q mode new
added_behind locks looked new q mode order look at is =
    added locks looked new q (length looked) mode order look at
    (is ∙ sym (insert_end locks (record { page = q; mode = mode })) ∙ ap (λ l. insert locks (length l) (record { page = q; mode = mode })) (sym look))

-- a further page has room where the map with it has
pub room_for : (locks looked : List PageLock) (modes : Modes) (q i : ℕ) (mode : Mode)
    → IsInOrder locks → looked ≡ locks → IsBetween looked q i → modes_of locks ≡ modes → map.len (map.insert modes q mode) ≤ 300 → (i ≤ length locks) × (length locks < 300)
room_for locks looked modes q i mode order look at is fits =
    let place : IsBetween locks q i = subst (λ (l : List PageLock). IsBetween l q i) look at in
    let none : map.get modes q ≡ None = ap (λ m. map.get m q) (sym is) ∙ get-modes_of_none locks q i place in
    let once = order.once in
    (place.within, grind (arith, map.len-insert nat_cmp_total modes q mode, once, ap map.len is))

-- a list with no lock is in order
pub empty_in_order : (locks : List PageLock) → locks ≡ [] → IsInOrder locks
empty_in_order locks is = subst (λ (l : List PageLock). IsInOrder l) (sym is) (record { once = map.len-empty nat_cmp Mode; rising = λ i j d lower within. absurd (omega arith) })

not_falling : (locks : List PageLock) → IsRising locks → (i j : ℕ) (d : PageLock) → i ≤ j → j < length locks → (get_or locks i d).page ≤ (get_or locks j d).page
not_falling locks rising i j d le within = by (cases_eq i j)
  where
    by : (i ≡ j) ⊎ (i ≡ j → ⊥) → (get_or locks i d).page ≤ (get_or locks j d).page
    by (inl e) = let same = ap (λ n. (get_or locks n d).page) e in omega arith
    by (inr ne) = let lt = rising i j d (omega arith) within in omega arith

-- where the last lock is on a lower page, all are
pub all_lower : (locks : List PageLock) (q : ℕ) (last : PageLock) → IsRising locks → 0 < length locks → last ≡ get_or locks (length locks - 1) last → last.page < q → IsBetween locks q (length locks)
all_lower locks q last rising some is lower = record {
  within = omega arith;
  below = λ k d h.
      let up = not_falling locks rising k (length locks - 1) d (omega arith) (omega arith) in
      let same = ap (λ (l : PageLock). l.page) (get_or_default locks (length locks - 1) d last (omega arith) ∙ sym is) in
      omega arith;
  above = λ k d le lt. absurd (omega arith);
}

higher : (q a b : ℕ) → a ≤ b → ordering_index (nat_cmp a q) ≤ ordering_index (nat_cmp b q)
higher q a b le = grind (arith, nat_tests)

-- what a binary search tells of a list in order
pub placed : (locks : List PageLock) (q : ℕ) (r : Result ℕ ℕ) → IsRising locks → IsSearchInRange r (length locks) → IsBinarySearchResult (λ lock. nat_cmp lock.page q) locks r → MatchResult r (IsAt locks q) (IsBetween locks q)
placed locks q (Ok i) rising range h = record {
  within = range;
  on_page = λ d. subst (λ o. MatchOrdering o ((get_or locks i d).page < q) ((get_or locks i d).page ≡ q) (q < (get_or locks i d).page)) (h d) (ranks (get_or locks i d).page q);
}
placed locks q (Err i) rising range h =
    let parted = h (λ a b d le lt. higher q (get_or locks a d).page (get_or locks b d).page (not_falling locks rising a b d le lt)) in
    record {
      within = range;
      below = λ k d l. subst (λ o. MatchOrdering o ((get_or locks k d).page < q) ((get_or locks k d).page ≡ q) (q < (get_or locks k d).page)) (parted.0 k d (omega arith) l) (ranks (get_or locks k d).page q);
      above = λ k d a l. subst (λ o. MatchOrdering o ((get_or locks k d).page < q) ((get_or locks k d).page ≡ q) (q < (get_or locks k d).page)) (parted.1 k d a l) (ranks (get_or locks k d).page q);
    }
