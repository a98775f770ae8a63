-- The sizes of sets: what a step does to them, and how great they can be.
use Rattle.std.proofs.Common.{◌≡◌, ◌≢◌, ◌⊎◌, inl, inr, ℕ, zero, suc, ◌+◌, ◌-◌, ◌<◌, ◌≤◌, Bool, true, false, cond, Option, None, Some, is_some, nat_eq, refl, sym, ap, subst, ◌∙◌, arith, eq-eqb, ne_eqb}
use Rattle.std.{proofs.lemmas.Bool.cases_eq, proofs.lemmas.Cmp.tied_itself, specs.declared.cmp.Ordering.Ordering, specs.declared.cmp.Ordering.TheVariants.Less, specs.declared.cmp.Ordering.TheVariants.Equal, specs.declared.cmp.Ordering.TheVariants.Greater, specs.Cmp.IsTotalOrder}
use Rattle.std.specs.FinMap as map
use Rattle.mlt_types.specs.{declared.cell.Cell.TheVariants.Element, Maps.with_entry}
use Rattle.mlt_object_kinds.specs.{declared.element.ElementOp.ElementOp, declared.element.ElementOp.TheVariants.Add, declared.element.ElementOp.TheVariants.Remove, declared.element.ElementOp.TheVariants.Has, declared.operation.ObjOp.ObjOp, declared.operation.ObjReply.ObjReply, Cells.CellState.ElementState, Elements.ElementStep, Sizes.put_into, Sizes.taken_from}
use Rattle.mlt_object_kinds.specs.Bases.{Base, Step, element_at, element_cmp, element_entry, empty_base, size_at, with_state}
use Rattle.mlt_object_kinds.proofs.BaseLaws.{element_cmp_tells_apart, element_cmp_total, element_entry_is, entry_beside, entry_here, same_element, step_is}

-- ---- maps: how many entries there are whose keys pass a test

abbrev one_or_none : Bool → ℕ
one_or_none here = cond here 1 0

module _ {K : Type 0} {R : K → K → Ordering} (o : IsTotalOrder R) (same : map.IsAntisymmetric R) where
  -- two keys are one or are not
  one_key_or_two : (q k : K) → (q ≡ k) ⊎ (q ≢ k)
  one_key_or_two q k =
      let other : R q k ≢ Equal → q ≢ k = λ n e. n (subst (λ x. R x k ≡ Equal) (sym e) (tied_itself o k)) in
      elim (R q k) as (λ r. R q k ≡ r → (q ≡ k) ⊎ (q ≢ k)) [
        | Less ↦ λ p. inr (other (λ e. cc))
        | Equal ↦ λ p. inl (same q k p)
        | Greater ↦ λ p. inr (other (λ e. cc))
      ] refl

module _ {K X : Type 0} {R : K → K → Ordering} (o : IsTotalOrder R) (same : map.IsAntisymmetric R) where
  -- what is kept at a key of the entries whose keys pass a test
  kept_at : (m : map.FinMap R X) (p : K → Bool) (q : K) → map.get (map.retain_keys m p) q ≡ cond (p q) (map.get m q) None
  kept_at m p q = map.get-retain_keys m p q (λ x t. ap p (sym (same q x t)))

  -- an entry whose key passes is changed among those that pass
  kept_here : (m : map.FinMap R X) (p : K → Bool) (k : K) (e : Option X) → p k ≡ true →
      map.retain_keys (with_entry m k e) p ≡ with_entry (map.retain_keys m p) k e
  kept_here m p k e passes = map.same_map o same _ _ (λ q.
      kept_at (with_entry m k e) p q
      ∙ elim (one_key_or_two o same q k) [
        | inl is ↦ subst (λ q. cond (p q) (map.get (with_entry m k e) q) None ≡ map.get (with_entry (map.retain_keys m p) k e) q) (sym is)
            (ap (λ b. cond b (map.get (with_entry m k e) k) None) passes ∙ entry_here o m k e ∙ sym (entry_here o (map.retain_keys m p) k e))
        | inr n ↦ ap (λ x. cond (p q) x None) (entry_beside o same m k e q n) ∙ sym (kept_at m p q) ∙ sym (entry_beside o same (map.retain_keys m p) k e q n)
      ])

  -- one whose key does not pass is none of them
  kept_beside : (m : map.FinMap R X) (p : K → Bool) (k : K) (e : Option X) → p k ≡ false →
      map.retain_keys (with_entry m k e) p ≡ map.retain_keys m p
  kept_beside m p k e fails = map.same_map o same _ _ (λ q.
      kept_at (with_entry m k e) p q
      ∙ elim (one_key_or_two o same q k) [
        | inl is ↦ subst (λ q. cond (p q) (map.get (with_entry m k e) q) None ≡ cond (p q) (map.get m q) None) (sym is)
            (ap (λ b. cond b (map.get (with_entry m k e) k) None) fails ∙ sym (ap (λ b. cond b (map.get m k) None) fails))
        | inr n ↦ ap (λ x. cond (p q) x None) (entry_beside o same m k e q n)
      ] ∙ sym (kept_at m p q))

  -- a map with an entry has one at least
  entry_counts : (m : map.FinMap R X) (k : K) → is_some (map.get m k) ≡ true → 1 ≤ map.len m
  entry_counts m k there =
      elim (map.len m) as (λ n. map.len m ≡ n → 1 ≤ n) [
        | zero ↦ λ none.
            let nothing : map.get m k ≡ None = ap (λ m. map.get m k) (map.empty_of_len m none) ∙ map.get-empty R k in
            absurd (let is : is_some (map.get m k) ≡ false = ap is_some nothing in cc)
        | suc n ↦ λ _. omega arith
      ] refl

  -- how many there are after a change, with what was there, and before it, with what is there
  counted : (m : map.FinMap R X) (k : K) (e : Option X) → map.len (with_entry m k e) + one_or_none (is_some (map.get m k)) ≡ map.len m + one_or_none (is_some e)
  counted m k None =
      elim (is_some (map.get m k)) as (λ b. is_some (map.get m k) ≡ b → map.len (map.remove m k) ≡ cond b (map.len m - 1) (map.len m) → map.len (map.remove m k) + cond b 1 0 ≡ map.len m + 0) [
        | true ↦ λ there len. let least = entry_counts m k there in omega arith
        | false ↦ λ _ len. omega arith
      ] refl (map.len-remove o m k)
  counted m k (Some x) =
      elim (is_some (map.get m k)) as (λ b. map.len (map.insert m k x) ≡ cond b (map.len m) (map.len m + 1) → map.len (map.insert m k x) + cond b 1 0 ≡ map.len m + 1) [
        | true ↦ λ len. omega arith
        | false ↦ λ len. omega arith
      ] (map.len-insert o m k x)

-- ---- sizes

abbrev is_in : ℕ → ℕ × ℕ → Bool
is_in s k = nat_eq k.0 s

-- no set of the empty base has an element
pub size_of_empty : (s : ℕ) → size_at empty_base s ≡ 0
unfolding size_at
size_of_empty s =
    let nothing : map.retain_keys (map.empty {X = Unit {0}} {R = element_cmp}) (is_in s) ≡ map.empty =
    map.same_map element_cmp_total element_cmp_tells_apart _ _ (λ q.
    kept_at element_cmp_total element_cmp_tells_apart map.empty (is_in s) q
    ∙ elim (is_in s q) as (λ b. cond b (map.get (map.empty {X = Unit {0}} {R = element_cmp}) q) None ≡ map.get (map.empty {X = Unit {0}} {R = element_cmp}) q) [
      | true ↦ refl
      | false ↦ sym (map.get-empty element_cmp q)
    ]) in
    ap map.len nothing ∙ map.len-empty element_cmp (Unit {0})

-- the size of a set is fixed by which elements are in it
pub same_size : (b c : Base) (s : ℕ) → ((e : ℕ) → element_at b s e ≡ element_at c s e) → size_at b s ≡ size_at c s
unfolding size_at
same_size b c s same =
    ap map.len (map.same_map element_cmp_total element_cmp_tells_apart _ _ (λ q.
    kept_at element_cmp_total element_cmp_tells_apart b.elements (is_in s) q
    ∙ elim (cases_eq q.0 s) [
      | inl is ↦ ap (λ x. cond (is_in s q) x None) (same_element _ _ (subst (λ t. element_at b t q.1 ≡ element_at c t q.1) (sym is) (same q.1)))
      | inr n ↦ ap (λ x. cond x (map.get b.elements q) None) (ne_eqb q.0 s n) ∙ sym (ap (λ x. cond x (map.get c.elements q) None) (ne_eqb q.0 s n))
    ] ∙ sym (kept_at element_cmp_total element_cmp_tells_apart c.elements (is_in s) q)))

-- the size of a set after a change of one of its elements
pub size_with_element : (b : Base) (s e : ℕ) (p : Bool) →
    size_at (with_state b (Element s e) (ElementState p)) s + cond (element_at b s e) 1 0 ≡ size_at b s + cond p 1 0
unfolding size_at
size_with_element b s e p =
    let m = b.elements in
    let itself : is_in s (s, e) ≡ true = eq-eqb s s refl in
    let kept = map.retain_keys m (is_in s) in
    let here = kept_here element_cmp_total element_cmp_tells_apart m (is_in s) (s, e) (element_entry p) itself in
    let found : map.get kept (s, e) ≡ map.get m (s, e) =
    kept_at element_cmp_total element_cmp_tells_apart m (is_in s) (s, e) ∙ ap (λ b. cond b (map.get m (s, e)) None) itself in
    let count = counted element_cmp_total element_cmp_tells_apart kept (s, e) (element_entry p) in
    ap (λ x. map.len x + cond (element_at b s e) 1 0) here
    ∙ ap (λ x. map.len (with_entry kept (s, e) (element_entry p)) + cond (is_some x) 1 0) (sym found)
    ∙ count ∙ ap (λ x. map.len kept + cond x 1 0) (element_entry_is p)

-- the size of another set
pub size_beside_element : (b : Base) (s e : ℕ) (p : Bool) (t : ℕ) → s ≢ t → size_at (with_state b (Element s e) (ElementState p)) t ≡ size_at b t
unfolding size_at
size_beside_element b s e p t n =
    ap map.len (kept_beside element_cmp_total element_cmp_tells_apart b.elements (is_in t) (s, e) (element_entry p) (ne_eqb s t n))

-- an operation changes the size of no set of which it neither adds nor removes an element
pub other_set_untouched : (s e : ℕ) (o : ElementOp) (r : ObjReply) (t : ℕ) → s ≢ t → (put_into t (ObjOp.Element s e o, r) ≡ 0) × (taken_from t (ObjOp.Element s e o, r) ≡ 0)
other_set_untouched s e Add ObjReply.Added t n = (ap (λ b. cond b 1 0) (ne_eqb s t n), refl)
other_set_untouched s e Remove ObjReply.Removed t n = (refl, ap (λ b. cond b 1 0) (ne_eqb s t n))
other_set_untouched s e o r t n = (refl, refl)

-- what a step of an element puts in and takes out is what changes
step_counts : (s e : ℕ) (o : ElementOp) (r : ObjReply) (p q : Bool) → ElementStep p o r q →
    cond q 1 0 + taken_from s (ObjOp.Element s e o, r) ≡ cond p 1 0 + put_into s (ObjOp.Element s e o, r)
step_counts s e Add ObjReply.Added false q step = rw (sym step.1, eq-eqb s s refl) refl
step_counts s e Add ObjReply.Present true q step = rw (sym step.1) refl
step_counts s e Remove ObjReply.Removed true q step = rw (sym step.1, eq-eqb s s refl) refl
step_counts s e Remove ObjReply.Absent false q step = rw (sym step.1) refl
step_counts s e Has ObjReply.Yes true q step = rw (sym step.1) refl
step_counts s e Has ObjReply.No false q step = rw (sym step.1) refl
step_counts s e o r p q step = absurd step.0

-- the size of a set after a step, and what was taken out of it, are the size before and what was put in
pub size_after_step : (b c : Base) (x : ObjOp × ObjReply) (t : ℕ) → Step b x c → size_at c t + taken_from t x ≡ size_at b t + put_into t x
size_after_step b c (ObjOp.Account a o, r) t h = ap (λ n. n + 0) (ap (λ d. size_at d t) (step_is b c (ObjOp.Account a o, r) h) ∙ same_size _ b t (λ e. refl))
size_after_step b c (ObjOp.Counter d o, r) t h = ap (λ n. n + 0) (ap (λ d. size_at d t) (step_is b c (ObjOp.Counter d o, r) h) ∙ same_size _ b t (λ e. refl))
size_after_step b c (ObjOp.Size s, r) t h = ap (λ n. n + 0) (ap (λ d. size_at d t) (step_is b c (ObjOp.Size s, r) h))
size_after_step b c (ObjOp.Element s e o, r) t h =
    let x : ObjOp × ObjReply = (ObjOp.Element s e o, r) in
    let is : size_at c t ≡ size_at (with_state b (Element s e) (ElementState (element_at c s e))) t = ap (λ d. size_at d t) (step_is b c x h) in
    elim (cases_eq s t) [
      | inl one ↦
          let sizes : size_at c s + cond (element_at b s e) 1 0 ≡ size_at b s + cond (element_at c s e) 1 0 =
          ap (λ d. size_at d s + cond (element_at b s e) 1 0) (step_is b c x h) ∙ size_with_element b s e (element_at c s e) in
          let counts = step_counts s e o r (element_at b s e) (element_at c s e) h.0 in
          let at_s : size_at c s + taken_from s x ≡ size_at b s + put_into s x = omega arith in
          subst (λ t. size_at c t + taken_from t x ≡ size_at b t + put_into t x) one at_s
      | inr n ↦
          let none = other_set_untouched s e o r t n in
          let same : size_at c t ≡ size_at b t = is ∙ size_beside_element b s e (element_at c s e) t n in
          omega arith
    ]

-- a set of elements below a number has no more than that
pub size_below : (n : ℕ) (b : Base) (s : ℕ) → ((e : ℕ) → element_at b s e ≡ true → e < n) → size_at b s ≤ n
size_below zero b s below =
    let none : (e : ℕ) → element_at b s e ≡ element_at empty_base s e = λ e.
    elim (element_at b s e) as (λ p. element_at b s e ≡ p → p ≡ element_at empty_base s e) [
      | true ↦ λ there. absurd (let less = below e there in omega arith)
      | false ↦ λ _. sym (ap is_some (map.get-empty element_cmp (s, e)))
    ] refl in
    let same = same_size b empty_base s none in
    let empty = size_of_empty s in
    omega arith
size_below (suc n) b s below =
    let less = with_state b (Element s n) (ElementState false) in
    let fewer : (e : ℕ) → element_at less s e ≡ true → e < n = λ e there.
    elim (cases_eq e n) [
      | inl is ↦ absurd (
          let gone : element_at less s n ≡ false = ap is_some (entry_here element_cmp_total b.elements (s, n) None) in
          let here : element_at less s n ≡ true = subst (λ e. element_at less s e ≡ true) is there in
          cc
          )
      | inr other ↦
          let apart : ◌≢◌ {A = ℕ × ℕ} (s, e) (s, n) = λ same. other (ap (λ (k : ℕ × ℕ). k.1) same) in
          let before : element_at b s e ≡ true = ap is_some (sym (entry_beside element_cmp_total element_cmp_tells_apart b.elements (s, n) None (s, e) apart)) ∙ there in
          let least = below e before in
          omega arith
    ] in
    let rest = size_below n less s fewer in
    let count = size_with_element b s n false in
    let at_most : cond (element_at b s n) 1 0 ≤ 1 = elim (element_at b s n) as (λ p. cond p 1 0 ≤ 1) [ true ↦ omega arith | false ↦ omega arith ] in
    omega arith
