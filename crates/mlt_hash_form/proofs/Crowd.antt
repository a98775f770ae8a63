-- No room for depth: eight entries of the file agree with the key just where the eight slots of its bucket do.
-- Other crates cite this module.
use Rattle.std.proofs.Common.{ℕ, zero, suc, ◌≡◌, ◌<◌, ◌≤◌, ◌-◌, ◌/◌, ◌^◌, Bool, true, false, List, [], ◌∷◌, length, map, get_or, eqb, refl, sym, ◌∙◌, ap, arith, inl, inr, ◌↔◌, eqb-true, eq-eqb, ne_eqb, nat_cmp}
use Rattle.mlt_hash_form.proofs.Names.{list_any, cases_lt, cases_Bool, and_parts, and_from, both_ways, or_cases, get_or_past, first_bits, half, is_kept, key_of, Slot, Free, BucketFields, slot_at, IsSpread, is_used}
use Rattle.std.{specs.List.IsDistinct, specs.List.list_all, specs.List.AllByRecursion, proofs.lemmas.Bool.or_parts, proofs.lemmas.Map.Steps.length-le_from_distinct_below}
use Rattle.std.specs.FinSet as set
use Rattle.mlt_hash_form.{specs.Room.crowds, specs.Room.IsCrowded, proofs.Bits.first_bits-first_bits, proofs.Splitting.half_cases, proofs.Splitting.used_from_kept}

-- the values of f below n
values : (ℕ → ℕ) → ℕ → List ℕ
values f zero = []
values f (suc n) = f n ∷ values f n

values_length : (f : ℕ → ℕ) (n : ℕ) → length (values f n) ≡ n
unfolding values
values_length f zero = refl
values_length f (suc n) = ap suc (values_length f n)

-- a number is a value, or no value
value_found : (f : ℕ → ℕ) (m n : ℕ) → list_any (eqb m) (values f n) ≡ true → (i : ℕ) × (i < n) × (f i ≡ m)
unfolding values
value_found f m zero h = absurd (both_ways false refl h)
value_found f m (suc n) h =
    elim (or_cases (eqb m (f n)) (list_any (eqb m) (values f n)) h) [
      | inl e ↦ (n, omega arith, sym (eqb-true m (f n) e))
      | inr e ↦ let r = value_found f m n e in (r.0, omega (arith, r.1), r.2)
    ]

apart_by_any : (m : ℕ) (xs : List ℕ) → list_any (eqb m) xs ≡ false → AllByRecursion (λ y. eqb m y ≡ false) xs
apart_by_any m [] h = tt
apart_by_any m (x ∷ xs) h = let p = or_parts (eqb m x) (list_any (eqb m) xs) h in (p.0, apart_by_any m xs p.1)

apart_by_all : (f : ℕ → ℕ) (m n : ℕ) → ((i : ℕ) → i < n → f i ≡ m → ⊥) → AllByRecursion (λ y. eqb m y ≡ false) (values f n)
unfolding values
apart_by_all f m zero h = tt
apart_by_all f m (suc n) h = (ne_eqb m (f n) (λ e. h n (omega arith) (sym e)), apart_by_all f m n (λ i lt. h i (omega arith)))

values_distinct : (f : ℕ → ℕ) (n : ℕ) → ((i j : ℕ) → i < n → j < n → f i ≡ f j → i ≡ j) → IsDistinct eqb (values f n)
unfolding values IsDistinct
values_distinct f zero h = tt
values_distinct f (suc n) h = (
  apart_by_all f (f n) n (λ i lt e. let s = h i n (omega arith) (omega arith) e in omega arith),
  values_distinct f n (λ i j k l. h i j (omega arith) (omega arith)),
)

-- n different numbers below n are all of them
pub every_value : (f : ℕ → ℕ) (n m : ℕ) → ((i : ℕ) → i < n → f i < n) → ((i j : ℕ) → i < n → j < n → f i ≡ f j → i ≡ j) → m < n → (i : ℕ) × (i < n) × (f i ≡ m)
unfolding IsDistinct
every_value f n m below differ h =
    elim (cases_Bool (list_any (eqb m) (values f n))) [
      | inl e ↦ value_found f m n e
      | inr e ↦
          let all : (q : ℕ) → list_any (eqb q) (m ∷ values f n) ≡ true → q < n = λ q k. elim (or_cases (eqb q m) (list_any (eqb q) (values f n)) k) [
            | inl s ↦ rw (eqb-true q m s) h
            | inr s ↦ let r = value_found f q n s in rw (← r.2) (below r.0 r.1)
          ] in
          let long = length-le_from_distinct_below (m ∷ values f n) n (apart_by_any m (values f n) e, values_distinct f n differ) all in
          let size = values_length f n in
          absurd (omega (arith, long, size))
    ]

module _ (bits : ℕ → ℕ) (active : set.FinSet nat_cmp) (g : ℕ) (lead : ℕ → ℕ) (buckets : ℕ → BucketFields) (d x : ℕ) (x_ok : x < 2 ^ 64) (bounded : (k : ℕ) → bits k < 2 ^ 64) (form : IsSpread bits g lead buckets) (deep : (buckets (lead x)).depth ≤ d) (small : d ≤ 64) where
  -- an entry that agrees is in the key's bucket
  crowds_here : (n j : ℕ) → crowds bits active d x (slot_at buckets n j) ≡ true → n ≡ lead x
  crowds_here n j e =
      let b = lead x in
      let l = (buckets b).depth in
      let s = slot_at buckets n j in
      let p = and_parts _ _ e in
      let home = form.home n j (used_from_kept active s p.0) in
      let same : first_bits d x ≡ first_bits d (bits (key_of s)) = sym (eqb-true _ _ p.1) in
      let front : first_bits l x ≡ first_bits l (bits (key_of s)) = sym (first_bits-first_bits l d x deep small) ∙ ap (λ y. y / 2 ^ (d - l)) same ∙ first_bits-first_bits l d (bits (key_of s)) deep small in
      sym home ∙ sym (form.together x (bits (key_of s)) x_ok (bounded (key_of s)) front)

  -- a used slot is one of the eight
  used_within : (j : ℕ) → is_used (slot_at buckets (lead x) j) ≡ true → j < 8
  used_within j e =
      let full = form.whole x x_ok in
      elim (cases_lt j 8) [
        | inl lt ↦ lt
        | inr le ↦
            let past : slot_at buckets (lead x) j ≡ Free = get_or_past (buckets (lead x)).slots j Free (omega (arith, full)) in
            absurd (both_ways _ refl (rw past at e))
      ]

  pub crowded_just : IsCrowded bits active buckets d x ↔ ((j : ℕ) → j < 8 → crowds bits active d x (slot_at buckets (lead x) j) ≡ true)
  crowded_just = (
    (λ (c : IsCrowded bits active buckets d x) (j : ℕ) (h : j < 8).
        let b = lead x in
        let page : (i : ℕ) → i < 8 → c.page i ≡ b = λ i k. crowds_here (c.page i) (c.at i) (c.each i k) in
        let each : (i : ℕ) → i < 8 → crowds bits active d x (slot_at buckets b (c.at i)) ≡ true = λ i k. rw (page i k) at (c.each i k) in
        let below : (i : ℕ) → i < 8 → c.at i < 8 = λ i k. used_within (c.at i) (used_from_kept active _ (and_parts _ _ (each i k)).0) in
        let r = every_value c.at 8 j below (λ i k li lk e. c.differ i k li lk (page i li ∙ sym (page k lk)) e) h in
        rw r.2 at (each r.0 r.1)),
    (λ (all : (j : ℕ) → j < 8 → crowds bits active d x (slot_at buckets (lead x) j) ≡ true).
        record { page = λ i. lead x; at = λ i. i; differ = λ i j h k p e. e; each = all }),
  )

-- a test that a bucket's eight slots all pass
all_from_list : {X : Type 0} (p : X → Bool) (xs : List X) (j : ℕ) (e : X) → list_all p xs ≡ true → j < length xs → p (get_or xs j e) ≡ true
all_from_list p [] j e h lt = absurd (omega arith)
all_from_list p (x ∷ xs) zero e h lt = (and_parts (p x) (list_all p xs) h).0
all_from_list p (x ∷ xs) (suc j) e h lt = all_from_list p xs j e (and_parts (p x) (list_all p xs) h).1 (omega arith)

list_from_all : {X : Type 0} (p : X → Bool) (xs : List X) (e : X) → ((j : ℕ) → j < length xs → p (get_or xs j e) ≡ true) → list_all p xs ≡ true
list_from_all p [] e h = refl
list_from_all p (x ∷ xs) e h = and_from (p x) (list_all p xs) (h zero (omega arith)) (list_from_all p xs e (λ j lt. h (suc j) (omega arith)))

-- the test that a walk makes of the key's bucket tells it
pub crowded_test : (bits : ℕ → ℕ) (active : set.FinSet nat_cmp) (g : ℕ) (lead : ℕ → ℕ) (buckets : ℕ → BucketFields) (d x : ℕ) → x < 2 ^ 64 → ((k : ℕ) → bits k < 2 ^ 64) → IsSpread bits g lead buckets → (buckets (lead x)).depth ≤ d → d ≤ 64 → IsCrowded bits active buckets d x ↔ (list_all (crowds bits active d x) (buckets (lead x)).slots ≡ true)
crowded_test bits active g lead buckets d x x_ok bounded form deep small =
    let just = crowded_just bits active g lead buckets d x x_ok bounded form deep small in
    let full = form.whole x x_ok in
    let slots = (buckets (lead x)).slots in (
      (λ (c : IsCrowded bits active buckets d x). list_from_all (crowds bits active d x) slots Free (λ j lt. just.0 c j (omega arith))),
      (λ (h : list_all (crowds bits active d x) slots ≡ true). just.1 (λ j lt. all_from_list (crowds bits active d x) slots j Free h (omega arith))),
    )

-- slots that agree in more bits agree in fewer
pub crowds_in_fewer : (bits : ℕ → ℕ) (active : set.FinSet nat_cmp) (l d x : ℕ) (s : Slot) → l ≤ d → d ≤ 64 → crowds bits active d x s ≡ true → crowds bits active l x s ≡ true
crowds_in_fewer bits active l d x s h small e =
    let p = and_parts _ _ e in
    let y = bits (key_of s) in
    let same : first_bits l y ≡ first_bits l x = sym (first_bits-first_bits l d y h small) ∙ ap (λ z. z / 2 ^ (d - l)) (eqb-true _ _ p.1) ∙ first_bits-first_bits l d x h small in
    and_from _ _ p.0 (eq-eqb _ _ same)

all_from_all : {X : Type 0} (p q : X → Bool) (xs : List X) → ((z : X) → p z ≡ true → q z ≡ true) → list_all p xs ≡ true → list_all q xs ≡ true
all_from_all p q [] f h = refl
all_from_all p q (z ∷ xs) f h = let r = and_parts (p z) (list_all p xs) h in and_from (q z) (list_all q xs) (f z r.0) (all_from_all p q xs f r.1)

pub crowded_in_fewer : (bits : ℕ → ℕ) (active : set.FinSet nat_cmp) (l d x : ℕ) (slots : List Slot) → l ≤ d → d ≤ 64 → list_all (crowds bits active d x) slots ≡ true → list_all (crowds bits active l x) slots ≡ true
crowded_in_fewer bits active l d x slots h small = all_from_all (crowds bits active d x) (crowds bits active l x) slots (λ s. crowds_in_fewer bits active l d x s h small)

-- in the bucket that x leads to each slot that is kept agrees with x in the bucket's own bits
module _ (bits : ℕ → ℕ) (active : set.FinSet nat_cmp) (g : ℕ) (lead : ℕ → ℕ) (buckets : ℕ → BucketFields) (x : ℕ) (x_ok : x < 2 ^ 64) (bounded : (k : ℕ) → bits k < 2 ^ 64) (form : IsSpread bits g lead buckets) where
  kept_crowds : (j : ℕ) → is_kept active (slot_at buckets (lead x) j) ≡ true → crowds bits active (buckets (lead x)).depth x (slot_at buckets (lead x) j) ≡ true
  kept_crowds j e =
      let y = bits (key_of (slot_at buckets (lead x) j)) in
      let home = form.home (lead x) j (used_from_kept active _ e) in
      let same = form.apart x y x_ok (bounded _) (sym home) in
      and_from _ _ e (eq-eqb _ _ (sym same))

  pub crowded_at_own_depth : (list_all (crowds bits active (buckets (lead x)).depth x) (buckets (lead x)).slots ≡ true) ↔ (list_all (is_kept active) (buckets (lead x)).slots ≡ true)
  crowded_at_own_depth =
      let slots = (buckets (lead x)).slots in
      let l = (buckets (lead x)).depth in (
        (λ (h : list_all (crowds bits active l x) slots ≡ true). all_from_all (crowds bits active l x) (is_kept active) slots (λ s e. (and_parts _ _ e).0) h),
        (λ (h : list_all (is_kept active) slots ≡ true). list_from_all (crowds bits active l x) slots Free (λ j lt. kept_crowds j (all_from_list (is_kept active) slots j Free h lt))),
      )

-- a half has no more slots that agree than the whole
half_crowds : (bits : ℕ → ℕ) (active later : set.FinSet nat_cmp) (l bit d x : ℕ) (s : Slot) → crowds bits later d x (half bits active l bit s) ≡ true → crowds bits later d x s ≡ true
half_crowds bits active later l bit d x s e =
    elim (half_cases bits active l bit s) [
      | inl h ↦ ap (crowds bits later d x) (sym h.0) ∙ e
      | inr h ↦ absurd (both_ways _ (ap (crowds bits later d x) h) e)
    ]

pub crowded_half : (bits : ℕ → ℕ) (active later : set.FinSet nat_cmp) (l bit d x : ℕ) (slots : List Slot) → list_all (crowds bits later d x) (map (half bits active l bit) slots) ≡ true → list_all (crowds bits later d x) slots ≡ true
crowded_half bits active later l bit d x [] h = refl
crowded_half bits active later l bit d x (s ∷ slots) h =
    let r = and_parts _ _ h in
    and_from _ _ (half_crowds bits active later l bit d x s r.0) (crowded_half bits active later l bit d x slots r.1)

-- nor do slots of which fewer are kept
pub crowded_with_fewer : (bits : ℕ → ℕ) (active later : set.FinSet nat_cmp) (d x : ℕ) (slots : List Slot) → ((i : ℕ) → i < length slots → is_kept later (get_or slots i Free) ≡ true → is_kept active (get_or slots i Free) ≡ true)
    → list_all (crowds bits later d x) slots ≡ true → list_all (crowds bits active d x) slots ≡ true
crowded_with_fewer bits active later d x slots fewer h =
    list_from_all (crowds bits active d x) slots Free
    (λ i lt.
    let p = and_parts _ _ (all_from_list (crowds bits later d x) slots i Free h lt) in
    and_from _ _ (fewer i lt p.0) p.1)
