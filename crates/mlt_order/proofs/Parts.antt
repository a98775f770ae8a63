-- The items of one number in a list whose items bear numbers.
use Rattle.std.proofs.Common.{◌≡◌, ◌≢◌, ℕ, List, [], ◌∷◌, ◌++◌, refl, sym, subst, ap, ◌∙◌, inl, inr, cond, true, false, nat_eq, Contains, eq-eqb, ne_eqb}
use Rattle.std.proofs.lemmas.{Bool.cases_eq, List.Elements.Contains-append_cases, List.Elements.Contains-append_left}
use Rattle.mlt_order.{specs.Interleavings.items_of, specs.Interleavings.all_items, proofs.RunLemmas.contains-later, proofs.RunLemmas.contains-nothing}

-- each item under one number
abbrev pub numbered : {P : Type 0} → ℕ → List P → List (ℕ × P)
numbered i [] = []
numbered i (p ∷ ps) = (i, p) ∷ numbered i ps

-- the list without the items of a number
abbrev pub without : {P : Type 0} → ℕ → List (ℕ × P) → List (ℕ × P)
without i [] = []
without i (x ∷ xs) = cond (nat_eq x.0 i) (without i xs) (x ∷ without i xs)

module _ {P : Type 0} where
  pub items_of-same : (i : ℕ) (x : ℕ × P) (xs : List (ℕ × P)) → x.0 ≡ i → items_of i (x ∷ xs) ≡ x.1 ∷ items_of i xs
  items_of-same i x xs e = rw (eq-eqb x.0 i e) refl

  pub items_of-other : (i : ℕ) (x : ℕ × P) (xs : List (ℕ × P)) → x.0 ≢ i → items_of i (x ∷ xs) ≡ items_of i xs
  items_of-other i x xs n = rw (ne_eqb x.0 i n) refl

  pub items_of-append : (i : ℕ) (a c : List (ℕ × P)) → items_of i (a ++ c) ≡ items_of i a ++ items_of i c
  items_of-append i [] c = refl
  items_of-append i (x ∷ a) c =
      let ih = items_of-append i a c in
      elim (nat_eq x.0 i) as (λ v. cond v (x.1 ∷ items_of i (a ++ c)) (items_of i (a ++ c)) ≡ cond v (x.1 ∷ items_of i a) (items_of i a) ++ items_of i c) [
        | true ↦ ap (λ l. x.1 ∷ l) ih
        | false ↦ ih
      ]

  pub all_items-append : (a c : List (ℕ × P)) → all_items (a ++ c) ≡ all_items a ++ all_items c
  all_items-append [] c = refl
  all_items-append (x ∷ a) c = ap (λ l. x.1 ∷ l) (all_items-append a c)

  pub all_items-numbered : (i : ℕ) (t : List P) → all_items (numbered i t) ≡ t
  all_items-numbered i [] = refl
  all_items-numbered i (p ∷ t) = ap (λ l. p ∷ l) (all_items-numbered i t)

  pub items_of-numbered_same : (i : ℕ) (t : List P) → items_of i (numbered i t) ≡ t
  items_of-numbered_same i [] = refl
  items_of-numbered_same i (p ∷ t) = items_of-same i (i, p) (numbered i t) refl ∙ ap (λ l. p ∷ l) (items_of-numbered_same i t)

  pub items_of-numbered_other : (i j : ℕ) (t : List P) → j ≢ i → items_of j (numbered i t) ≡ []
  items_of-numbered_other i j [] n = refl
  items_of-numbered_other i j (p ∷ t) n = items_of-other j (i, p) (numbered i t) (λ e. n (sym e)) ∙ items_of-numbered_other i j t n

  without-same : (i : ℕ) (x : ℕ × P) (xs : List (ℕ × P)) → x.0 ≡ i → without i (x ∷ xs) ≡ without i xs
  without-same i x xs e = rw (eq-eqb x.0 i e) refl

  without-other : (i : ℕ) (x : ℕ × P) (xs : List (ℕ × P)) → x.0 ≢ i → without i (x ∷ xs) ≡ x ∷ without i xs
  without-other i x xs n = rw (ne_eqb x.0 i n) refl

  pub items_of-without_same : (i : ℕ) (xs : List (ℕ × P)) → items_of i (without i xs) ≡ []
  items_of-without_same i [] = refl
  items_of-without_same i (x ∷ xs) =
      let ih = items_of-without_same i xs in
      elim (cases_eq x.0 i) [
        | inl e ↦ ap (items_of i) (without-same i x xs e) ∙ ih
        | inr n ↦ ap (items_of i) (without-other i x xs n) ∙ items_of-other i x (without i xs) n ∙ ih
      ]

  pub items_of-without_other : (i j : ℕ) (xs : List (ℕ × P)) → j ≢ i → items_of j (without i xs) ≡ items_of j xs
  items_of-without_other i j [] n = refl
  items_of-without_other i j (x ∷ xs) n =
      let ih = items_of-without_other i j xs n in
      elim (cases_eq x.0 i) [
        | inl e ↦ ap (items_of j) (without-same i x xs e) ∙ ih ∙ sym (items_of-other j x xs (λ f. n (sym f ∙ e)))
        | inr k ↦ ap (items_of j) (without-other i x xs k) ∙ ap (λ l. cond (nat_eq x.0 j) (x.1 ∷ l) l) ih
      ]

  -- the last item of a number, with what stands before and behind it
  abbrev pub Last : ℕ → List (ℕ × P) → List P → P → Type 0
  Last i xs rest p = (front : List (ℕ × P)) × (back : List (ℕ × P)) × (xs ≡ front ++ (i, p) ∷ back) × (items_of i front ≡ rest) × (items_of i back ≡ [])

  last_same : (i : ℕ) (x : ℕ × P) (xs : List (ℕ × P)) (p : P) → x.0 ≡ i → ((rest : List P) → items_of i xs ≡ rest ++ p ∷ [] → Last i xs rest p) →
      (rest : List P) → x.1 ∷ items_of i xs ≡ rest ++ p ∷ [] → Last i (x ∷ xs) rest p
  last_same i x xs p h rec [] e =
      let one : x.1 ≡ p = cc in
      let none : items_of i xs ≡ [] = cc in
      let whole : x ≡ (i, p) = λ d. (h d, one d) in
      ([], xs, ap (λ y. y ∷ xs) whole, refl, none)
  last_same i x xs p h rec (y ∷ rest) e =
      let one : x.1 ≡ y = cc in
      let t = rec rest (let f : items_of i xs ≡ rest ++ p ∷ [] = cc in f) in
      (x ∷ t.0, t.1, ap (λ n. x ∷ n) t.2, items_of-same i x t.0 h ∙ ap (λ n. x.1 ∷ n) t.3 ∙ ap (λ z. z ∷ rest) one, t.4)

  pub last_of : (i : ℕ) (xs : List (ℕ × P)) (p : P) (rest : List P) → items_of i xs ≡ rest ++ p ∷ [] → Last i xs rest p
  last_of i [] p [] e = absurd cc
  last_of i [] p (y ∷ rest) e = absurd cc
  last_of i (x ∷ xs) p rest e =
      elim (cases_eq x.0 i) [
        | inl h ↦ last_same i x xs p h (last_of i xs p) rest (sym (items_of-same i x xs h) ∙ e)
        | inr n ↦
            let t = last_of i xs p rest (sym (items_of-other i x xs n) ∙ e) in
            (x ∷ t.0, t.1, ap (λ m. x ∷ m) t.2, items_of-other i x t.0 n ∙ t.3, t.4)
      ]

  -- each item stands under its number
  pub in_all_items : (xs : List (ℕ × P)) (q : P) → Contains (all_items xs) q → (j : ℕ) × Contains (items_of j xs) q
  in_all_items [] q h = absurd (contains-nothing q h)
  in_all_items (x ∷ xs) q h =
      let ih = in_all_items xs q in
      let F : List P → Type 0 = λ l. Contains l q in
      elim (Contains-append_cases (x.1 ∷ []) (all_items xs) q h) [
        | inl e ↦
            let whole : F (x.1 ∷ items_of x.0 xs) = Contains-append_left (x.1 ∷ []) (items_of x.0 xs) q e in
            (x.0, subst F (sym (items_of-same x.0 x xs refl)) whole)
        | inr k ↦
            let t = ih k in
            (t.0, elim (nat_eq x.0 t.0) as (λ v. F (cond v (x.1 ∷ items_of t.0 xs) (items_of t.0 xs))) [ true ↦ contains-later x.1 q (items_of t.0 xs) t.1 | false ↦ t.1 ])
      ]
