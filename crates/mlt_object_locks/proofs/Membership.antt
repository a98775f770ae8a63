-- What a list contains: one more in front, a filter, and a place that is set.
use Rattle.mlt_object_locks.proofs.Names.{zero, list_all, list_any, cases_eq, nat_tests, get_or_default, Contains-append_left, Contains-push, Contains-push_cases, Contains-get_or}
use Rattle.std.proofs.Common.{◌≡◌, ◌≢◌, ◌⊎◌, ℕ, suc, ◌<◌, List, [], ◌∷◌, Bool, true, false, cond, ◌&&◌, ◌||◌, Some, None, nat_eq, Contains, take, drop, take-append-drop, length, get_or, set, length-set, sym, ap, subst, ◌∙◌, refl, true≢false, inl, inr, arith, filter, position, get_or-set_same, get_or-set_other}
use Rattle.std.{specs.List.position_or_len, specs.List.Retain.RetainsInTurn, proofs.lemmas.List.Elements.Contains-append_cases, proofs.lemmas.List.Elements.Contains-append_right}

module _ {X : Type 0} where
  pub none_in_empty : (y : X) → Contains [] y → ⊥
  none_in_empty y h = let e = h.1 in absurd (omega arith)

  first_cases : (x y : X) → Contains [] y ⊎ (x ≡ y) → x ≡ y
  first_cases x y (inl none) = absurd (none_in_empty y none)
  first_cases x y (inr same) = same

  front_cases : (x : X) (xs : List X) (y : X) → Contains (x ∷ []) y ⊎ Contains xs y → (x ≡ y) ⊎ Contains xs y
  front_cases x xs y (inl h) = inl (first_cases x y (Contains-push_cases [] x y h))
  front_cases x xs y (inr h) = inr h

  -- what a list contains is its first, or in the rest
  pub contains_cases : (x : X) (xs : List X) (y : X) → Contains (x ∷ xs) y → (x ≡ y) ⊎ Contains xs y
  contains_cases x xs y h = front_cases x xs y (Contains-append_cases (x ∷ []) xs y h)

  pub contains_first : (x : X) (xs : List X) → Contains (x ∷ xs) x
  contains_first x xs = Contains-append_left (x ∷ []) xs x (Contains-push [] x)

  pub contains_later : (x : X) (xs : List X) (y : X) → Contains xs y → Contains (x ∷ xs) y
  contains_later x xs y h = Contains-append_right (x ∷ []) xs y h

  -- a list of one has that one, and a list of two one of them
  pub the_one : (x y : X) → Contains (x ∷ []) y → x ≡ y
  the_one x y h = first_cases x y (Contains-push_cases [] x y h)

  pub one_of_two : (x z y : X) → Contains (x ∷ z ∷ []) y → (x ≡ y) ⊎ (z ≡ y)
  one_of_two x z y h = by (contains_cases x (z ∷ []) y h)
    where
      by : (x ≡ y) ⊎ Contains (z ∷ []) y → (x ≡ y) ⊎ (z ≡ y)
      by (inl e) = inl e
      by (inr c) = inr (the_one z y c)

  -- what the front of a list has, the list has
  pub from_front : (xs : List X) (n : ℕ) (y : X) → Contains (take n xs) y → Contains xs y
  from_front xs n y h = subst (λ l. Contains l y) (take-append-drop n xs) (Contains-append_left (take n xs) (drop n xs) y h)

  module _ (p : X → Bool) where
    filtered_first : (x : X) (xs fs : List X) (y : X) (b : Bool) → p x ≡ b → (Contains fs y → Contains xs y × (p y ≡ true)) → Contains (cond b (x ∷ fs) fs) y → Contains (x ∷ xs) y × (p y ≡ true)
    filtered_first x xs fs y false is rest h = let r = rest h in (contains_later x xs y r.0, r.1)
    filtered_first x xs fs y true is rest h = by (contains_cases x fs y h)
      where
        by : (x ≡ y) ⊎ Contains fs y → Contains (x ∷ xs) y × (p y ≡ true)
        by (inl same) = (subst (λ z. Contains (x ∷ xs) z) same (contains_first x xs), ap p (sym same) ∙ is)
        by (inr later) = let r = rest later in (contains_later x xs y r.0, r.1)

    -- what passes was there
    pub contains_filtered : (xs : List X) (y : X) → Contains (filter p xs) y → Contains xs y × (p y ≡ true)
    contains_filtered [] y h = absurd (none_in_empty y h)
    contains_filtered (x ∷ xs) y h = filtered_first x xs (filter p xs) y (p x) refl (contains_filtered xs y) h

    kept_first : (x : X) (fs : List X) (y : X) (b : Bool) → p x ≡ b → p y ≡ true → (x ≡ y) ⊎ Contains fs y → Contains (cond b (x ∷ fs) fs) y
    kept_first x fs y true is passes (inl same) = subst (λ z. Contains (x ∷ fs) z) same (contains_first x fs)
    kept_first x fs y true is passes (inr later) = contains_later x fs y later
    kept_first x fs y false is passes (inl same) = absurd (true≢false (sym passes ∙ ap p (sym same) ∙ is))
    kept_first x fs y false is passes (inr later) = later

    mapped : (x : X) (xs fs : List X) (y : X) → (Contains xs y → Contains fs y) → (x ≡ y) ⊎ Contains xs y → (x ≡ y) ⊎ Contains fs y
    mapped x xs fs y f (inl same) = inl same
    mapped x xs fs y f (inr later) = inr (f later)

    -- what was there and passes is kept
    pub filter_contains : (xs : List X) (y : X) → Contains xs y → p y ≡ true → Contains (filter p xs) y
    filter_contains [] y h passes = absurd (none_in_empty y h)
    filter_contains (x ∷ xs) y h passes =
        kept_first x (filter p xs) y (p x) refl passes (mapped x xs (filter p xs) y (λ k. filter_contains xs y k passes) (contains_cases x xs y h))

  module _ (xs : List X) (i : ℕ) (v : X) (within : i < length xs) where
    -- what is put at a place is in the list
    pub contains_set : Contains (set xs i v) v
    contains_set =
        let lt : i < length (set xs i v) = omega (arith, length-set {A = X}) in
        subst (λ z. Contains (set xs i v) z) (get_or-set_same xs i v v within) (Contains-get_or (set xs i v) i v lt)

    -- and nothing else is new
    pub set_only : (y : X) → Contains (set xs i v) y → Contains xs y ⊎ (y ≡ v)
    set_only y h = by (cases_eq h.0 i)
      where
        by : (h.0 ≡ i) ⊎ (h.0 ≡ i → ⊥) → Contains xs y ⊎ (y ≡ v)
        by (inl same) = inr (sym h.2 ∙ ap (λ k. get_or (set xs i v) k y) same ∙ get_or-set_same xs i v y within)
        by (inr other) =
            let lt : h.0 < length xs = let k = h.1 in omega (arith, length-set {A = X}) in
            inl (h.0, lt, sym (get_or-set_other xs i h.0 v y other) ∙ h.2)

    -- and only what was there is gone
    pub set_keeps : (y : X) → y ≢ get_or xs i v → Contains xs y → Contains (set xs i v) y
    set_keeps y differs h = by (cases_eq h.0 i)
      where
        by : (h.0 ≡ i) ⊎ (h.0 ≡ i → ⊥) → Contains (set xs i v) y
        by (inl same) = absurd (differs (sym h.2 ∙ ap (λ k. get_or xs k y) same ∙ get_or_default xs i y v within))
        by (inr other) =
            let lt : h.0 < length (set xs i v) = let k = h.1 in omega (arith, length-set {A = X}) in
            (h.0, lt, get_or-set_other xs i h.0 v y other ∙ h.2)

-- where the first that passes a test stands, there is one
found_within : {X : Type 0} (p : X → Bool) (xs : List X) (k : ℕ) (d : X) → k < length xs → p (get_or xs k d) ≡ true → position_or_len p xs < length xs
found_within p [] k d h passes = absurd (omega arith)
found_within p (x ∷ xs) zero d h passes = grind arith
found_within p (x ∷ xs) (suc k) d h passes = let rest = found_within p xs k d (omega arith) passes in grind arith

-- where one passes a test, the first is found
pub some_found : {X : Type 0} (p : X → Bool) (xs : List X) (x : X) → Contains xs x → p x ≡ true → position p xs ≡ None → ⊥
some_found p xs x h passes none =
    let within = found_within p xs h.0 x h.1 (ap p h.2 ∙ passes) in
    let e : position p xs ≡ Some (position_or_len p xs) = grind (arith, nat_tests) in
    absurd (cc)

-- where some passes a test, one can be named
pub named : {X : Type 0} (p : X → Bool) (xs : List X) → list_any p xs ≡ true → (x : X) × Contains xs x × (p x ≡ true)
named p [] h = absurd (true≢false (sym h))
named p (x ∷ xs) h = by (p x) refl (λ k. named p xs k) h
  where
    by : (b : Bool) → p x ≡ b → (list_any p xs ≡ true → (y : _) × Contains xs y × (p y ≡ true)) → (b || list_any p xs) ≡ true → (y : _) × Contains (x ∷ xs) y × (p y ≡ true)
    by true is rest h = (x, contains_first x xs, is)
    by false is rest h = let r = rest h in (r.0, contains_later x xs r.0 r.1, r.2)

-- where all pass a test, each does
pub each_passes : {X : Type 0} (p : X → Bool) (xs : List X) → list_all p xs ≡ true → (x : X) → Contains xs x → p x ≡ true
each_passes p [] h x c = absurd (none_in_empty x c)
each_passes p (y ∷ xs) h x c = by (λ k later. each_passes p xs k x later) (p y) refl h (contains_cases y xs x c)
  where
    by : (list_all p xs ≡ true → Contains xs x → p x ≡ true) → (b : Bool) → p y ≡ b → (b && list_all p xs) ≡ true → (y ≡ x) ⊎ Contains xs x → p x ≡ true
    by rest true is h (inl e) = ap p (sym e) ∙ is
    by rest true is h (inr later) = rest h later
    by rest false is h c = absurd (true≢false (sym h))

-- where none passes a test, no one does
pub none_passes : {X : Type 0} (p : X → Bool) (xs : List X) → list_any p xs ≡ false → (x : X) → Contains xs x → p x ≡ true → ⊥
none_passes p [] h x c passes = none_in_empty x c
none_passes p (y ∷ xs) h x c passes = by (λ k later. none_passes p xs k x later passes) (p y) refl h (contains_cases y xs x c)
  where
    by : (list_any p xs ≡ false → Contains xs x → ⊥) → (b : Bool) → p y ≡ b → (b || list_any p xs) ≡ false → (y ≡ x) ⊎ Contains xs x → ⊥
    by rest true is h c = true≢false h
    by rest false is h (inl e) = true≢false (sym passes ∙ ap p (sym e) ∙ is)
    by rest false is h (inr later) = rest h later

-- a number is one of these, or none of them, as the test says
pub is_among : (xs : List ℕ) (k : ℕ) → list_any (nat_eq k) xs ≡ true → Contains xs k
is_among xs k h =
    let found = named (nat_eq k) xs h in
    subst (Contains xs) (let own = found.2 in let e : found.0 ≡ k = grind (arith, nat_tests) in e) found.1

pub is_not_among : (xs : List ℕ) (k : ℕ) → list_any (nat_eq k) xs ≡ false → Contains xs k → ⊥
is_not_among xs k h c = none_passes (nat_eq k) xs h k c (grind (arith, nat_tests))

-- where no call of `retain` changes the closure or the element, what passes the test is left
pub filter-from_retain : {X F : Type 0} (R : F → X → Bool → F → X → Type 0) (test : X → Bool) (f : F) → ((x : X) (b : Bool) (g : F) (y : X) → R f x b g y → (b ≡ test x) × (g ≡ f) × (y ≡ x)) → (xs ys : List X) → RetainsInTurn R f xs ys → ys ≡ filter test xs
filter-from_retain R test f says [] ys h = h
filter-from_retain R test f says (x ∷ xs) ys h =
    let said = says x h.0 h.1 h.2 h.3 in
    let later = subst (λ g. RetainsInTurn R g xs h.4) said.1 h.5 in
    let rest = filter-from_retain R test f says xs h.4 later in
    h.6 ∙ (λ i. cond (said.0 i) (said.2 i ∷ rest i) (rest i))

-- one of these, or none of them
pub among_or_not : (xs : List ℕ) (k : ℕ) → Contains xs k ⊎ (Contains xs k → ⊥)
among_or_not xs k = by (list_any (nat_eq k) xs) refl
  where
    by : (b : Bool) → list_any (nat_eq k) xs ≡ b → Contains xs k ⊎ (Contains xs k → ⊥)
    by true is = inl (is_among xs k is)
    by false is = inr (is_not_among xs k is)
