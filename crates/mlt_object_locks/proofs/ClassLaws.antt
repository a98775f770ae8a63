-- Each class has a bit of its own, and clashes on one cell are told by classes.
use Rattle.std.proofs.Common.{◌≡◌, ◌⊎◌, ℕ, ◌<◌, Bool, true, false, ◌≤◌, List, [], ◌∷◌, ◌++◌, map, Option, Some, None, Contains, get_or, length, sym, ap, subst, refl, ◌∙◌, true≢false, inl, inr, arith, option_map, eq-eqb, ne_eqb}
use Rattle.std.proofs.lemmas.{List.get_or_past, Bool.cases_lt}
use Rattle.mlt_object_locks.proofs.Names.{Contains-push_cases, cases_eq, Cell, IsInRange, ObjOp, ObjReply, cell_of, CLASSES, bit_of, bit_of_item, Adds, AreInTheWay, InSet, looked_at, places_of}
use Rattle.mlt_types.specs.Cells.{key_number}
use Rattle.mlt_object_kinds.specs.{declared.element.ElementOp.ElementOp, declared.element.ElementOp.TheVariants.Add, declared.element.ElementOp.TheVariants.Remove, declared.element.ElementOp.TheVariants.Has, Operations.size_cells}
use Rattle.mlt_object_conflicts.specs.{Clashes.clashes, Clashes.marked_classes, declared.accounts.AccountClass.AccountClass, declared.elements.ElementClass.ElementClass, declared.counters.CounterClass.CounterClass, AccountTable.account_class, AccountTable.account_marks, CounterTable.counter_class, CounterTable.counter_marks, ElementTable.element_class, ElementTable.element_marks, Sizes.changes_told, Sizes.counts}
use Rattle.mlt_object_locks.{specs.declared.classes.Class.Class, specs.declared.classes.Class.TheVariants.Account, specs.declared.classes.Class.TheVariants.Element, specs.declared.classes.Class.TheVariants.Counter, specs.declared.classes.Class.TheVariants.Size, specs.Places.place_of_set, specs.Places.SharesPlace, proofs.Bits.none_in_set, proofs.Membership.contains_first, proofs.Membership.contains_later, proofs.Membership.one_of_two, proofs.Membership.the_one}
use Rattle.mlt_object_locks.specs.Classes.{class_of, marks, size_class, Hinders, IsColumn}

-- a class stands at its bit in the list of all
at_its_bit : (class d : Class) → get_or CLASSES (bit_of class) d ≡ class
at_its_bit (Account AccountClass.Opened) d = refl
at_its_bit (Account AccountClass.Exists) d = refl
at_its_bit (Account AccountClass.Closed) d = refl
at_its_bit (Account AccountClass.NotEmpty) d = refl
at_its_bit (Account AccountClass.Deposited) d = refl
at_its_bit (Account AccountClass.Over) d = refl
at_its_bit (Account AccountClass.Withdrawn) d = refl
at_its_bit (Account AccountClass.Short) d = refl
at_its_bit (Account AccountClass.Balance) d = refl
at_its_bit (Account AccountClass.Missing) d = refl
at_its_bit (Element ElementClass.Added) d = refl
at_its_bit (Element ElementClass.Present) d = refl
at_its_bit (Element ElementClass.Removed) d = refl
at_its_bit (Element ElementClass.Absent) d = refl
at_its_bit (Element ElementClass.Yes) d = refl
at_its_bit (Element ElementClass.No) d = refl
at_its_bit (Counter CounterClass.Counted) d = refl
at_its_bit (Counter CounterClass.Read) d = refl
at_its_bit Size d = refl

-- so no other class has its bit
pub one_bit : (class other : Class) → bit_of class ≡ bit_of other → class ≡ other
one_bit class other e = sym (at_its_bit class class) ∙ ap (λ k. get_or CLASSES k class) e ∙ at_its_bit other class

-- ---- the held classes beside a requested one

-- of the classes that were seen, the set has the bits of those that are marked
pub record HasMarked (set : ℕ) (requested : Class) (seen : List Class) : Type 0 where
  pub has : (held : Class) → Contains seen held → marks held requested ≡ true → InSet set (bit_of held)
  pub only : (k : ℕ) → InSet set k → (held : Class) × (bit_of held ≡ k) × (marks held requested ≡ true)

pub none_seen : (requested : Class) → HasMarked 0 requested []
none_seen requested = record { has = λ held c. absurd (let e = c.1 in omega arith); only = λ k h. absurd (none_in_set k h) }

module _ (set : ℕ) (requested : Class) (seen : List Class) (class : Class) (so_far : HasMarked set requested seen) where
  -- a marked class more
  pub marked_more : (new : ℕ) → Adds set new (bit_of class) → marks class requested ≡ true → HasMarked new requested (seen ++ class ∷ [])
  marked_more new adds is = record {
    has = λ held c m. has_by held m (Contains-push_cases seen class held c);
    only = λ k h. only_by k (adds.only k h);
  }
    where
      has_by : (held : Class) → marks held requested ≡ true → Contains seen held ⊎ (class ≡ held) → InSet new (bit_of held)
      has_by held m (inl c) = adds.keeps (bit_of held) (so_far.has held c m)
      has_by held m (inr e) = subst (λ d. InSet new (bit_of d)) e adds.has

      only_by : (k : ℕ) → InSet set k ⊎ (k ≡ bit_of class) → (held : Class) × (bit_of held ≡ k) × (marks held requested ≡ true)
      only_by k (inl h) = so_far.only k h
      only_by k (inr e) = (class, sym e, is)

  -- one that is not marked
  pub unmarked_more : marks class requested ≡ false → HasMarked set requested (seen ++ class ∷ [])
  unmarked_more is = record {
    has = λ held c m. by held m (Contains-push_cases seen class held c);
    only = so_far.only;
  }
    where
      by : (held : Class) → marks held requested ≡ true → Contains seen held ⊎ (class ≡ held) → InSet set (bit_of held)
      by held m (inl c) = so_far.has held c m
      by held m (inr e) = absurd (true≢false (sym m ∙ ap (λ d. marks d requested) (sym e) ∙ is))

-- the bits are those of places in the list of all: a read past its end would give the default
below : (class : Class) → bit_of class < length CLASSES
below class = by (cases_lt (bit_of class) (length CLASSES))
  where
    by : (bit_of class < length CLASSES) ⊎ (length CLASSES ≤ bit_of class) → bit_of class < length CLASSES
    by (inl lt) = lt
    by (inr past) =
        let first = sym (get_or_past CLASSES (bit_of class) (Counter CounterClass.Read) past) ∙ at_its_bit class (Counter CounterClass.Read) in
        let second = sym (get_or_past CLASSES (bit_of class) (Counter CounterClass.Counted) past) ∙ at_its_bit class (Counter CounterClass.Counted) in
        let both = ap bit_of (first ∙ sym second) in absurd (omega arith)

-- once all were seen, it is the column
pub all_seen : (set : ℕ) (requested : Class) → HasMarked set requested CLASSES → IsColumn set requested
all_seen set requested h = record { has = λ held m. h.has held (bit_of held, below held, at_its_bit held held) m; only = h.only }

-- one held class alone is marked beside each of counters
abbrev pub beside_counter : CounterClass → CounterClass
beside_counter CounterClass.Counted = CounterClass.Read
beside_counter CounterClass.Read = CounterClass.Counted

is_beside : (requested : CounterClass) → marks (Counter (beside_counter requested)) (Counter requested) ≡ true
is_beside CounterClass.Counted = refl
is_beside CounterClass.Read = refl

only_beside : (held : Class) (requested : CounterClass) → marks held (Counter requested) ≡ true → held ≡ Counter (beside_counter requested)
only_beside (Account held) requested is = absurd (true≢false (sym is))
only_beside (Element held) requested is = absurd (true≢false (sym is))
only_beside (Counter CounterClass.Counted) CounterClass.Counted is = absurd (true≢false (sym is))
only_beside (Counter CounterClass.Counted) CounterClass.Read is = refl
only_beside (Counter CounterClass.Read) CounterClass.Counted is = refl
only_beside (Counter CounterClass.Read) CounterClass.Read is = absurd (true≢false (sym is))
only_beside Size requested is = absurd (true≢false (sym is))

pub counter_column : (set : ℕ) (requested : CounterClass) → Adds 0 set (bit_of (Counter (beside_counter requested))) → IsColumn set (Counter requested)
counter_column set requested adds = record {
  has = λ held is. subst (λ c. InSet set (bit_of c)) (sym (only_beside held requested is)) adds.has;
  only = λ k h. (Counter (beside_counter requested), by k (adds.only k h), is_beside requested);
}
  where
    by : (k : ℕ) → InSet 0 k ⊎ (k ≡ bit_of (Counter (beside_counter requested))) → bit_of (Counter (beside_counter requested)) ≡ k
    by k (inl h) = absurd (none_in_set k h)
    by k (inr e) = sym e

-- the column of a class has what hinders an operation of it
pub column_in_the_way : (set : ℕ) (requested : ObjOp × ObjReply) (class : Class) → class_of requested ≡ Some class → IsColumn set class → AreInTheWay set requested
column_in_the_way set requested class is column = record {
  has = λ k h.
      let same : h.1 ≡ class = let a = h.2 in cc in
      subst (InSet set) h.3 (column.has h.0 (ap (marks h.0) (sym same) ∙ h.4));
  only = λ k h. let found = column.only k h in (found.0, class, is, found.1, found.2);
}

-- ---- sizes that are told

-- a reply tells a size, or has no class as one
size_cases : (told : ObjReply) → ((n : ℕ) × (told ≡ ObjReply.Is n)) ⊎ ((size_class told ≡ None) × ((class : ElementClass) → changes_told (Some class) told ≡ false))
size_cases (ObjReply.Is n) = inl (n, refl)
size_cases ObjReply.Opened = inr (refl, λ c. refl)
size_cases ObjReply.Exists = inr (refl, λ c. refl)
size_cases ObjReply.Closed = inr (refl, λ c. refl)
size_cases ObjReply.NotEmpty = inr (refl, λ c. refl)
size_cases ObjReply.Done = inr (refl, λ c. refl)
size_cases ObjReply.Over = inr (refl, λ c. refl)
size_cases ObjReply.Short = inr (refl, λ c. refl)
size_cases ObjReply.Missing = inr (refl, λ c. refl)
size_cases ObjReply.Added = inr (refl, λ c. refl)
size_cases ObjReply.Present = inr (refl, λ c. refl)
size_cases ObjReply.Removed = inr (refl, λ c. refl)
size_cases ObjReply.Absent = inr (refl, λ c. refl)
size_cases ObjReply.Yes = inr (refl, λ c. refl)
size_cases ObjReply.No = inr (refl, λ c. refl)

-- a size is changed where the classes are marked, held before it and after it
changed_before : (class : Option ElementClass) (told : ObjReply) → changes_told class told ≡ marked_classes marks (option_map Element class) (size_class told)
changed_before None told = refl
changed_before (Some class) told = by (size_cases told)
  where
    by : ((n : ℕ) × (told ≡ ObjReply.Is n)) ⊎ ((size_class told ≡ None) × ((c : ElementClass) → changes_told (Some c) told ≡ false)) → changes_told (Some class) told ≡ marked_classes marks (Some (Element class)) (size_class told)
    by (inl is) = subst (λ r. changes_told (Some class) r ≡ marked_classes marks (Some (Element class)) (size_class r)) (sym is.1) refl
    by (inr none) = none.1 class ∙ ap (marked_classes marks (Some (Element class))) (sym none.0)

changed_after : (class : Option ElementClass) (told : ObjReply) → changes_told class told ≡ marked_classes marks (size_class told) (option_map Element class)
changed_after class told = by class (size_cases told)
  where
    by : (class : Option ElementClass) → ((n : ℕ) × (told ≡ ObjReply.Is n)) ⊎ ((size_class told ≡ None) × ((c : ElementClass) → changes_told (Some c) told ≡ false)) → changes_told class told ≡ marked_classes marks (size_class told) (option_map Element class)
    by (Some c) (inl is) = subst (λ r. changes_told (Some c) r ≡ marked_classes marks (size_class r) (Some (Element c))) (sym is.1) refl
    by (Some c) (inr none) = none.1 c ∙ ap (λ t. marked_classes marks t (Some (Element c))) (sym none.0)
    by None (inl is) = subst (λ r. changes_told None r ≡ marked_classes marks (size_class r) None) (sym is.1) refl
    by None (inr none) = ap (λ t. marked_classes marks t None) (sym none.0)

-- a class that does not count changes no size
not_counted : (class : ElementClass) (told : ObjReply) → counts class ≡ false → changes_told (Some class) told ≡ true → ⊥
not_counted class told uncounted h = by (size_cases told)
  where
    by : ((n : ℕ) × (told ≡ ObjReply.Is n)) ⊎ ((size_class told ≡ None) × ((c : ElementClass) → changes_told (Some c) told ≡ false)) → ⊥
    by (inl is) = true≢false (sym (subst (λ r. changes_told (Some class) r ≡ true) is.1 h) ∙ uncounted)
    by (inr none) = true≢false (sym h ∙ none.1 class)

-- so nothing that asks whether an element is there changes one
has_changes_none : (answer told : ObjReply) → changes_told (element_class Has answer) told ≡ true → ⊥
has_changes_none ObjReply.Yes told h = not_counted ElementClass.Yes told refl h
has_changes_none ObjReply.No told h = not_counted ElementClass.No told refl h
has_changes_none _ told h = true≢false (sym h)

-- ---- operations that share a place

-- where one stands, and where one looks
abbrev Stands : ObjOp → ℕ → Type 0
Stands (ObjOp.Element s e x) k = (key_number (Cell.Element s e) ≡ k) ⊎ (place_of_set s ≡ k)
Stands (ObjOp.Account a x) k = key_number (Cell.Account a) ≡ k
Stands (ObjOp.Counter c x) k = key_number (Cell.Counter c) ≡ k
Stands (ObjOp.Size s) k = key_number (Cell.Size s) ≡ k

abbrev Looks : ObjOp → ℕ → Type 0
Looks (ObjOp.Element s e x) k = (key_number (Cell.Element s e) ≡ k) ⊎ (key_number (Cell.Size s) ≡ k)
Looks (ObjOp.Account a x) k = key_number (Cell.Account a) ≡ k
Looks (ObjOp.Counter c x) k = key_number (Cell.Counter c) ≡ k
Looks (ObjOp.Size s) k = place_of_set s ≡ k

stands_there : (o : ObjOp) (k : ℕ) → Contains (places_of (cell_of o)) k → Stands o k
stands_there (ObjOp.Element s e x) k h = one_of_two (key_number (Cell.Element s e)) (place_of_set s) k h
stands_there (ObjOp.Account a x) k h = the_one (key_number (Cell.Account a)) k h
stands_there (ObjOp.Counter c x) k h = the_one (key_number (Cell.Counter c)) k h
stands_there (ObjOp.Size s) k h = the_one (key_number (Cell.Size s)) k h

looks_there : (o : ObjOp) (k : ℕ) → Contains (looked_at o) k → Looks o k
looks_there (ObjOp.Element s e Add) k h = one_of_two (key_number (Cell.Element s e)) (key_number (Cell.Size s)) k h
looks_there (ObjOp.Element s e Remove) k h = one_of_two (key_number (Cell.Element s e)) (key_number (Cell.Size s)) k h
looks_there (ObjOp.Element s e Has) k h = inl (the_one (key_number (Cell.Element s e)) k h)
looks_there (ObjOp.Account a x) k h = the_one (key_number (Cell.Account a)) k h
looks_there (ObjOp.Counter c x) k h = the_one (key_number (Cell.Counter c)) k h
looks_there (ObjOp.Size s) k h = the_one (place_of_set s) k h

wrapped : {C : Type 0} (wrap : C → Class) (table : C → C → Bool) → ((c d : C) → marks (wrap c) (wrap d) ≡ table c d) → (x y : Option C) → marked_classes marks (option_map wrap x) (option_map wrap y) ≡ marked_classes table x y
wrapped wrap table same (Some c) (Some d) = same c d
wrapped wrap table same (Some c) None = refl
wrapped wrap table same None (Some d) = refl
wrapped wrap table same None None = refl

-- at one place the classes alone tell
told_by_class : (earlier requested : ObjOp × ObjReply) (k : ℕ) → IsInRange (cell_of earlier.0) → IsInRange (cell_of requested.0) → Stands earlier.0 k → Looks requested.0 k → clashes earlier requested ≡ marked_classes marks (class_of earlier) (class_of requested)
told_by_class (ObjOp.Account a x, r) (ObjOp.Account b y, q) k m n st lk =
    let same : a ≡ b = omega arith in rw (eq-eqb a b same) (sym (wrapped Account account_marks (λ c d. refl) (account_class x r) (account_class y q)))
told_by_class (ObjOp.Counter a x, r) (ObjOp.Counter b y, q) k m n st lk =
    let same : a ≡ b = omega arith in rw (eq-eqb a b same) (sym (wrapped Counter counter_marks (λ c d. refl) (counter_class x r) (counter_class y q)))
told_by_class (ObjOp.Element s a x, r) (ObjOp.Element t b y, q) k m n (inl st) (inl lk) =
    let set : s ≡ t = omega arith in let same : a ≡ b = omega arith in
    rw (eq-eqb s t set) (rw (eq-eqb a b same) (sym (wrapped Element element_marks (λ c d. refl) (element_class x r) (element_class y q))))
told_by_class (ObjOp.Element s a x, r) (ObjOp.Size t, q) k m n (inr st) lk =
    let set : s ≡ t = omega arith in rw (eq-eqb s t set) (changed_before (element_class x r) q)
told_by_class (ObjOp.Size s, r) (ObjOp.Element t b y, q) k m n st (inr lk) =
    let set : s ≡ t = omega arith in rw (eq-eqb s t set) (changed_after (element_class y q) r)
told_by_class (ObjOp.Account a x, r) (ObjOp.Counter b y, q) k m n st lk = absurd (omega arith)
told_by_class (ObjOp.Account a x, r) (ObjOp.Size t, q) k m n st lk = absurd (omega arith)
told_by_class (ObjOp.Account a x, r) (ObjOp.Element t b y, q) k m n st (inl lk) = absurd (omega arith)
told_by_class (ObjOp.Account a x, r) (ObjOp.Element t b y, q) k m n st (inr lk) = absurd (omega arith)
told_by_class (ObjOp.Counter a x, r) (ObjOp.Account b y, q) k m n st lk = absurd (omega arith)
told_by_class (ObjOp.Counter a x, r) (ObjOp.Size t, q) k m n st lk = absurd (omega arith)
told_by_class (ObjOp.Counter a x, r) (ObjOp.Element t b y, q) k m n st (inl lk) = absurd (omega arith)
told_by_class (ObjOp.Counter a x, r) (ObjOp.Element t b y, q) k m n st (inr lk) = absurd (omega arith)
told_by_class (ObjOp.Element s a x, r) (ObjOp.Account b y, q) k m n (inl st) lk = absurd (omega arith)
told_by_class (ObjOp.Element s a x, r) (ObjOp.Account b y, q) k m n (inr st) lk = absurd (omega arith)
told_by_class (ObjOp.Element s a x, r) (ObjOp.Counter b y, q) k m n (inl st) lk = absurd (omega arith)
told_by_class (ObjOp.Element s a x, r) (ObjOp.Counter b y, q) k m n (inr st) lk = absurd (omega arith)
told_by_class (ObjOp.Element s a x, r) (ObjOp.Size t, q) k m n (inl st) lk = absurd (omega arith)
told_by_class (ObjOp.Element s a x, r) (ObjOp.Element t b y, q) k m n (inl st) (inr lk) = absurd (omega arith)
told_by_class (ObjOp.Element s a x, r) (ObjOp.Element t b y, q) k m n (inr st) (inl lk) = absurd (omega arith)
told_by_class (ObjOp.Element s a x, r) (ObjOp.Element t b y, q) k m n (inr st) (inr lk) = absurd (omega arith)
told_by_class (ObjOp.Size s, r) (ObjOp.Account b y, q) k m n st lk = absurd (omega arith)
told_by_class (ObjOp.Size s, r) (ObjOp.Counter b y, q) k m n st lk = absurd (omega arith)
told_by_class (ObjOp.Size s, r) (ObjOp.Size t, q) k m n st lk = absurd (omega arith)
told_by_class (ObjOp.Size s, r) (ObjOp.Element t b y, q) k m n st (inl lk) = absurd (omega arith)

pub by_class : (earlier requested : ObjOp × ObjReply) → IsInRange (cell_of earlier.0) → IsInRange (cell_of requested.0) → SharesPlace earlier requested → clashes earlier requested ≡ marked_classes marks (class_of earlier) (class_of requested)
by_class earlier requested m n shares =
    told_by_class earlier requested shares.0 m n (stands_there earlier.0 shares.0 shares.1) (looks_there requested.0 shares.0 shares.2)

-- one that asks for a size, and one that may change it, share a place
looks_at_size : (s t e : ℕ) (x : ElementOp) (answer told : ObjReply) → s ≡ t → changes_told (element_class x answer) told ≡ true → Contains (looked_at (ObjOp.Element t e x)) (key_number (Cell.Size s))
looks_at_size s t e Add answer told same h = subst (λ k. Contains (looked_at (ObjOp.Element t e Add)) (key_number (Cell.Size k))) (sym same) (contains_later (key_number (Cell.Element t e)) (key_number (Cell.Size t) ∷ []) (key_number (Cell.Size t)) (contains_first (key_number (Cell.Size t)) []))
looks_at_size s t e Remove answer told same h = subst (λ k. Contains (looked_at (ObjOp.Element t e Remove)) (key_number (Cell.Size k))) (sym same) (contains_later (key_number (Cell.Element t e)) (key_number (Cell.Size t) ∷ []) (key_number (Cell.Size t)) (contains_first (key_number (Cell.Size t)) []))
looks_at_size s t e Has answer told same h = absurd (has_changes_none answer told h)

-- operations on one cell share its key's number
one_cell : (earlier requested : ObjOp × ObjReply) (k : ℕ) (others rest : List ℕ) → places_of (cell_of earlier.0) ≡ k ∷ others → looked_at requested.0 ≡ k ∷ rest → SharesPlace earlier requested
one_cell earlier requested k others rest stands looks =
    (k, subst (λ l. Contains l k) (sym stands) (contains_first k others), subst (λ l. Contains l k) (sym looks) (contains_first k rest))

-- operations that clash share a place
pub share_place : (earlier requested : ObjOp × ObjReply) → clashes earlier requested ≡ true → SharesPlace earlier requested
share_place (ObjOp.Account a x, r) (ObjOp.Account b y, q) h =
    elim (cases_eq a b) [
      | inl e ↦ one_cell (ObjOp.Account a x, r) (ObjOp.Account b y, q) (key_number (Cell.Account a)) [] [] refl (ap (λ n. key_number (Cell.Account n) ∷ []) (sym e))
      | inr ne ↦ absurd (true≢false (sym h ∙ rw (ne_eqb a b ne) refl))
    ]
share_place (ObjOp.Counter a x, r) (ObjOp.Counter b y, q) h =
    elim (cases_eq a b) [
      | inl e ↦ one_cell (ObjOp.Counter a x, r) (ObjOp.Counter b y, q) (key_number (Cell.Counter a)) [] [] refl (ap (λ n. key_number (Cell.Counter n) ∷ []) (sym e))
      | inr ne ↦ absurd (true≢false (sym h ∙ rw (ne_eqb a b ne) refl))
    ]
share_place (ObjOp.Element s a x, r) (ObjOp.Element t b y, q) h =
    elim (cases_eq s t) [
      | inl e ↦ elim (cases_eq a b) [
        | inl k ↦ one_cell (ObjOp.Element s a x, r) (ObjOp.Element t b y, q) (key_number (Cell.Element s a)) (place_of_set s ∷ []) (map key_number (size_cells (ObjOp.Element t b y))) refl
            (λ i. key_number (Cell.Element (sym e i) (sym k i)) ∷ map key_number (size_cells (ObjOp.Element t b y)))
        | inr ne ↦ absurd (true≢false (sym h ∙ rw (eq-eqb s t e) (rw (ne_eqb a b ne) refl)))
      ]
      | inr ne ↦ absurd (true≢false (sym h ∙ rw (ne_eqb s t ne) refl))
    ]
share_place (ObjOp.Element s a x, r) (ObjOp.Size t, q) h =
    elim (cases_eq s t) [
      | inl e ↦ (place_of_set s, contains_later (key_number (Cell.Element s a)) (place_of_set s ∷ []) (place_of_set s) (contains_first (place_of_set s) []), subst (λ n. Contains (place_of_set n ∷ []) (place_of_set s)) e (contains_first (place_of_set s) []))
      | inr ne ↦ absurd (true≢false (sym h ∙ rw (ne_eqb s t ne) refl))
    ]
share_place (ObjOp.Size s, r) (ObjOp.Element t b y, q) h =
    elim (cases_eq s t) [
      | inl e ↦ (key_number (Cell.Size s), contains_first (key_number (Cell.Size s)) [], looks_at_size s t b y q r e (sym (rw (eq-eqb s t e) refl) ∙ h))
      | inr ne ↦ absurd (true≢false (sym h ∙ rw (ne_eqb s t ne) refl))
    ]
share_place (ObjOp.Account a x, r) (ObjOp.Counter b y, q) h = absurd (true≢false (sym h))
share_place (ObjOp.Account a x, r) (ObjOp.Element t b y, q) h = absurd (true≢false (sym h))
share_place (ObjOp.Account a x, r) (ObjOp.Size t, q) h = absurd (true≢false (sym h))
share_place (ObjOp.Counter a x, r) (ObjOp.Account b y, q) h = absurd (true≢false (sym h))
share_place (ObjOp.Counter a x, r) (ObjOp.Element t b y, q) h = absurd (true≢false (sym h))
share_place (ObjOp.Counter a x, r) (ObjOp.Size t, q) h = absurd (true≢false (sym h))
share_place (ObjOp.Element s a x, r) (ObjOp.Account b y, q) h = absurd (true≢false (sym h))
share_place (ObjOp.Element s a x, r) (ObjOp.Counter b y, q) h = absurd (true≢false (sym h))
share_place (ObjOp.Size s, r) (ObjOp.Account b y, q) h = absurd (true≢false (sym h))
share_place (ObjOp.Size s, r) (ObjOp.Counter b y, q) h = absurd (true≢false (sym h))
share_place (ObjOp.Size s, r) (ObjOp.Size t, q) h = absurd (true≢false (sym h))

-- ---- clashes by bits

both_marked : (held requested : Option Class) → marked_classes marks held requested ≡ true → (one : Class) × (other : Class) × (held ≡ Some one) × (requested ≡ Some other) × (marks one other ≡ true)
both_marked (Some one) (Some other) h = (one, other, refl, refl, h)
both_marked (Some one) None h = absurd (true≢false (sym h))
both_marked None (Some other) h = absurd (true≢false (sym h))
both_marked None None h = absurd (true≢false (sym h))

of_its_bit : (class : Option Class) (k : ℕ) → option_map bit_of class ≡ Some k → (one : Class) × (class ≡ Some one) × (bit_of one ≡ k)
of_its_bit (Some one) k e = (one, refl, cc)
of_its_bit None k e = absurd (cc)

module _ (earlier requested : ObjOp × ObjReply) (m : IsInRange (cell_of earlier.0)) (n : IsInRange (cell_of requested.0)) where
  -- one with which the requested operation clashes has a bit that hinders it
  pub clash_hinders : clashes earlier requested ≡ true → (k : ℕ) × (bit_of_item earlier ≡ Some k) × Hinders k requested
  clash_hinders h =
      let both = both_marked (class_of earlier) (class_of requested) (sym (by_class earlier requested m n (share_place earlier requested h)) ∙ h) in
      (bit_of both.0, ap (option_map bit_of) both.2, (both.0, both.1, both.3, refl, both.4))

  -- and one that has such a bit clashes with it, where they share a place
  pub hindered_clash : SharesPlace earlier requested → (k : ℕ) → bit_of_item earlier ≡ Some k → Hinders k requested → clashes earlier requested ≡ true
  hindered_clash shares k bit h =
      let own = of_its_bit (class_of earlier) k bit in
      let same : own.0 ≡ h.0 = one_bit own.0 h.0 (own.2 ∙ sym h.3) in
      by_class earlier requested m n shares ∙ ap (λ c. marked_classes marks c (class_of requested)) own.1 ∙ ap (λ c. marked_classes marks (Some own.0) c) h.2 ∙ ap (λ c. marks c h.1) same ∙ h.4
