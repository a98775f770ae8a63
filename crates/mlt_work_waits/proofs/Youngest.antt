-- Walking a cycle of waits for objects, and which of them is the youngest
use Rattle.std.proofs.Common.{◌≡◌, ◌⊎◌, ◌∙◌, ◌+◌, ◌<◌, ℕ, true, false, List, [], ◌∷◌, ◌++◌, length, Option, None, Some, refl, sym, subst, ap, inl, inr, arith, le-ltb, ltb-false, ltb-true, option_map}
use Rattle.std.{proofs.lemmas.Bool.false≢true, specs.Option.option_or}
use Rattle.mlt_work_waits.{specs.declared.wait.Waiting.Waiting, proofs.Acyclic.leads_on, proofs.Acyclic.objects_are_acyclic, proofs.Ends.ways_end, proofs.Found.found_is_wait, proofs.Ways.leads_by_holder, proofs.Ways.leads_nowhere, proofs.Ways.one_longer, proofs.Ways.one_more_by}
use Rattle.mlt_work_waits.specs.Waits.{Deadlocks, IsAcyclic, IsFor, IsOnWay, IsYoungest, LeadsBy, LeadsTo, Waits, for_objects, holder_of, is_later, is_younger, wait_in}

-- who is not younger than one that is not younger than a third is not younger than that one
not_later : (a b c : Option ℕ) → is_later a b ≡ false → is_later b c ≡ false → is_later a c ≡ false
not_later a b None _ _ = refl
not_later None None (Some c) _ second = absurd (false≢true (sym second))
not_later None (Some b) (Some c) first _ = absurd (false≢true (sym first))
not_later (Some a) None (Some c) _ second = absurd (false≢true (sym second))
not_later (Some a) (Some b) (Some c) first second = le-ltb c a (omega (arith, ltb-false b a first, ltb-false c b second))

-- of two that are younger one is not than the other,
not_later_back : (a b : Option ℕ) → is_later a b ≡ true → is_later b a ≡ false
not_later_back None None is = refl
not_later_back None (Some b) is = refl
not_later_back (Some a) None is = absurd (false≢true is)
not_later_back (Some a) (Some b) is = le-ltb a b (omega (arith, ltb-true b a is))

-- nor anybody than itself
not_later_same : (a : Option ℕ) → is_later a a ≡ false
not_later_same None = refl
not_later_same (Some a) = le-ltb a a (omega arith)

same_some : (a b : Waiting) → Some a ≡ Some b → a ≡ b
same_some a b same = cc

-- what the wait of x is that stands first
module _ (waits : Waits) (acyclic : IsAcyclic waits) where
  for_holder : (x : ℕ) (next : Waiting) → wait_in waits.objects x ≡ Some next → IsFor (for_objects waits) x next.holder
  for_holder x next found = inl (found_is_wait waits.objects x next found).1

  holder_seen : (x : ℕ) (next : Waiting) → wait_in waits.objects x ≡ Some next → holder_of (for_objects waits) x ≡ Some next.holder
  holder_seen x next found = ap (λ (o : Option Waiting). option_or (option_map (λ (w : Waiting). w.holder) o) None) found

  none_seen : (x : ℕ) → wait_in waits.objects x ≡ None → holder_of (for_objects waits) x ≡ None
  none_seen x none = ap (λ (o : Option Waiting). option_or (option_map (λ (w : Waiting). w.holder) o) None) none

  -- a wait that stands on the way from x is the one of x, or stands on the way from its holder
  on_by : (x y : ℕ) (next other : Waiting) (path : List ℕ) → wait_in waits.objects x ≡ Some next → LeadsBy (for_objects waits) x path other.waiter → IsOnWay waits x y other
      → (other ≡ next) ⊎ IsOnWay waits next.holder y other
  on_by x y next other [] found same way =
      inl (same_some other next (sym way.stands ∙ ap (wait_in waits.objects) (sym same) ∙ found))
  on_by x y next other (z ∷ more) found (first, rest) way =
      let one : z ≡ next.holder = (objects_are_acyclic waits acyclic).functional x z next.holder first (for_holder x next found) in
      inr (record {
        stands = way.stands;
        before = (more, subst (λ n. LeadsBy (for_objects waits) n more other.waiter) one rest);
        behind = way.behind;
      })

  -- no wait stands on a way from one back to it
  none_around : (x : ℕ) (other : Waiting) → IsOnWay waits x x other → ⊥
  none_around x other way =
      (objects_are_acyclic waits acyclic).no_cycle other.waiter other.holder (for_holder other.waiter other way.stands)
      (leads_on (for_objects waits) other.holder x other.waiter way.behind.0 way.behind.1 way.before)

  -- So many waits were followed from a wait's holder, of which, with the wait itself, this one is the youngest.
  pub record Walked (wait : Waiting) (at : ℕ) (youngest : Waiting) (count : ℕ) : Type 0 where
    pub path : List ℕ
    pub by : LeadsBy (for_objects waits) wait.holder path at
    pub long : length path ≡ count
    pub leads : Deadlocks wait waits → LeadsTo (for_objects waits) at wait.waiter
    pub of_way : (youngest ≡ wait) ⊎ IsOnWay waits wait.holder at youngest
    pub own : is_younger wait youngest ≡ false
    pub others : (other : Waiting) → IsOnWay waits wait.holder wait.waiter other → (is_younger other youngest ≡ false) ⊎ IsOnWay waits at wait.waiter other

  pub walked_none : (wait : Waiting) → Walked wait wait.holder wait 0
  walked_none wait = record {
    path = [];
    by = refl;
    long = refl;
    leads = λ closes. closes;
    of_way = inl refl;
    own = not_later_same wait.timestamp;
    others = λ other way. inr way;
  }

  -- the younger of two
  abbrev pub IsPicked : Waiting → Waiting → Waiting → Type 0
  IsPicked youngest next picked =
      ((is_younger next youngest ≡ true) × (picked ≡ next)) ⊎ ((is_younger next youngest ≡ false) × (picked ≡ youngest))

  not_than_picked : (youngest next picked other : Waiting) → IsPicked youngest next picked → is_younger other youngest ≡ false → is_younger other picked ≡ false
  not_than_picked youngest next picked other (inl is) not =
      subst (λ p. is_younger other p ≡ false) (sym is.1) (not_later other.timestamp youngest.timestamp next.timestamp not (not_later_back next.timestamp youngest.timestamp is.0))
  not_than_picked youngest next picked other (inr is) not = subst (λ p. is_younger other p ≡ false) (sym is.1) not

  next_not_than_picked : (youngest next picked : Waiting) → IsPicked youngest next picked → is_younger next picked ≡ false
  next_not_than_picked youngest next picked (inl is) = subst (λ p. is_younger next p ≡ false) (sym is.1) (not_later_same next.timestamp)
  next_not_than_picked youngest next picked (inr is) = subst (λ p. is_younger next p ≡ false) (sym is.1) is.0

  picked_of_way : (wait youngest next picked : Waiting) (at count : ℕ) → Walked wait at youngest count → wait_in waits.objects at ≡ Some next → IsPicked youngest next picked
      → (picked ≡ wait) ⊎ IsOnWay waits wait.holder next.holder picked
  picked_of_way wait youngest next picked at count w found (inl is) =
      let own : next.waiter ≡ at = (found_is_wait waits.objects at next found).0 in
      inr (subst (IsOnWay waits wait.holder next.holder) (sym is.1) (record {
        stands = ap (wait_in waits.objects) own ∙ found;
        before = (w.path, subst (LeadsBy (for_objects waits) wait.holder w.path) (sym own) w.by);
        behind = ([], refl);
      }))
  picked_of_way wait youngest next picked at count w found (inr is) = elim w.of_way [
    | inl same ↦ inl (is.1 ∙ same)
    | inr way ↦ inr (subst (IsOnWay waits wait.holder next.holder) (sym is.1) (record {
      stands = way.stands;
      before = way.before;
      behind = leads_on (for_objects waits) youngest.holder at next.holder way.behind.0 way.behind.1 (next.holder ∷ [], (for_holder at next found, refl));
    }))
  ]

  pub walked_on : (wait youngest next picked : Waiting) (at count : ℕ) → Walked wait at youngest count → (at ≡ wait.waiter → ⊥) → wait_in waits.objects at ≡ Some next → IsPicked youngest next picked
      → Walked wait next.holder picked (count + 1)
  walked_on wait youngest next picked at count w apart found is = record {
    path = w.path ++ next.holder ∷ [];
    by = one_more_by (for_objects waits) wait.holder at next.holder w.path w.by (for_holder at next found);
    long = one_longer w.path next.holder ∙ ap (λ n. n + 1) w.long;
    leads = λ closes. leads_by_holder (for_objects waits) at wait.waiter next.holder (objects_are_acyclic waits acyclic).functional (holder_seen at next found) apart (w.leads closes);
    of_way = picked_of_way wait youngest next picked at count w found is;
    own = not_than_picked youngest next picked wait is w.own;
    others = λ other way. elim (w.others other way) [
      | inl not ↦ inl (not_than_picked youngest next picked other is not)
      | inr on ↦ elim (on_by at wait.waiter next other on.before.0 found on.before.1 on) [
        | inl same ↦ inl (subst (λ o. is_younger o picked ≡ false) (sym same) (next_not_than_picked youngest next picked is))
        | inr further ↦ inr further
      ]
    ];
  }

  -- **Back at the waiter, the youngest of the way is that of the cycle.**
  pub walked_around : (wait youngest : Waiting) (at count : ℕ) → Walked wait at youngest count → at ≡ wait.waiter → IsYoungest wait waits youngest
  walked_around wait youngest at count w same = record {
    closes = (w.path, subst (LeadsBy (for_objects waits) wait.holder w.path) same w.by);
    of_cycle = elim w.of_way [
      | inl is ↦ inl is
      | inr way ↦ inr (subst (λ n. IsOnWay waits wait.holder n youngest) same way)
    ];
    youngest = λ other of_cycle. elim of_cycle [
      | inl is ↦ subst (λ o. is_younger o youngest ≡ false) (sym is) w.own
      | inr way ↦ elim (w.others other way) [
        | inl not ↦ not
        | inr on ↦ absurd (none_around wait.waiter other (subst (λ n. IsOnWay waits n wait.waiter other) same on))
      ]
    ];
  }

  -- **Where the way ends before, there is no cycle,**
  pub walked_to_end : (wait youngest : Waiting) (at count : ℕ) → Walked wait at youngest count → (at ≡ wait.waiter → ⊥) → wait_in waits.objects at ≡ None → Deadlocks wait waits → ⊥
  walked_to_end wait youngest at count w apart none closes =
      leads_nowhere (for_objects waits) at wait.waiter (none_seen at none) apart (w.leads closes)

  -- **and it ends, or is one.**
  pub walked_no_longer : (wait youngest : Waiting) (at count : ℕ) → Walked wait at youngest count → length waits.objects < count → ⊥
  walked_no_longer wait youngest at count w more =
      let ends = ways_end (for_objects waits) wait.holder at w.path (objects_are_acyclic waits acyclic) w.by in
      omega (arith, ends, w.long, more)
