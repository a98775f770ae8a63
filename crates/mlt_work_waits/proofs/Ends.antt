-- From each the waits lead to one that waits for nobody, as there are finitely many and no cycle
use Rattle.std.proofs.Common.{◌≡◌, ℕ, zero, suc, ◌+◌, ◌≤◌, ◌⊎◌, List, [], ◌∷◌, ◌++◌, length, length-append, None, Some, refl, sym, subst, ◌∙◌, inl, inr, arith}
use Rattle.mlt_work_waits.{specs.declared.wait.Waiting.Waiting, proofs.Found.found_is_for, proofs.Found.none_is_for}
use Rattle.mlt_work_waits.specs.Waits.{IsAcyclic, IsAmong, IsAwake, IsFor, LeadsBy, LeadsTo, LeadToAwake, Waits, holder_of}

-- one of these is x
abbrev Has : List ℕ → ℕ → Type 0
Has [] x = ⊥
Has (y ∷ ys) x = (y ≡ x) ⊎ Has ys x

-- none of these stands twice
abbrev Apart : List ℕ → Type 0
Apart [] = Unit {0}
Apart (x ∷ xs) = (Has xs x → ⊥) × Apart xs

has_left : (xs ys : List ℕ) (x : ℕ) → Has xs x → Has (xs ++ ys) x
has_left [] ys x has = absurd has
has_left (first ∷ xs) ys x (inl is) = inl is
has_left (first ∷ xs) ys x (inr has) = inr (has_left xs ys x has)

has_right : (xs ys : List ℕ) (x : ℕ) → Has ys x → Has (xs ++ ys) x
has_right [] ys x has = has
has_right (first ∷ xs) ys x has = inr (has_right xs ys x has)

-- these without one that is among them
record Without (ys : List ℕ) (x : ℕ) : Type 0 where
  left : List ℕ
  one_less : length ys ≡ length left + 1
  others : (y : ℕ) → (x ≡ y → ⊥) → Has ys y → Has left y

without : (ys : List ℕ) (x : ℕ) → Has ys x → Without ys x
without [] x has = absurd has
without (first ∷ ys) x (inl is) = record {
  left = ys;
  one_less = omega arith;
  others = λ y apart has. elim has [ inl same ↦ absurd (apart (sym is ∙ same)) | inr later ↦ later ];
}
without (first ∷ ys) x (inr has) = let rest = without ys x has in record {
  left = first ∷ rest.left;
  one_less = omega (arith, rest.one_less);
  others = λ y apart has. elim has [ inl same ↦ inl same | inr later ↦ inr (rest.others y apart later) ];
}

-- Numbers that are apart, all among others, are no more than these.
no_more : (xs ys : List ℕ) → Apart xs → ((x : ℕ) → Has xs x → Has ys x) → length xs ≤ length ys
no_more [] ys apart all = omega arith
no_more (x ∷ xs) ys apart all =
    let rest = without ys x (all x (inl refl)) in
    let fewer = no_more xs rest.left apart.1 (λ y has. rest.others y (λ same. apart.0 (subst (Has xs) (sym same) has)) (all y (inr has))) in
    omega (arith, fewer, rest.one_less)

abbrev waiters_in : List Waiting → List ℕ
waiters_in [] = []
waiters_in (wait ∷ waits) = wait.waiter ∷ waiters_in waits

abbrev waiters_of : Waits → List ℕ
waiters_of waits = waiters_in waits.objects ++ waiters_in waits.pages

among_waits : (waits : List Waiting) (x y : ℕ) → IsAmong waits x y → Has (waiters_in waits) x
among_waits [] x y among = among
among_waits (wait ∷ waits) x y (inl is) = inl is.0
among_waits (wait ∷ waits) x y (inr later) = inr (among_waits waits x y later)

for_waits : (waits : Waits) (x y : ℕ) → IsFor waits x y → Has (waiters_of waits) x
for_waits waits x y (inl among) = has_left (waiters_in waits.objects) (waiters_in waits.pages) x (among_waits waits.objects x y among)
for_waits waits x y (inr among) = has_right (waiters_in waits.objects) (waiters_in waits.pages) x (among_waits waits.pages x y among)

-- who waits along a way from x
abbrev waiting_along : ℕ → List ℕ → List ℕ
waiting_along x [] = []
waiting_along x (next ∷ more) = x ∷ waiting_along next more

length_along : (x : ℕ) (path : List ℕ) → length (waiting_along x path) ≡ length path
length_along x [] = refl
length_along x (next ∷ more) = omega (arith, length_along next more)

along_waits : (waits : Waits) (x y : ℕ) (path : List ℕ) → LeadsBy waits x path y → (z : ℕ) → Has (waiting_along x path) z → Has (waiters_of waits) z
along_waits waits x y [] by z has = absurd has
along_waits waits x y (next ∷ more) (first, rest) z (inl is) = subst (Has (waiters_of waits)) is (for_waits waits x next first)
along_waits waits x y (next ∷ more) (first, rest) z (inr has) = along_waits waits next y more rest z has

-- a way leads to each that waits along it,
leads_along : (waits : Waits) (x y : ℕ) (path : List ℕ) → LeadsBy waits x path y → (z : ℕ) → Has (waiting_along x path) z → LeadsTo waits x z
leads_along waits x y [] by z has = absurd has
leads_along waits x y (next ∷ more) (first, rest) z (inl is) = ([], is)
leads_along waits x y (next ∷ more) (first, rest) z (inr has) = let on = leads_along waits next y more rest z has in (next ∷ on.0, (first, on.1))

-- so nobody waits along it twice
apart_along : (waits : Waits) (x y : ℕ) (path : List ℕ) → IsAcyclic waits → LeadsBy waits x path y → Apart (waiting_along x path)
apart_along waits x y [] acyclic by = tt
apart_along waits x y (next ∷ more) acyclic (first, rest) = (
  λ again. acyclic.no_cycle x next first (leads_along waits next y more rest x again),
  apart_along waits next y more acyclic rest,
)

length_waiters : (waits : List Waiting) → length (waiters_in waits) ≡ length waits
length_waiters [] = refl
length_waiters (wait ∷ waits) = omega (arith, length_waiters waits)

-- **No more waits follow each other than there are.**
pub ways_end : (waits : Waits) (x y : ℕ) (path : List ℕ) → IsAcyclic waits → LeadsBy waits x path y → length path ≤ length waits.objects + length waits.pages
ways_end waits x y path acyclic by =
    let all = no_more (waiting_along x path) (waiters_of waits) (apart_along waits x y path acyclic by) (along_waits waits x y path by) in
    omega (arith, all, length_along x path, length-append (waiters_in waits.objects) (waiters_in waits.pages), length_waiters waits.objects, length_waiters waits.pages)

-- waits lead to one that waits for nobody, or so many follow each other
awake_or_on : (waits : Waits) (count x : ℕ) → ((y : ℕ) × LeadsTo waits x y × IsAwake waits y) ⊎ ((y : ℕ) × (path : List ℕ) × LeadsBy waits x path y × (length path ≡ count))
awake_or_on waits zero x = inr (x, [], refl, refl)
awake_or_on waits (suc count) x =
    elim (holder_of waits x) as (λ o. holder_of waits x ≡ o → ((y : ℕ) × LeadsTo waits x y × IsAwake waits y) ⊎ ((y : ℕ) × (path : List ℕ) × LeadsBy waits x path y × (length path ≡ suc count))) [
      | None ↦ λ none. inl (x, ([], refl), λ y. none_is_for waits x y none)
      | Some next ↦ λ found.
          let first = found_is_for waits x next found in
          elim (awake_or_on waits count next) [
            | inl ends ↦ inl (ends.0, (next ∷ ends.1.0, (first, ends.1.1)), ends.2)
            | inr on ↦ inr (on.0, next ∷ on.1, (first, on.2), omega (arith, on.3))
          ]
    ] refl

-- **From each the waits lead to one that waits for nobody.**
pub lead_to_awake : (waits : Waits) → IsAcyclic waits → LeadToAwake waits
lead_to_awake waits acyclic x =
    elim (awake_or_on waits (length waits.objects + length waits.pages + 1) x) [
      | inl ends ↦ ends
      | inr on ↦ absurd (omega (arith, ways_end waits x on.0 on.1 acyclic on.2, on.3))
    ]
