-- Places of outcomes, by the numbers of their transactions.
use Rattle.std.proofs.Common.{◌≡◌, ◌↔◌, ℕ, ◌+◌, ◌-◌, ◌<◌, ◌≤◌, ◌≢◌, List, All, length, get_or, slice_get, slice_set, take, Some, cond, refl, ap, subst, sym, ◌∙◌, inl, inr, arith, ◌==◌, eq-eqb, ne_eqb, take_all}
use Rattle.mlt_trace_audit.proofs.Names.{cases_eq, nat_tests, slice_get_read, Outcome, count_of}
use Rattle.mlt_trace_audit.specs.Telling.{ArePlacesOf}
use Rattle.std.proofs.lemmas.{List.get_or-set_other, List.get_or-set_same, List.length-set, List.Elements.All-get_or, List.Elements.All-from_get_or, List.Sums.sum_by_more, List.Sums.sum_by_more_le}

-- the place of the outcome of transaction k + 1, where it is among the first i, or 0
pub record IsPlacedSoFar (place : ℕ) (outcomes : List Outcome) (i k : ℕ) : Type 0 where
  pub counted : count_of (k + 1) (take i outcomes) ≡ cond (place == 0) 0 1
  pub named : 0 < place → (o : Outcome) × (slice_get outcomes (place - 1) ≡ Some o) × (o.tx ≡ k + 1)

abbrev pub ArePlacedSoFar : List ℕ → List Outcome → ℕ → Type 0
ArePlacedSoFar places outcomes i = (k : ℕ) → k < length places → IsPlacedSoFar (get_or places k 0) outcomes i k

-- a number that has its place already stands in two outcomes
pub placed_twice : (outcomes : List Outcome) (i : ℕ) (o : Outcome) → i < length outcomes → o ≡ get_or outcomes i o
    → (places : List ℕ) → ArePlacedSoFar places outcomes i → 0 < o.tx → o.tx ≤ length places → 0 < get_or places (o.tx - 1) 0
    → ((k : ℕ) → k < length places → count_of (k + 1) outcomes ≡ 1) → ⊥
placed_twice outcomes i o within is places placed low high seen once =
    let k = o.tx - 1 in
    grind (arith, nat_tests, sum_by_more_le (λ (p : Outcome). cond (p.tx == k + 1) 1 0) outcomes i o within, (placed k (omega (arith, low, high))).counted, once k (omega (arith, low, high)))

-- whether the outcome counts for transaction k + 1, and whether a place is one
abbrev counts_for : ℕ → Outcome → ℕ
counts_for k o = cond (o.tx == k + 1) 1 0

abbrev is_place : ℕ → ℕ
is_place place = cond (place == 0) 0 1

counts_one : (o : Outcome) (k : ℕ) → o.tx ≡ k + 1 → counts_for k o ≡ 1
counts_one o k is = rw (eq-eqb o.tx (k + 1) is) refl

counts_none : (o : Outcome) (k : ℕ) → o.tx ≢ k + 1 → counts_for k o ≡ 0
counts_none o k apart = rw (ne_eqb o.tx (k + 1) apart) refl

placed_one : (place : ℕ) → 0 < place → is_place place ≡ 1
placed_one place low = rw (ne_eqb place 0 (omega (arith, low))) refl

placed_none : (place : ℕ) → place ≡ 0 → is_place place ≡ 0
placed_none place none = rw (eq-eqb place 0 none) refl

-- one outcome more, whose number has no place yet
pub placed_more : (outcomes : List Outcome) (i : ℕ) (o : Outcome) → i < length outcomes → o ≡ get_or outcomes i o
    → (places : List ℕ) → 0 < o.tx → o.tx ≤ length places → get_or places (o.tx - 1) 0 ≡ 0
    → ArePlacedSoFar places outcomes i → ArePlacedSoFar (slice_set places (o.tx - 1) (i + 1)) outcomes (i + 1)
placed_more outcomes i o within is places low high unseen placed k few =
    let long = length-set places (o.tx - 1) (i + 1) in
    let was = placed k (omega (arith, few, long)) in
    let more = sum_by_more (λ (p : Outcome). cond (p.tx == k + 1) 1 0) outcomes i o within in
    elim (cases_eq k (o.tx - 1)) [
      | inl own ↦
          let here : get_or (slice_set places (o.tx - 1) (i + 1)) k 0 ≡ i + 1 = subst (λ n. get_or (slice_set places (o.tx - 1) (i + 1)) n 0 ≡ i + 1) (sym own) (get_or-set_same places (o.tx - 1) (i + 1) 0 (omega (arith, low, high))) in
          let number : o.tx ≡ k + 1 = omega (arith, own, low) in
          let none : count_of (k + 1) (take i outcomes) ≡ 0 = was.counted ∙ placed_none (get_or places k 0) (ap (λ n. get_or places n 0) own ∙ unseen) in
          let one = counts_one (get_or outcomes i o) k (ap (λ (p : Outcome). p.tx) (sym is) ∙ number) in
          let some = placed_one (i + 1) (omega arith) in
          let last : i + 1 - 1 ≡ i = omega arith in
          subst (λ place. IsPlacedSoFar place outcomes (i + 1) k) (sym here) (record {
            counted = omega (arith, more, none, one, some);
            named = λ _. (o, ap (slice_get outcomes) last ∙ slice_get_read outcomes (length outcomes) i o refl within is, number);
          })
      | inr apart ↦
          let here = get_or-set_other places (o.tx - 1) k (i + 1) 0 apart in
          let other : (get_or outcomes i o).tx ≢ k + 1 = λ same. apart (let number = ap (λ (p : Outcome). p.tx) is in omega (arith, same, number)) in
          let zero = counts_none (get_or outcomes i o) k other in
          subst (λ place. IsPlacedSoFar place outcomes (i + 1) k) (sym here) (record { counted = omega (arith, more, was.counted, zero); named = was.named })
    ]

-- one more, whose number has no place
pub placed_other : (outcomes : List Outcome) (i : ℕ) (o : Outcome) → i < length outcomes → o ≡ get_or outcomes i o
    → (places : List ℕ) → (0 < o.tx → length places < o.tx) → ArePlacedSoFar places outcomes i → ArePlacedSoFar places outcomes (i + 1)
placed_other outcomes i o within is places out placed k few =
    let was = placed k few in
    let more = sum_by_more (λ (p : Outcome). cond (p.tx == k + 1) 1 0) outcomes i o within in
    let other : (get_or outcomes i o).tx ≢ k + 1 = λ same. let number = ap (λ (p : Outcome). p.tx) is in absurd (omega (arith, same, number, few, out (omega (arith, same, number)))) in
    let zero = counts_none (get_or outcomes i o) k other in
    record { counted = omega (arith, more, was.counted, zero); named = was.named }

-- each number stands in one outcome just where all places are set; and then they are those of the outcomes
module _ (places : List ℕ) (outcomes : List Outcome) (i : ℕ) (past : length outcomes ≤ i) (placed : ArePlacedSoFar places outcomes i) where
  counted_at : (k : ℕ) → k < length places → count_of (k + 1) outcomes ≡ cond (get_or places k 0 == 0) 0 1
  counted_at k few = ap (count_of (k + 1)) (sym (take_all i outcomes past)) ∙ (placed k few).counted

  set_at : (k : ℕ) → k < length places → (0 < get_or places k 0) ↔ (count_of (k + 1) outcomes ≡ 1)
  set_at k few = (
    λ low. counted_at k few ∙ placed_one (get_or places k 0) low,
    λ once. elim (cases_eq (get_or places k 0) 0) [
      | inl none ↦ let zero = counted_at k few ∙ placed_none (get_or places k 0) none in absurd (omega (arith, zero, once))
      | inr some ↦ omega (arith, some)
    ],
  )

  pub all_placed : All (λ place. 0 < place) places ↔ ((k : ℕ) → k < length places → count_of (k + 1) outcomes ≡ 1)
  all_placed = (
    λ all k few. (set_at k few).0 (All-get_or (λ place. 0 < place) places k 0 few all),
    λ once. All-from_get_or (λ place. 0 < place) places 0 (λ k few. (set_at k few).1 (once k few)),
  )

  pub places_named : All (λ place. 0 < place) places → ArePlacesOf places outcomes
  places_named all k few =
      let low = All-get_or (λ place. 0 < place) places k 0 few all in
      let n = (placed k few).named low in
      (n.0, low, n.1, n.2)
