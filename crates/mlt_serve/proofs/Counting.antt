-- How often transactions stand among outcomes, and among numbers.
use Rattle.std.proofs.Common.{◌≡◌, ◌≢◌, ℕ, ◌+◌, ◌<◌, ◌≤◌, Bool, zero, suc, cond, ◌==◌, ◌++◌, List, [], ◌∷◌, length, get_or, Contains, refl, sym, ap, subst, ◌∙◌, inl, inr, arith, eq-eqb, ne_eqb, IsPermutation}
use Rattle.std.proofs.lemmas.{Bool.cases_eq, List.Sorted.sum_by-IsPermutation, List.Sums.sum_by-append, List.Sums.sum_by-cons}
use Rattle.mlt_trace.specs.Numbers.{CountsFrom}
use Rattle.mlt_trace.proofs.BegunLaws.{first_or_later}
use Rattle.mlt_order.proofs.RunLemmas.{contains-first, contains-later, contains-nothing}
use Rattle.mlt_trace_audit.specs.Agreement.{count_of}
use Rattle.mlt_work_desk.{specs.Prefixes.times, proofs.LogMoves.times_append}
use Rattle.mlt_serve.proofs.Names.{Outcome}
use Rattle.mlt_serve.specs.{Tellings.HasBegunAll, Tellings.txs_of}

-- ---- one more in front

abbrev as_one : Bool → ℕ
as_one b = cond b 1 0

module _ (tx : ℕ) where
  times_same : (n : ℕ) (ns : List ℕ) → n ≡ tx → times tx (n ∷ ns) ≡ 1 + times tx ns
  times_same n ns is = let all = sum_by-cons (λ x. cond (x == tx) 1 0) n ns in let one : as_one (n == tx) ≡ 1 = ap as_one (eq-eqb n tx is) in omega (arith, all, one)

  pub times_other : (n : ℕ) (ns : List ℕ) → n ≢ tx → times tx (n ∷ ns) ≡ times tx ns
  times_other n ns apart = let all = sum_by-cons (λ x. cond (x == tx) 1 0) n ns in let none : as_one (n == tx) ≡ 0 = ap as_one (ne_eqb n tx apart) in omega (arith, all, none)

  pub count_same : (o : Outcome) (os : List Outcome) → o.tx ≡ tx → count_of tx (o ∷ os) ≡ 1 + count_of tx os
  count_same o os is = let all = sum_by-cons (λ (x : Outcome). cond (x.tx == tx) 1 0) o os in let one : as_one (o.tx == tx) ≡ 1 = ap as_one (eq-eqb o.tx tx is) in omega (arith, all, one)

  -- the outcomes have the transaction as often as their numbers
  pub times_of : (os : List Outcome) → times tx (txs_of os) ≡ count_of tx os
  times_of [] = refl
  times_of (o ∷ os) =
      sum_by-cons (λ x. cond (x == tx) 1 0) o.tx (txs_of os) ∙ ap (λ n. cond (o.tx == tx) 1 0 + n) (times_of os) ∙ sym (sum_by-cons (λ (x : Outcome). cond (x.tx == tx) 1 0) o os)

  pub in_list : (ns : List ℕ) → 0 < times tx ns → Contains ns tx
  in_list [] some = absurd (omega (arith, some))
  in_list (n ∷ ns) some = elim (cases_eq n tx) [
    | inl is ↦ subst (λ x. Contains (n ∷ ns) x) is (contains-first n ns)
    | inr apart ↦ let one = times_other n ns apart in contains-later n tx ns (in_list ns (omega (arith, some, one)))
  ]

  pub of_list : (ns : List ℕ) → Contains ns tx → 0 < times tx ns
  of_list [] h = absurd (contains-nothing tx h)
  of_list (n ∷ ns) h = elim (cases_eq n tx) [
    | inl is ↦ let one = times_same n ns is in omega (arith, one)
    | inr apart ↦ elim (first_or_later n ns tx h) [
      | inl is ↦ absurd (apart is)
      | inr later ↦ let one = times_other n ns apart in let rest = of_list ns later in omega (arith, one, rest)
    ]
  ]

  -- numbers that count have none twice
  pub none_below : (ns : List ℕ) (first : ℕ) → CountsFrom first ns → tx < first → times tx ns ≡ 0
  none_below [] first counts low = refl
  none_below (n ∷ ns) first counts low =
      let one = times_other n ns (λ is. omega (arith, is, counts.0, low)) in
      let rest = none_below ns (first + 1) counts.1 (omega (arith, low)) in
      omega (arith, one, rest)

  pub once_counted : (ns : List ℕ) (first : ℕ) → CountsFrom first ns → times tx ns ≤ 1
  once_counted [] first counts = omega arith
  once_counted (n ∷ ns) first counts = elim (cases_eq n tx) [
    | inl is ↦
        let one = times_same n ns is in
        let rest = none_below ns (first + 1) counts.1 (omega (arith, is, counts.0)) in
        omega (arith, one, rest)
    | inr apart ↦ let one = times_other n ns apart in let rest = once_counted ns (first + 1) counts.1 in omega (arith, one, rest)
  ]

-- ---- lists of one length

-- the list without the first x
without : ℕ → List ℕ → List ℕ
without x [] = []
without x (n ∷ ns) = cond (n == x) ns (n ∷ without x ns)

module _ (x : ℕ) where
  without_same : (n : ℕ) (ns : List ℕ) → n ≡ x → without x (n ∷ ns) ≡ ns
  unfolding without
  without_same n ns is = ap (λ b. cond b ns (n ∷ without x ns)) (eq-eqb n x is)

  without_other : (n : ℕ) (ns : List ℕ) → n ≢ x → without x (n ∷ ns) ≡ n ∷ without x ns
  unfolding without
  without_other n ns apart = ap (λ b. cond b ns (n ∷ without x ns)) (ne_eqb n x apart)

  shorter : (ns : List ℕ) → 0 < times x ns → length (without x ns) + 1 ≡ length ns
  shorter [] some = absurd (omega (arith, some))
  shorter (n ∷ ns) some = elim (cases_eq n x) [
    | inl is ↦ let long = ap length (without_same n ns is) in omega (arith, long)
    | inr apart ↦
        let long = ap length (without_other n ns apart) in
        let one = times_other x n ns apart in
        let rest = shorter ns (omega (arith, some, one)) in
        omega (arith, long, rest)
  ]

  -- x goes once, and no other number
  of_without : (tx : ℕ) (ns : List ℕ) → 0 < times x ns → times tx (x ∷ without x ns) ≡ times tx ns
  of_without tx [] some = absurd (omega (arith, some))
  of_without tx (n ∷ ns) some = elim (cases_eq n x) [
    | inl is ↦ ap (λ ms. times tx (x ∷ ms)) (without_same n ns is) ∙ ap (λ m. times tx (m ∷ ns)) (sym is)
    | inr apart ↦
        let one = times_other x n ns apart in
        let rest = of_without tx ns (omega (arith, some, one)) in
        let f : ℕ → ℕ = λ m. cond (m == tx) 1 0 in
        let a = sum_by-cons f x (n ∷ without x ns) in
        let b = sum_by-cons f n (without x ns) in
        let c = sum_by-cons f x (without x ns) in
        let d = sum_by-cons f n ns in
        ap (λ ms. times tx (x ∷ ms)) (without_other n ns apart) ∙ omega (arith, rest, a, b, c, d)
  ]

-- Of two lists of one length, where one has no number more often than the other, both have each as often.
pub as_often : (xs ys : List ℕ) → ((tx : ℕ) → times tx xs ≤ times tx ys) → length xs ≡ length ys → (tx : ℕ) → times tx ys ≤ times tx xs
as_often [] [] few same tx = omega arith
as_often [] (y ∷ ys) few same tx = absurd (omega (arith, same))
as_often (x ∷ xs) ys few same tx =
    let first = few x in
    let own = times_same x x xs refl in
    let some : 0 < times x ys = omega (arith, first, own) in
    let long = shorter x ys some in
    let f : ℕ → ℕ → ℕ = λ z m. cond (m == z) 1 0 in
    let rest = as_often xs (without x ys) (λ z. let a = few z in let b = of_without x z ys some in let c = sum_by-cons (f z) x xs in let d = sum_by-cons (f z) x (without x ys) in omega (arith, a, b, c, d))
    (omega (arith, same, long)) tx in
    let b = of_without x tx ys some in
    let c = sum_by-cons (f tx) x xs in
    let d = sum_by-cons (f tx) x (without x ys) in
    omega (arith, rest, b, c, d)

-- ---- an outcome among others

pub counted_at : (os : List Outcome) (k : ℕ) (d : Outcome) → k < length os → 0 < count_of (get_or os k d).tx os
counted_at [] k d within = absurd (omega (arith, within))
counted_at (o ∷ os) zero d within = let one = count_same o.tx o os refl in omega (arith, one)
counted_at (o ∷ os) (suc k) d within =
    let tx = (get_or os k d).tx in
    let one = sum_by-cons (λ (x : Outcome). cond (x.tx == tx) 1 0) o os in
    let rest = counted_at os k d (omega (arith, within)) in
    omega (arith, one, rest)

-- ---- what all desks have begun

pub none_begun : (outcomes : List Outcome) (begun : List ℕ) → outcomes ≡ [] → begun ≡ [] → HasBegunAll outcomes begun
none_begun outcomes begun none nothing tx = ap (count_of tx) none ∙ sym (ap (times tx) nothing)

-- after those of another thread were taken in
pub both_begun : (old more new : List Outcome) (begun now mine : List ℕ) → IsPermutation (old ++ more) new → now ≡ begun ++ mine → mine ≡ txs_of more
    → HasBegunAll old begun → HasBegunAll new now
both_begun old more new begun now mine same is own had tx =
    let f : Outcome → ℕ = λ x. cond (x.tx == tx) 1 0 in
    let moved : count_of tx new ≡ count_of tx (old ++ more) = sum_by-IsPermutation f (old ++ more) new same in
    let parts : count_of tx (old ++ more) ≡ count_of tx old + count_of tx more = sum_by-append f old more in
    let sum : times tx now ≡ times tx begun + times tx mine = ap (times tx) is ∙ times_append tx begun mine in
    let mine_is : times tx mine ≡ count_of tx more = ap (times tx) own ∙ times_of tx more in
    let before = had tx in
    omega (arith, moved, parts, sum, mine_is, before)

pub none_begun_yet : (outcomes : List Outcome) (begun : List ℕ) → outcomes ≡ [] → begun ≡ [] → begun ≡ txs_of outcomes
none_begun_yet outcomes begun none nothing = nothing ∙ sym (ap txs_of none)
