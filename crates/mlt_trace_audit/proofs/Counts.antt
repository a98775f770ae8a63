-- Numbers of outcomes, where transactions begin in order.
use Rattle.std.proofs.Common.{◌≡◌, ◌↔◌, ℕ, ◌+◌, ◌-◌, ◌<◌, ◌≤◌, List, [], ◌∷◌, length, All, Contains, subst, ◌∙◌, inl, inr, arith}
use Rattle.mlt_trace_audit.proofs.Names.{cases_eq, contains-first, contains-later, contains-nothing, TraceItem, AreBegunInOrder, CountsFrom, begin_count, begun_txs, Outcome, NumbersAgree, count_of, All-weaker, first_or_later}
use Rattle.mlt_trace_audit.specs.Agreement.{IsOfBegunTx}

-- ---- numbers that count

between : (ns : List ℕ) (first x : ℕ) → CountsFrom first ns → Contains ns x → (first ≤ x) × (x < first + length ns)
between [] first x counts h = absurd (contains-nothing x h)
between (n ∷ ns) first x counts h = grind (arith, first_or_later n ns x h, between ns (first + 1) x counts.1)

among : (ns : List ℕ) (first x : ℕ) → CountsFrom first ns → first ≤ x → x < first + length ns → Contains ns x
among [] first x counts low high = absurd (omega (arith, low, high))
among (n ∷ ns) first x counts low high = elim (cases_eq first x) [
  | inl same ↦ subst (λ m. Contains (n ∷ ns) m) (counts.0 ∙ same) (contains-first n ns)
  | inr apart ↦ contains-later n x ns (among ns (first + 1) x counts.1 (omega (arith, low, apart)) (omega (arith, high)))
]

module _ (items : List TraceItem) (order : AreBegunInOrder items) where
  pub is_begun : (tx : ℕ) → 0 < tx → tx ≤ begin_count items → Contains (begun_txs items) tx
  is_begun tx low high = among (begun_txs items) 1 tx order (omega (arith, low)) (omega (arith, high))

  module _ (outcomes : List Outcome) (last : ℕ) (counted : last ≡ begin_count items) where
    most_of : (o : Outcome) → IsOfBegunTx items o → o.tx ≤ last
    most_of o begun = grind (arith, between (begun_txs items) 1 o.tx order, cases_eq o.tx 0)

    pub numbers_are : NumbersAgree outcomes items ↔ (All (λ o. o.tx ≤ last) outcomes × ((k : ℕ) → k < last → count_of (k + 1) outcomes ≡ 1))
    numbers_are = (
      λ numbers. (
        All-weaker (IsOfBegunTx items) (λ o. o.tx ≤ last) most_of outcomes numbers.begun,
        λ k few. (numbers.once (k + 1) (is_begun (k + 1) (omega arith) (omega (arith, few, counted)))).1,
      ),
      λ are. record {
        once = λ tx h. let b = between (begun_txs items) 1 tx order h in let next : tx - 1 + 1 ≡ tx = omega (arith, b.0) in
            (omega (arith, b.0), subst (λ n. count_of n outcomes ≡ 1) next (are.1 (tx - 1) (omega (arith, b.0, b.1, counted))));
        begun = All-weaker (λ o. o.tx ≤ last) (IsOfBegunTx items) (λ o low some. is_begun o.tx (omega (arith, some)) (omega (arith, low, counted))) outcomes are.0;
      },
    )
