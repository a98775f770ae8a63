-- Commits of outcomes that stand in order.
use Rattle.std.proofs.Common.{◌≡◌, ℕ, ◌+◌, ◌<◌, ◌≤◌, List, length, get_or, Some, slice_get, sym, subst, ◌∙◌, inl, inr, arith}
use Rattle.mlt_trace_audit.proofs.Names.{slice_get-get_or, Committed, Outcome, RisesTo, same_Some}
use Rattle.std.proofs.lemmas.{Bool.cases_order, List.get_or_default}
use Rattle.mlt_trace_audit.{specs.Agreement.CommitsRise, specs.Orders.AreInOrder, specs.Orders.IsCommitted, proofs.Loops.up_to_here}

abbrev pub IsAt : List Outcome → ℕ → Outcome → Type 0
IsAt outcomes k o = slice_get outcomes k ≡ Some o

-- the last committed outcome before a place is of this one's client or of a later one, and of the same client its commit is as great
abbrev IsUnder : List Outcome → ℕ → ℕ → Outcome → ℕ → Type 0
IsUnder outcomes last i one m =
    (final : Outcome) × (n : ℕ) × (last < i) × IsAt outcomes last final × (final.end ≡ Committed n) × (one.client ≤ final.client) × (one.client ≡ final.client → m ≤ n)

-- the outcomes before a place rise, and of those of one client the last commit is the greatest
pub record RiseBelow (outcomes : List Outcome) (last i : ℕ) : Type 0 where
  pub rising : (j k : ℕ) (one other : Outcome) → IsAt outcomes j one → IsAt outcomes k other → j < k → k < i → RisesTo one other
  pub top : (j : ℕ) (one : Outcome) → j < i → IsAt outcomes j one → (m : ℕ) → one.end ≡ Committed m → IsUnder outcomes last i one m

module _ (outcomes : List Outcome) (order : AreInOrder outcomes) (last i : ℕ) (here : Outcome) (at_here : IsAt outcomes i here) (rise : RiseBelow outcomes last i) where
  rising_more : ((j : ℕ) (one : Outcome) → j < i → IsAt outcomes j one → RisesTo one here)
      → (j k : ℕ) (one other : Outcome) → IsAt outcomes j one → IsAt outcomes k other → j < k → k < i + 1 → RisesTo one other
  rising_more now j k one other at_one at_other below within =
      up_to_here outcomes i here at_here (λ k other. j < k → RisesTo one other) (λ low. now j one low at_one)
      (λ k other low at less. rise.rising j k one other at_one at less low) k other within at_other below

  module _ (final : Outcome) (at_final : IsAt outcomes last final) (m : ℕ) (is_m : here.end ≡ Committed m) (next : RisesTo final here) where
    -- an earlier commit of the client is below this one
    below_here : (j : ℕ) (one : Outcome) → j < i → IsAt outcomes j one → (a b : ℕ) → one.end ≡ Committed a → here.end ≡ Committed b → one.client ≡ here.client → a < b
    below_here j one low at a b is_a is_b same =
        let top = rise.top j one low at a is_a in
        let is : final ≡ top.0 = same_Some final top.0 (sym at_final ∙ top.3) in
        let above = subst (λ o. RisesTo o here) is next top.1 b top.4 is_b in
        grind (arith, order last i top.0 here top.3 at_here top.2, above, top.5, top.6)

    pub rise_by_commit : RiseBelow outcomes i (i + 1)
    rise_by_commit = record {
      rising = rising_more (λ j one low at a b is_a is_b same smaller. below_here j one low at a b is_a is_b same);
      top = up_to_here outcomes i here at_here (λ _ one. (a : ℕ) → one.end ≡ Committed a → IsUnder outcomes i (i + 1) one a)
          (λ a is_a. (here, m, omega arith, at_here, is_m, omega arith, λ same. grind (arith, is_a, is_m)))
          (λ j one low at a is_a.
          (here, m, omega arith, at_here, is_m, grind (arith, order j i one here at at_here low), λ same. let less = below_here j one low at a m is_a is_m same in omega (arith, less)));
    }

  pub rise_by_other : (IsCommitted here → ⊥) → RiseBelow outcomes last (i + 1)
  rise_by_other other_end = record {
    rising = rising_more (λ j one low at a b is_a is_b. absurd (other_end (b, is_b)));
    top = up_to_here outcomes i here at_here (λ _ one. (a : ℕ) → one.end ≡ Committed a → IsUnder outcomes last (i + 1) one a)
        (λ a is_a. absurd (other_end (a, is_a)))
        (λ j one low at a is_a. let t = rise.top j one low at a is_a in (t.0, t.1, omega (arith, t.2), t.3, t.4, t.5, t.6));
  }

pub rise_all : (outcomes : List Outcome) (last i : ℕ) → AreInOrder outcomes → length outcomes ≤ i → RiseBelow outcomes last i → CommitsRise outcomes
rise_all outcomes last i order past rise j d within k e below =
    let one = get_or outcomes j d in
    let other = get_or outcomes k e in
    let at_one : IsAt outcomes j one = slice_get-get_or outcomes j d within in
    let at_other : IsAt outcomes k other = slice_get-get_or outcomes k e below in
    elim (cases_order j k) [
      | inl same ↦ λ m n is_m is_n client smaller. absurd (grind (arith, same, get_or_default outcomes k d e below))
      | inr (inl before) ↦ rise.rising j k one other at_one at_other before (omega (arith, below, past))
      | inr (inr behind) ↦ λ m n is_m is_n client smaller. absurd (grind (arith, order k j other one at_other at_one behind))
    ]
