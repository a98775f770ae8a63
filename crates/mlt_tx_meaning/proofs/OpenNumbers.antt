-- Members of a set of numbers with one more, and with one less.
use Rattle.std.proofs.Common.{ℕ, ◌≡◌, ◌&&◌, ◌||◌, nat_eq, true, false, not, refl, sym, ◌∙◌, ap, inl, inr, nat_cmp, eq-eqb, ne_eqb}
use Rattle.mlt_tx_meaning.proofs.Names.{nat_cmp_total, unsigned_tied, both_ways, cases_eq}
use Rattle.std.specs.FinSet as set

inserted : (active : set.FinSet nat_cmp) (x q : ℕ) → set.contains (set.insert active x) q ≡ (nat_eq q x || set.contains active q)
inserted active x q = set.contains-insert nat_cmp_total active x q ∙ ap (λ b. b || set.contains active q) (unsigned_tied q x)

removed : (active : set.FinSet nat_cmp) (x q : ℕ) → set.contains (set.remove active x) q ≡ (not (nat_eq q x) && set.contains active q)
removed active x q = set.contains-remove nat_cmp_total active x q ∙ ap (λ b. not b && set.contains active q) (unsigned_tied q x)

pub inserted_here : (active : set.FinSet nat_cmp) (x : ℕ) → set.contains (set.insert active x) x ≡ true
inserted_here active x = inserted active x x ∙ ap (λ b. b || set.contains active x) (eq-eqb x x refl)

pub inserted_beside : (active : set.FinSet nat_cmp) (x q : ℕ) → (q ≡ x → ⊥) → set.contains (set.insert active x) q ≡ set.contains active q
inserted_beside active x q differs = inserted active x q ∙ ap (λ b. b || set.contains active q) (ne_eqb q x differs)

pub removed_here : (active : set.FinSet nat_cmp) (x : ℕ) → set.contains (set.remove active x) x ≡ false
removed_here active x = removed active x x ∙ ap (λ b. not b && set.contains active x) (eq-eqb x x refl)

pub removed_beside : (active : set.FinSet nat_cmp) (x q : ℕ) → (q ≡ x → ⊥) → set.contains (set.remove active x) q ≡ set.contains active q
removed_beside active x q differs = removed active x q ∙ ap (λ b. not b && set.contains active q) (ne_eqb q x differs)

-- who is still there was there
pub removed_was : (active : set.FinSet nat_cmp) (x q : ℕ) → set.contains (set.remove active x) q ≡ true → set.contains active q ≡ true
removed_was active x q is =
    elim (cases_eq q x) [
      | inl e ↦ absurd (both_ways _ (removed_here active x) (ap (set.contains (set.remove active x)) (sym e) ∙ is))
      | inr n ↦ sym (removed_beside active x q n) ∙ is
    ]
