-- What one more wait adds to the ways along waits, and what fewer waits leave
use Rattle.std.proofs.Common.{◌≡◌, ℕ, ◌⊎◌, true, false, not, cond, List, [], ◌∷◌, ◌++◌, sym, subst, ◌∙◌, inl, inr}
use Rattle.mlt_work_waits.specs.declared.wait.{Awaited.Awaited, Waiting.Waiting, Whose.Whose}
use Rattle.mlt_work_waits.specs.Waits.{IsAcyclic, IsAmong, IsFor, LeadsBy, LeadsTo, Waits, for_objects, is_for, joined, nobody_waits, others_in, released}

-- a wait among these and one more is among these, or is that one
among_one_more : (waits : List Waiting) (one : Waiting) (x y : ℕ) → IsAmong (waits ++ one ∷ []) x y → IsAmong waits x y ⊎ ((one.waiter ≡ x) × (one.holder ≡ y))
among_one_more [] one x y (inl is) = inr is
among_one_more [] one x y (inr none) = absurd none
among_one_more (first ∷ more) one x y (inl is) = inl (inl is)
among_one_more (first ∷ more) one x y (inr later) = elim (among_one_more more one x y later) [ inl among ↦ inl (inr among) | inr is ↦ inr is ]

for_one_more : (which : Awaited) (one : Waiting) (waits : Waits) (x y : ℕ) → IsFor (joined which one waits) x y → IsFor waits x y ⊎ ((one.waiter ≡ x) × (one.holder ≡ y))
for_one_more Awaited.Objects one waits x y (inl among) = elim (among_one_more waits.objects one x y among) [ inl old ↦ inl (inl old) | inr is ↦ inr is ]
for_one_more Awaited.Objects one waits x y (inr among) = inl (inr among)
for_one_more Awaited.Pages one waits x y (inl among) = inl (inl among)
for_one_more Awaited.Pages one waits x y (inr among) = elim (among_one_more waits.pages one x y among) [ inl old ↦ inl (inr old) | inr is ↦ inr is ]

-- one way after another
pub leads_on : (waits : Waits) (x y z : ℕ) (path : List ℕ) → LeadsBy waits x path y → LeadsTo waits y z → LeadsTo waits x z
leads_on waits x y z [] same to = subst (λ n. LeadsTo waits n z) (sym same) to
leads_on waits x y z (next ∷ more) (first, rest) to = let on = leads_on waits next y z more rest to in (next ∷ on.0, (first, on.1))

-- a way along these waits and one more takes that one at no place, or leads to it and then on from it
splits_at : (which : Awaited) (one : Waiting) (waits : Waits) (x y : ℕ) (path : List ℕ) → LeadsBy (joined which one waits) x path y → LeadsTo waits x y ⊎ (LeadsTo waits x one.waiter × LeadsTo waits one.holder y)
splits_at which one waits x y [] same = inl ([], same)
splits_at which one waits x y (next ∷ more) (first, rest) =
    elim (for_one_more which one waits x next first) [
      | inl old ↦ elim (splits_at which one waits next y more rest) [
        | inl on ↦ inl (next ∷ on.0, (old, on.1))
        | inr both ↦ inr ((next ∷ both.0.0, (old, both.0.1)), both.1)
      ]
      | inr is ↦ elim (splits_at which one waits next y more rest) [
        | inl on ↦ inr (([], sym is.0), subst (λ n. LeadsTo waits n y) (sym is.1) on)
        | inr both ↦ inr (([], sym is.0), both.1)
      ]
    ]

-- **One more wait closes no cycle, where its holder does not wait for its waiter, and this one waits for nobody yet.**
pub stays_acyclic : (which : Awaited) (one : Waiting) (waits : Waits) → IsAcyclic waits → ((y : ℕ) → IsFor waits one.waiter y → ⊥) → (LeadsTo waits one.holder one.waiter → ⊥) → IsAcyclic (joined which one waits)
stays_acyclic which one waits was idle apart = record {
  functional = λ x y z for other. elim (for_one_more which one waits x y for) [
    | inl old ↦ elim (for_one_more which one waits x z other) [
      | inl older ↦ was.functional x y z old older
      | inr is ↦ absurd (idle y (subst (λ n. IsFor waits n y) (sym is.0) old))
    ]
    | inr is ↦ elim (for_one_more which one waits x z other) [
      | inl older ↦ absurd (idle z (subst (λ n. IsFor waits n z) (sym is.0) older))
      | inr same ↦ sym is.1 ∙ same.1
    ]
  ];
  no_cycle = λ x y for back. elim (for_one_more which one waits x y for) [
    | inl old ↦ elim (splits_at which one waits y x back.0 back.1) [
      | inl on ↦ was.no_cycle x y old on
      | inr both ↦ apart (leads_on waits one.holder x one.waiter both.1.0 both.1.1 (y ∷ both.0.0, (old, both.0.1)))
    ]
    | inr is ↦ elim (splits_at which one waits y x back.0 back.1) [
      | inl on ↦ apart (subst (λ n. LeadsTo waits n one.waiter) (sym is.1) (subst (λ n. LeadsTo waits y n) (sym is.0) on))
      | inr both ↦ apart (subst (λ n. LeadsTo waits n one.waiter) (sym is.1) both.0)
    ]
  ];
}

-- these waits are all among those
abbrev AreAmong : Waits → Waits → Type 0
AreAmong fewer waits = (x y : ℕ) → IsFor fewer x y → IsFor waits x y

leads_fewer : (fewer waits : Waits) → AreAmong fewer waits → (x y : ℕ) (path : List ℕ) → LeadsBy fewer x path y → LeadsBy waits x path y
leads_fewer fewer waits among x y [] same = same
leads_fewer fewer waits among x y (next ∷ more) (first, rest) = (among x next first, leads_fewer fewer waits among next y more rest)

-- **Fewer waits close no cycle.**
acyclic_fewer : (fewer waits : Waits) → AreAmong fewer waits → IsAcyclic waits → IsAcyclic fewer
acyclic_fewer fewer waits among was = record {
  functional = λ x y z for other. was.functional x y z (among x y for) (among x z other);
  no_cycle = λ x y for back. was.no_cycle x y (among x y for) (back.0, leads_fewer fewer waits among y x back.0 back.1);
}

-- who still waits waited before
among_others : (given : Whose) (waits : List Waiting) (x y : ℕ) → IsAmong (others_in given waits) x y → IsAmong waits x y
among_others given [] x y among = among
among_others given (first ∷ more) x y among =
    elim (is_for given first) as (λ b. IsAmong (cond (not b) (first ∷ others_in given more) (others_in given more)) x y → IsAmong (first ∷ more) x y) [
      | true ↦ λ later. inr (among_others given more x y later)
      | false ↦ λ here. elim here [ inl is ↦ inl is | inr later ↦ inr (among_others given more x y later) ]
    ] among

are_among : (which : Awaited) (given : Whose) (waits : Waits) → AreAmong (released which given waits) waits
are_among Awaited.Objects given waits x y (inl among) = inl (among_others given waits.objects x y among)
are_among Awaited.Objects given waits x y (inr among) = inr among
are_among Awaited.Pages given waits x y (inl among) = inl among
are_among Awaited.Pages given waits x y (inr among) = inr (among_others given waits.pages x y among)

pub fewer_are_acyclic : (which : Awaited) (given : Whose) (waits : Waits) → IsAcyclic waits → IsAcyclic (released which given waits)
fewer_are_acyclic which given waits was = acyclic_fewer (released which given waits) waits (are_among which given waits) was

-- nor do those for objects alone
objects_are_among : (waits : Waits) → AreAmong (for_objects waits) waits
objects_are_among waits x y (inl among) = inl among
objects_are_among waits x y (inr none) = absurd none

pub objects_are_acyclic : (waits : Waits) → IsAcyclic waits → IsAcyclic (for_objects waits)
objects_are_acyclic waits was = acyclic_fewer (for_objects waits) waits (objects_are_among waits) was

-- **Nobody waits in a cycle where nobody waits.**
pub nobody_is_acyclic : IsAcyclic nobody_waits
nobody_is_acyclic = record {
  functional = λ x y z for other. elim for [ inl none ↦ absurd none | inr none ↦ absurd none ];
  no_cycle = λ x y for back. elim for [ inl none ↦ none | inr none ↦ none ];
}
