-- Held operations, by their transactions
use Rattle.std.proofs.Common.{◌≡◌, ◌≢◌, ℕ, Bool, true, false, List, [], ◌∷◌, ◌++◌, refl, sym, ap, subst, ◌∙◌, inl, inr, arith, Contains}
use Rattle.mlt_manager_invariant.proofs.Names.{cases_eq, Contains-append_right, ObjOp, ObjReply, items_of, clashes, Held, HoldsClash}
use Rattle.std.proofs.lemmas.List.Elements.{Contains-append_cases}
use Rattle.mlt_order.proofs.{RunLemmas.contains-nothing, Parts.items_of-append, Parts.items_of-other, Parts.items_of-same, Stages.contains-one}

first_item : {A : Type 0} (e x : A) (es : List A) → e ≡ x → Contains (e ∷ es) x
first_item e x es is = (0, omega arith, is)

-- what stands under a number is in the list, under that number
pub in_list : (j : ℕ) (held : List Held) (x : ObjOp × ObjReply) → Contains (items_of j held) x → Contains held (j, x)
in_list j [] x h = absurd (contains-nothing x h)
in_list j (e ∷ held) x h =
    elim (cases_eq e.0 j) [
      | inl same ↦
          elim (Contains-append_cases (e.1 ∷ []) (items_of j held) x (subst (λ l. Contains l x) (items_of-same j e held same) h)) [
            | inl here ↦ first_item e (j, x) held (λ i. (same i, contains-one e.1 x here i))
            | inr later ↦ Contains-append_right (e ∷ []) held (j, x) (in_list j held x later)
          ]
      | inr differ ↦ Contains-append_right (e ∷ []) held (j, x) (in_list j held x (subst (λ l. Contains l x) (items_of-other j e held differ) h))
    ]

-- who finds no clash clashes with nothing that others hold
pub nothing_clashes : (i j : ℕ) (held : List Held) (requested earlier : ObjOp × ObjReply) → ((holder : ℕ) → HoldsClash held i requested holder → ⊥) → j ≢ i → Contains (items_of j held) earlier → clashes earlier requested ≡ false
nothing_clashes i j held requested earlier free ne here = no_clash (clashes earlier requested) refl
  where
    no_clash : (b : Bool) → clashes earlier requested ≡ b → b ≡ false
    no_clash false is = refl
    no_clash true is = absurd (free j (ne, (earlier, in_list j held earlier here, is)))

-- one more grant
pub granted_here : (i : ℕ) (held : List Held) (x : ObjOp × ObjReply) → items_of i (held ++ (i, x) ∷ []) ≡ items_of i held ++ x ∷ []
granted_here i held x = items_of-append i held ((i, x) ∷ []) ∙ ap (λ l. items_of i held ++ l) (items_of-same i (i, x) [] refl)

pub granted_elsewhere : (i j : ℕ) (held : List Held) (x : ObjOp × ObjReply) → j ≢ i → items_of j (held ++ (i, x) ∷ []) ≡ items_of j held
granted_elsewhere i j held x ne = items_of-append j held ((i, x) ∷ []) ∙ ap (λ l. items_of j held ++ l) (items_of-other j (i, x) [] (λ same. ne (sym same))) ∙ nothing_more (items_of j held)
  where
    nothing_more : {A : Type 0} (xs : List A) → xs ++ [] ≡ xs
    nothing_more [] = refl
    nothing_more (y ∷ ys) = ap (λ l. y ∷ l) (nothing_more ys)
