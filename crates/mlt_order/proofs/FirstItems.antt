-- An interleaving is what one gets by taking, again and again, the first item that is left of some list.
use Rattle.std.proofs.Common.{◌≡◌, ◌↔◌, ℕ, List, [], ◌∷◌, refl, sym, ap, ◌∙◌}
use Rattle.mlt_order.{specs.Interleavings.items_of, specs.Interleavings.IsInterleaving, specs.Interleavings.TakesFirstItems, specs.Tables.table_with, proofs.Tables.at_each, proofs.Tables.changed, proofs.Parts.items_of-same, proofs.Parts.items_of-other}

module _ {P : Type 0} where
  taken : (m : List (ℕ × P)) (f : ℕ → List P) → IsInterleaving f m → TakesFirstItems f m
  taken [] f mixes = λ i. sym (mixes i)
  taken (x ∷ m) f mixes =
      let rest = items_of x.0 m in
      let c = changed f x.0 rest in
      let left : IsInterleaving (table_with f x.0 rest) m = at_each x.0 (λ j. items_of j m ≡ table_with f x.0 rest j) (sym c.0)
      (λ j n. sym (items_of-other j x m (λ e. n (sym e))) ∙ mixes j ∙ sym (c.1 j n)) in
      (rest, sym (mixes x.0) ∙ items_of-same x.0 x m refl, taken m (table_with f x.0 rest) left)

  mixed : (m : List (ℕ × P)) (f : ℕ → List P) → TakesFirstItems f m → IsInterleaving f m
  mixed [] f h = λ i. sym (h i)
  mixed (x ∷ m) f h =
      let g = table_with f x.0 h.0 in
      let c = changed f x.0 h.0 in
      let left : IsInterleaving g m = mixed m g h.2 in
      at_each x.0 (λ j. items_of j (x ∷ m) ≡ f j)
      (items_of-same x.0 x m refl ∙ ap (λ l. x.1 ∷ l) (left x.0 ∙ c.0) ∙ sym h.1)
      (λ j n. items_of-other j x m (λ e. n (sym e)) ∙ left j ∙ c.1 j n)

  pub interleavings_take_first_items : (f : ℕ → List P) (m : List (ℕ × P)) → IsInterleaving f m ↔ TakesFirstItems f m
  interleavings_take_first_items f m = (taken m f, mixed m f)
