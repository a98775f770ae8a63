-- Interleavings made from others, and of finitely many lists.
use Rattle.std.proofs.Common.{◌≡◌, ◌≢◌, ◌↔◌, ℕ, zero, suc, ◌+◌, ◌≤◌, List, [], ◌∷◌, ◌++◌, refl, sym, ap, ◌∙◌, arith, append-nil}
use Rattle.mlt_order.{specs.Interleavings.items_of, specs.Interleavings.IsInterleaving, specs.Tables.Gains, specs.Tables.IsEmptied, specs.Tables.AreFinitelyMany, specs.Tables.table_with, proofs.Tables.at_each, proofs.Tables.changed}
use Rattle.mlt_order.proofs.Parts.{numbered, without, Last, last_of, items_of-same, items_of-other, items_of-append, items_of-numbered_same, items_of-numbered_other, items_of-without_same, items_of-without_other}

above : (bound j : ℕ) → j ≢ bound → bound ≤ j → suc bound ≤ j
above bound j n h = omega arith

module _ {P : Type 0} where
  -- one more item at the end of the list under i
  pub interleaving_push : (i : ℕ) (p : P) (f g : ℕ → List P) → Gains f g i p → (m : List (ℕ × P)) → IsInterleaving f m → IsInterleaving g (m ++ (i, p) ∷ [])
  interleaving_push i p f g gains m mixes =
      at_each i (λ j. items_of j (m ++ (i, p) ∷ []) ≡ g j)
      (items_of-append i m ((i, p) ∷ []) ∙ ap (λ l. items_of i m ++ l) (items_of-same i (i, p) [] refl) ∙ ap (λ l. l ++ p ∷ []) (mixes i) ∙ sym gains.0)
      (λ j n.
      items_of-append j m ((i, p) ∷ []) ∙ ap (λ l. items_of j m ++ l) (items_of-other j (i, p) [] (λ e. n (sym e))) ∙
      append-nil (items_of j m) ∙ mixes j ∙ sym (gains.1 j n))

  -- the list under i before all others
  pub interleaving_before : (i : ℕ) (f g : ℕ → List P) → IsEmptied f g i → (m : List (ℕ × P)) → IsInterleaving g m → IsInterleaving f (numbered i (f i) ++ m)
  interleaving_before i f g emptied m mixes =
      at_each i (λ j. items_of j (numbered i (f i) ++ m) ≡ f j)
      (items_of-append i (numbered i (f i)) m ∙ ap (λ l. l ++ items_of i m) (items_of-numbered_same i (f i)) ∙ ap (λ l. f i ++ l) (mixes i ∙ emptied.0) ∙
      append-nil (f i))
      (λ j n.
      items_of-append j (numbered i (f i)) m ∙ ap (λ l. l ++ items_of j m) (items_of-numbered_other i j (f i) n) ∙ mixes j ∙ emptied.1 j n)

  -- the item that stands last under i is taken out
  pub interleaving_pop : (i : ℕ) (p : P) (f g : ℕ → List P) → Gains f g i p → (m : List (ℕ × P)) → IsInterleaving g m →
      (l : Last i m (f i) p) × IsInterleaving f (l.0 ++ l.1)
  interleaving_pop i p f g gains m mixes =
      let l : Last i m (f i) p = last_of i m p (f i) (mixes i ∙ gains.0) in (
        l,
        at_each i (λ j. items_of j (l.0 ++ l.1) ≡ f j)
            (items_of-append i l.0 l.1 ∙ ap (λ z. items_of i l.0 ++ z) l.4 ∙ append-nil (items_of i l.0) ∙ l.3)
            (λ j n.
            items_of-append j l.0 l.1 ∙ ap (λ z. items_of j l.0 ++ z) (sym (items_of-other j (i, p) l.1 (λ e. n (sym e)))) ∙
            sym (ap (items_of j) l.2 ∙ items_of-append j l.0 ((i, p) ∷ l.1)) ∙ mixes j ∙ gains.1 j n),
      )

  -- all items of i are taken out
  pub interleaving_without : (i : ℕ) (f g : ℕ → List P) → IsEmptied f g i → (m : List (ℕ × P)) → IsInterleaving f m → IsInterleaving g (without i m)
  interleaving_without i f g emptied m mixes =
      at_each i (λ j. items_of j (without i m) ≡ g j) (items_of-without_same i m ∙ sym emptied.0)
      (λ j n. items_of-without_other i j m n ∙ mixes j ∙ sym (emptied.1 j n))

  pub interleaving_of_nothing : (m : List (ℕ × P)) → IsInterleaving (λ i. []) m → m ≡ []
  interleaving_of_nothing [] mixes = refl
  interleaving_of_nothing (x ∷ m) mixes = absurd (let e = sym (items_of-same x.0 x m refl) ∙ mixes x.0 in cc)

  -- the lists below a bound, one after another
  pub mix_below : (bound : ℕ) (lists : ℕ → List P) → ((i : ℕ) → bound ≤ i → lists i ≡ []) → (m : List (ℕ × P)) × IsInterleaving lists m
  mix_below zero lists none = ([], λ i. sym (none i (omega arith)))
  mix_below (suc bound) lists none =
      let fewer = table_with lists bound [] in
      let c = changed lists bound [] in
      let rest = mix_below bound fewer
      (at_each bound (λ j. bound ≤ j → fewer j ≡ []) (λ h. c.0) (λ j n h. c.1 j n ∙ none j (above bound j n h))) in
      (numbered bound (lists bound) ++ rest.0, interleaving_before bound lists fewer c rest.0 rest.1)

  -- the numbers of a list of items lie below some bound
  pub numbers_are_bounded : (m : List (ℕ × P)) → (bound : ℕ) × ((i : ℕ) → bound ≤ i → items_of i m ≡ [])
  numbers_are_bounded [] = (0, λ i h. refl)
  numbers_are_bounded (x ∷ m) =
      let rest = numbers_are_bounded m in (
        x.0 + 1 + rest.0,
        λ i h.
            let n : x.0 ≢ i = omega arith in
            items_of-other i x m n ∙ rest.1 i (omega arith),
      )

  pub finitely_many_mix : (lists : ℕ → List P) → AreFinitelyMany lists ↔ ((m : List (ℕ × P)) × IsInterleaving lists m)
  finitely_many_mix lists = (
    λ finite. mix_below finite.0 lists finite.1,
    λ mixed. let bounded = numbers_are_bounded mixed.0 in (bounded.0, λ i h. sym (mixed.1 i) ∙ bounded.1 i h),
  )
