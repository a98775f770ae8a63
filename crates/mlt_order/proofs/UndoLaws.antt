-- What begin, done, undo and commit do to the base that is left when open transcripts are undone.
-- f and g give the open transcripts before and after; i is the transaction that acts.
use Rattle.std.proofs.Common.{◌≡◌, ◌≢◌, ℕ, List, [], ◌∷◌, ◌++◌, sym, subst, ap, ◌∙◌, inl, inr, Contains}
use Rattle.std.proofs.lemmas.{Bool.cases_eq, List.Elements.Contains-append_right}
use Rattle.mlt_order.{specs.Runs.Runs, specs.Runs.IsFunctional, specs.Runs.IsInjective, specs.Runs.RightCommutesBackward, specs.Interleavings.items_of, specs.Interleavings.all_items, specs.Interleavings.IsInterleaving, specs.Interleavings.UndoneTo, specs.Tables.Gains, specs.Tables.IsEmptied, proofs.Tables.at_each, proofs.Mixing.interleaving_push, proofs.Mixing.interleaving_pop, proofs.Mixing.interleaving_before}
use Rattle.mlt_order.proofs.RunLemmas.{runs_append, runs_split, runs_to_one, runs_from_one, to_front, contains-nothing}
use Rattle.mlt_order.proofs.Parts.{numbered, Last, in_all_items, items_of-append, items_of-other, all_items-append, all_items-numbered}

module _ {S P : Type 0} (step : S → P → S → Type 0) where
  -- only what stands under each number counts
  pub undone_to_same : (b s : S) (f g : ℕ → List P) → ((j : ℕ) → g j ≡ f j) → UndoneTo step b f s → UndoneTo step b g s
  undone_to_same b s f g same back m mixes = back m (λ j. mixes j ∙ same j)

  pub begin : (b s : S) (i : ℕ) (f g : ℕ → List P) → f i ≡ [] → IsEmptied f g i → UndoneTo step b f s → UndoneTo step b g s
  begin b s i f g none emptied = undone_to_same b s f g (at_each i (λ j. g j ≡ f j) (emptied.0 ∙ sym none) emptied.1)

  -- what stands behind the last item of i is of others
  commutes : (i : ℕ) (p : P) (f g : ℕ → List P) → ((j : ℕ) (q : P) → j ≢ i → Contains (f j) q → RightCommutesBackward step q p) → Gains f g i p →
      (m : List (ℕ × P)) → IsInterleaving g m → (l : Last i m (f i) p) → (q : P) → Contains (all_items l.1) q → RightCommutesBackward step q p
  commutes i p f g may gains m mixes l q k =
      let o = in_all_items l.1 q k in
      let F : List P → Type 0 = λ z. Contains z q in
      elim (cases_eq i o.0) [
        | inl e ↦
            let G : ℕ → Type 0 = λ z. Contains (items_of z l.1) q in
            absurd (contains-nothing q (subst F l.4 (subst G (sym e) o.1)))
        | inr n ↦
            let k : o.0 ≢ i = λ e. n (sym e) in
            let at : Contains (items_of o.0 ((i, p) ∷ l.1)) q = subst F (sym (items_of-other o.0 (i, p) l.1 n)) o.1 in
            let here : Contains (items_of o.0 l.0 ++ items_of o.0 ((i, p) ∷ l.1)) q = Contains-append_right (items_of o.0 l.0) (items_of o.0 ((i, p) ∷ l.1)) q at in
            let whole : items_of o.0 m ≡ items_of o.0 l.0 ++ items_of o.0 ((i, p) ∷ l.1) = ap (items_of o.0) l.2 ∙ items_of-append o.0 l.0 ((i, p) ∷ l.1) in
            may o.0 q k (subst F (sym whole ∙ mixes o.0 ∙ gains.1 o.0 k) here)
      ]

  pub done : (b s t : S) (i : ℕ) (p : P) (f g : ℕ → List P) → ((j : ℕ) (q : P) → j ≢ i → Contains (f j) q → RightCommutesBackward step q p) →
      Gains f g i p → step s p t → UndoneTo step b f s → UndoneTo step b g t
  done b s t i p f g may gains h back m mixes =
      let popped = interleaving_pop i p f g gains m mixes in
      let l = popped.0 in
      let run = back (l.0 ++ l.1) popped.1 in
      let parts = runs_split step (all_items l.0) (all_items l.1) b s (subst (λ z. Runs step b z s) (all_items-append l.0 l.1) run) in
      let moved = to_front step (all_items l.1) p parts.0 s t (commutes i p f g may gains m mixes l) parts.2 h in
      let all = runs_append step (all_items l.0) (p ∷ all_items l.1) b parts.0 t parts.1 moved in
      subst (λ z. Runs step b z t) (sym (ap all_items l.2 ∙ all_items-append l.0 ((i, p) ∷ l.1))) all

  -- whichever interleaving of the lists without the item is taken, the item stands behind it
  before_last : (b s : S) (i : ℕ) (p : P) (f g : ℕ → List P) → Gains g f i p → UndoneTo step b f s →
      (m : List (ℕ × P)) → IsInterleaving g m → (r : S) × Runs step b (all_items m) r × step r p s
  before_last b s i p f g gains back m mixes =
      let run = back (m ++ (i, p) ∷ []) (interleaving_push i p g f gains m mixes) in
      let parts = runs_split step (all_items m) (p ∷ []) b s (subst (λ z. Runs step b z s) (all_items-append m ((i, p) ∷ [])) run) in
      (parts.0, parts.1, subst (step parts.0 p) parts.2.2 parts.2.1)

  pub undo : IsInjective step → (b s r : S) (i : ℕ) (p : P) (f g : ℕ → List P) → Gains g f i p → step r p s → UndoneTo step b f s → UndoneTo step b g r
  undo inj b s r i p f g gains h back m mixes =
      let t = before_last b s i p f g gains back m mixes in
      subst (Runs step b (all_items m)) (inj t.0 r s p t.2 h) t.1

  pub undo_goes : IsInjective step → (b s : S) (i : ℕ) (p : P) (f g : ℕ → List P) → Gains g f i p → (m : List (ℕ × P)) → IsInterleaving f m →
      UndoneTo step b f s → (r : S) × step r p s × ((other : S) → step other p s → other ≡ r)
  undo_goes inj b s i p f g gains m mixes back =
      let popped = interleaving_pop i p g f gains m mixes in
      let t = before_last b s i p f g gains back (popped.0.0 ++ popped.0.1) popped.1 in
      (t.0, t.2, λ other h. inj other t.0 s p h t.2)

  pub commit : IsFunctional step → (b s : S) (i : ℕ) (f g : ℕ → List P) → IsEmptied f g i → (m : List (ℕ × P)) → IsInterleaving g m →
      UndoneTo step b f s → (c : S) × Runs step b (f i) c × UndoneTo step c g s
  commit fun b s i f g emptied m mixes back =
      let split : (m : List (ℕ × P)) → IsInterleaving g m → (c : S) × Runs step b (f i) c × Runs step c (all_items m) s = λ m mixes.
      let run = back (numbered i (f i) ++ m) (interleaving_before i f g emptied m mixes) in
      runs_split step (f i) (all_items m) b s (subst (λ z. Runs step b z s) (all_items-append (numbered i (f i)) m ∙ ap (λ z. z ++ all_items m) (all_items-numbered i (f i))) run) in
      let first = split m mixes in (
        first.0,
        first.1,
        λ n other.
            let again = split n other in
            let same : again.0 ≡ first.0 = runs_to_one step fun (f i) b again.0 first.0 again.1 first.1 in
            let F : S → Type 0 = λ z. Runs step z (all_items n) s in
            subst F same again.2,
      )

  -- at most one state fits
  pub one_base : IsInjective step → (a b s : S) (f : ℕ → List P) (m : List (ℕ × P)) → IsInterleaving f m → UndoneTo step a f s → UndoneTo step b f s → a ≡ b
  one_base inj a b s f m mixes x y = runs_from_one step inj (all_items m) a b s (x m mixes) (y m mixes)
