-- Runs over two lists, and an item that moves to the front of a run.
use Rattle.std.proofs.Common.{◌≡◌, List, [], ◌∷◌, ◌++◌, refl, sym, subst, ◌∙◌, Contains, arith}
use Rattle.std.proofs.lemmas.List.Elements.{Contains-append_right}
use Rattle.mlt_order.specs.Runs.{Runs, IsSerialBase, IsFunctional, IsInjective, RightCommutesBackward}

module _ {P : Type 0} where
  pub contains-first : (x : P) (xs : List P) → Contains (x ∷ xs) x
  contains-first x xs = (0, omega arith, refl)

  pub contains-later : (x y : P) (xs : List P) → Contains xs y → Contains (x ∷ xs) y
  contains-later x y xs h = Contains-append_right (x ∷ []) xs y h

  pub contains-nothing : (x : P) → Contains [] x → ⊥
  contains-nothing x h = absurd (omega (arith, h.1))

module _ {S P : Type 0} (step : S → P → S → Type 0) where
  pub runs_append : (front back : List P) (b m s : S) → Runs step b front m → Runs step m back s → Runs step b (front ++ back) s
  runs_append [] back b m s e r = let F : S → Type 0 = λ x. Runs step x back s in subst F (sym e) r
  runs_append (p ∷ front) back b m s f r = (f.0, f.1, runs_append front back f.0 m s f.2 r)

  pub runs_split : (front back : List P) (b s : S) → Runs step b (front ++ back) s → (m : S) × Runs step b front m × Runs step m back s
  runs_split [] back b s r = (b, refl, r)
  runs_split (p ∷ front) back b s r = let t = runs_split front back r.0 s r.2 in (t.0, (r.0, r.1, t.1), t.2)

  pub runs_to_one : IsFunctional step → (items : List P) (b s t : S) → Runs step b items s → Runs step b items t → s ≡ t
  runs_to_one fun [] b s t e f = sym e ∙ f
  runs_to_one fun (p ∷ items) b s t e f =
      let same : e.0 ≡ f.0 = fun b e.0 f.0 p e.1 f.1 in
      let F : S → Type 0 = λ x. Runs step x items s in
      runs_to_one fun items f.0 s t (subst F same e.2) f.2

  pub runs_from_one : IsInjective step → (items : List P) (b c s : S) → Runs step b items s → Runs step c items s → b ≡ c
  runs_from_one inj [] b c s e f = e ∙ sym f
  runs_from_one inj (p ∷ items) b c s e f =
      let same : e.0 ≡ f.0 = runs_from_one inj items e.0 f.0 s e.2 f.2 in
      inj b c f.0 p (subst (step b p) same e.1) f.1

  -- an item that right commutes backward with each item of a run goes to the front of it
  pub to_front : (items : List P) (p : P) (b s t : S) → ((q : P) → Contains items q → RightCommutesBackward step q p) → Runs step b items s → step s p t → Runs step b (p ∷ items) t
  to_front [] p b s t may e h = let F : S → Type 0 = λ x. step x p t in (t, subst F (sym e) h, refl)
  to_front (q ∷ items) p b s t may r h =
      let rest : Runs step r.0 (p ∷ items) t = to_front items p r.0 s t (λ x i. may x (contains-later q x items i)) r.2 h in
      let over : (n : S) × step b p n × step n q rest.0 = may q (contains-first q items) b r.0 rest.0 r.1 rest.1 in
      (over.0, over.1, (rest.0, over.2, rest.2))

  pub serial_push : (transcripts : List (List P)) (last : List P) (b m s : S) → IsSerialBase step b transcripts m → Runs step m last s → IsSerialBase step b (transcripts ++ last ∷ []) s
  serial_push [] last b m s e r = let F : S → Type 0 = λ x. Runs step x last s in (s, subst F (sym e) r, refl)
  serial_push (t ∷ transcripts) last b m s f r = (f.0, f.1, serial_push transcripts last f.0 m s f.2 r)

  pub serial_to_one : IsFunctional step → (transcripts : List (List P)) (b s t : S) → IsSerialBase step b transcripts s → IsSerialBase step b transcripts t → s ≡ t
  serial_to_one fun [] b s t e f = sym e ∙ f
  serial_to_one fun (u ∷ transcripts) b s t e f =
      let same : e.0 ≡ f.0 = runs_to_one fun u b e.0 f.0 e.1 f.1 in
      let F : S → Type 0 = λ x. IsSerialBase step x transcripts s in
      serial_to_one fun transcripts f.0 s t (subst F same e.2) f.2
