-- Histories that grow at their end, and their fronts.
use Rattle.std.proofs.Common.{◌≡◌, List, [], ◌∷◌, ◌++◌, refl, sym, subst, ap, ◌∙◌}
use Rattle.mlt_order.specs.Runs.{IsFunctional, IsInjective}
use Rattle.mlt_order.specs.Histories.{Entry, Lists, but_last, after_entry, after_entries, MayCome, MayFollow}
use Rattle.mlt_order.specs.Histories.Entry.{Begun, Did, TookBack, Committed, Closed}

module _ {P : Type 0} where
  pub but_last-push : (l : List P) (p : P) → but_last (l ++ p ∷ []) ≡ l
  but_last-push [] p = refl
  but_last-push (x ∷ []) p = refl
  but_last-push (x ∷ y ∷ l) p = ap (λ z. x ∷ z) (but_last-push (y ∷ l) p)

  -- the last item of a list is one
  pub one_last : (l k : List P) (p q : P) → l ++ p ∷ [] ≡ k ++ q ∷ [] → p ≡ q
  one_last [] [] p q e = cc
  one_last [] (y ∷ []) p q e = absurd cc
  one_last [] (y ∷ z ∷ k) p q e = absurd cc
  one_last (x ∷ []) [] p q e = absurd cc
  one_last (x ∷ z ∷ l) [] p q e = absurd cc
  one_last (x ∷ l) (y ∷ k) p q e = one_last l k p q (let f : l ++ p ∷ [] ≡ k ++ q ∷ [] = cc in f)

  pub after_entries-push : (entries : List (Entry P)) (lists : Lists P) (entry : Entry P) → after_entries lists (entries ++ entry ∷ []) ≡ after_entry (after_entries lists entries) entry
  after_entries-push [] lists entry = refl
  after_entries-push (e ∷ entries) lists entry = after_entries-push entries (after_entry lists e) entry

module _ {S P : Type 0} (step : S → P → S → Type 0) where
  -- one more entry at the end
  pub follow_push : (entries : List (Entry P)) (lists : Lists P) (s t u : S) (entry : Entry P) →
      MayFollow step lists s entries t → MayCome step (after_entries lists entries) t entry u → MayFollow step lists s (entries ++ entry ∷ []) u
  follow_push [] lists s t u entry r h = let F : S → Type 0 = λ z. MayCome step lists z entry u in (u, subst F (sym r) h, refl)
  follow_push (e ∷ entries) lists s t u entry r h = (r.0, r.1, follow_push entries (after_entry lists e) r.0 t u entry r.2 h)

  pub follow_front : (entries later : List (Entry P)) (lists : Lists P) (s u : S) → MayFollow step lists s (entries ++ later) u → (t : S) × MayFollow step lists s entries t
  follow_front [] later lists s u r = (s, refl)
  follow_front (e ∷ entries) later lists s u r = let t = follow_front entries later (after_entry lists e) r.0 u r.2 in (t.0, (r.0, r.1, t.1))

  come_to_one : IsFunctional step → IsInjective step → (lists : Lists P) (s t u : S) (entry : Entry P) → MayCome step lists s entry t → MayCome step lists s entry u → t ≡ u
  come_to_one fun inj lists s t u (Begun i) h k = sym h.1 ∙ k.1
  come_to_one fun inj lists s t u (Did i p) h k = fun s t u p h.2 k.2
  come_to_one fun inj lists s t u (TookBack i) h k =
      let same : h.1 ≡ k.1 = one_last h.0 k.0 h.1 k.1 (sym h.2 ∙ k.2) in
      let F : P → Type 0 = λ p. step t p s in
      inj t u s k.1 (subst F same h.3) k.3
  come_to_one fun inj lists s t u (Committed i) h k = sym h.1 ∙ k.1
  come_to_one fun inj lists s t u (Closed i) h k = sym h.2 ∙ k.2

  pub follow_to_one : IsFunctional step → IsInjective step → (entries : List (Entry P)) (lists : Lists P) (s t u : S) →
      MayFollow step lists s entries t → MayFollow step lists s entries u → t ≡ u
  follow_to_one fun inj [] lists s t u r q = sym r ∙ q
  follow_to_one fun inj (e ∷ entries) lists s t u r q =
      let same : r.0 ≡ q.0 = come_to_one fun inj lists s r.0 q.0 e r.1 q.1 in
      let F : S → Type 0 = λ z. MayFollow step (after_entry lists e) z entries t in
      follow_to_one fun inj entries (after_entry lists e) q.0 t u (subst F same r.2) q.2
