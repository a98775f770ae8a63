-- How far each number has come along a history, and what it holds.
use Rattle.std.proofs.Common.{◌≡◌, ◌≢◌, ◌↔◌, ℕ, List, [], ◌∷◌, ◌++◌, refl, sym, subst, ap, ◌∙◌, inl, inr, Contains, append_assoc, arith, slice_index_or, append-nil}
use Rattle.std.proofs.lemmas.{Bool.cases_eq, List.Elements.Contains-append_cases}
use Rattle.mlt_order.{specs.Interleavings.items_of, specs.Tables.table_with, specs.Histories.Stage.Fresh, specs.Histories.Stage.Running, specs.Histories.Stage.Ended, proofs.RunLemmas.contains-first, proofs.RunLemmas.contains-later, proofs.RunLemmas.contains-nothing, proofs.Parts.items_of-same, proofs.Parts.items_of-other, proofs.Tables.changed}
use Rattle.mlt_order.specs.Histories.{Entry, Stage, Lists, no_lists, after_entry, after_entries, MayCome, MayFollow, items_done}
use Rattle.mlt_order.specs.Histories.Entry.{Begun, Did, TookBack, Committed, Closed}

pub contains-one : {X : Type 0} (x y : X) → Contains (x ∷ []) y → x ≡ y
contains-one x y h =
    let first : h.0 ≡ 0 = omega (arith, h.1) in
    subst (λ k. slice_index_or (x ∷ []) k y ≡ y) first h.2

module _ {S P : Type 0} (step : S → P → S → Type 0) (i : ℕ) where
  -- under a number other than the one that changed
  elsewhere : (stage : ℕ → Stage) (k : ℕ) (new : Stage) (F : Stage → Type 0) → k ≢ i → F (stage i) → F (table_with stage k new i)
  elsewhere stage k new F n h = subst F (sym ((changed stage k new).1 i (λ e. n (sym e)))) h

  here : (stage : ℕ → Stage) (k : ℕ) (new : Stage) (F : Stage → Type 0) → k ≡ i → F new → F (table_with stage k new i)
  here stage k new F e h = let G : ℕ → Type 0 = λ z. F (table_with stage k new z) in subst G e (subst F (sym (changed stage k new).0) h)

  -- what is fresh stays so until it begins
  fresh_stays : (lists : Lists P) (s t : S) (e : Entry P) → MayCome step lists s e t → e ≢ Begun i → lists.stage i ≡ Fresh → (after_entry lists e).stage i ≡ Fresh
  fresh_stays lists s t (Begun k) h other fresh = elsewhere lists.stage k Running (λ v. v ≡ Fresh) (λ e. other (ap Begun e)) fresh
  fresh_stays lists s t (Did k p) h other fresh = fresh
  fresh_stays lists s t (TookBack k) h other fresh = fresh
  fresh_stays lists s t (Committed k) h other fresh = elsewhere lists.stage k Ended (λ v. v ≡ Fresh) (λ e. absurd (let f : Running ≡ Fresh = sym h.0 ∙ ap lists.stage e ∙ fresh in cc f)) fresh
  fresh_stays lists s t (Closed k) h other fresh = elsewhere lists.stage k Ended (λ v. v ≡ Fresh) (λ e. absurd (let f : Running ≡ Fresh = sym h.0 ∙ ap lists.stage e ∙ fresh in cc f)) fresh

  -- what is no longer fresh never is again
  begun_stays : (lists : Lists P) (s t : S) (e : Entry P) → MayCome step lists s e t → lists.stage i ≢ Fresh → (after_entry lists e).stage i ≢ Fresh
  begun_stays lists s t (Begun k) h begun = elim (cases_eq k i) [ inl e ↦ here lists.stage k Running (λ v. v ≢ Fresh) e (λ f. cc f) | inr n ↦ elsewhere lists.stage k Running (λ v. v ≢ Fresh) n begun ]
  begun_stays lists s t (Did k p) h begun = begun
  begun_stays lists s t (TookBack k) h begun = begun
  begun_stays lists s t (Committed k) h begun = elim (cases_eq k i) [ inl e ↦ here lists.stage k Ended (λ v. v ≢ Fresh) e (λ f. cc f) | inr n ↦ elsewhere lists.stage k Ended (λ v. v ≢ Fresh) n begun ]
  begun_stays lists s t (Closed k) h begun = elim (cases_eq k i) [ inl e ↦ here lists.stage k Ended (λ v. v ≢ Fresh) e (λ f. cc f) | inr n ↦ elsewhere lists.stage k Ended (λ v. v ≢ Fresh) n begun ]

  -- what has ended has ended for good
  ended_stays : (lists : Lists P) (s t : S) (e : Entry P) → MayCome step lists s e t → lists.stage i ≡ Ended → (after_entry lists e).stage i ≡ Ended
  ended_stays lists s t (Begun k) h ended = elsewhere lists.stage k Running (λ v. v ≡ Ended) (λ e. absurd (let f : Fresh ≡ Ended = sym h.0 ∙ ap lists.stage e ∙ ended in cc f)) ended
  ended_stays lists s t (Did k p) h ended = ended
  ended_stays lists s t (TookBack k) h ended = ended
  ended_stays lists s t (Committed k) h ended = elim (cases_eq k i) [ inl e ↦ here lists.stage k Ended (λ v. v ≡ Ended) e refl | inr n ↦ elsewhere lists.stage k Ended (λ v. v ≡ Ended) n ended ]
  ended_stays lists s t (Closed k) h ended = elim (cases_eq k i) [ inl e ↦ here lists.stage k Ended (λ v. v ≡ Ended) e refl | inr n ↦ elsewhere lists.stage k Ended (λ v. v ≡ Ended) n ended ]

  all_fresh : (es : List (Entry P)) (lists : Lists P) (s t : S) → MayFollow step lists s es t → (Contains es (Begun i) → ⊥) → lists.stage i ≡ Fresh → (after_entries lists es).stage i ≡ Fresh
  all_fresh [] lists s t r none fresh = fresh
  all_fresh (e ∷ es) lists s t r none fresh =
      let other : e ≢ Begun i = λ is. none (subst (λ x. Contains (e ∷ es) x) is (contains-first e es)) in
      all_fresh es (after_entry lists e) r.0 t r.2 (λ h. none (contains-later e (Begun i) es h)) (fresh_stays lists s r.0 e r.1 other fresh)

  all_begun : (es : List (Entry P)) (lists : Lists P) (s t : S) → MayFollow step lists s es t → lists.stage i ≢ Fresh → (after_entries lists es).stage i ≢ Fresh
  all_begun [] lists s t r begun = begun
  all_begun (e ∷ es) lists s t r begun = all_begun es (after_entry lists e) r.0 t r.2 (begun_stays lists s r.0 e r.1 begun)

  all_ended : (es : List (Entry P)) (lists : Lists P) (s t : S) → MayFollow step lists s es t → lists.stage i ≡ Ended → (after_entries lists es).stage i ≡ Ended
  all_ended [] lists s t r ended = ended
  all_ended (e ∷ es) lists s t r ended = all_ended es (after_entry lists e) r.0 t r.2 (ended_stays lists s r.0 e r.1 ended)

  begins : (es : List (Entry P)) (lists : Lists P) (s t : S) → MayFollow step lists s es t → Contains es (Begun i) → (after_entries lists es).stage i ≢ Fresh
  begins [] lists s t r h = absurd (contains-nothing (Begun i) h)
  begins (e ∷ es) lists s t r h =
      let next = begins es (after_entry lists e) r.0 t r.2 in
      elim (Contains-append_cases (e ∷ []) es (Begun i) h) [
        | inl first ↦
            let is : Begun i ≡ e = sym (contains-one e (Begun i) first) in
            let F : Entry P → Type 0 = λ x. (after_entry lists x).stage i ≢ Fresh in
            all_begun es (after_entry lists e) r.0 t r.2 (subst F is (here lists.stage i Running (λ v. v ≢ Fresh) refl (λ f. cc f)))
        | inr later ↦ next later
      ]

  pub fresh_until_begun : (history : List (Entry P)) (s t : S) → MayFollow step no_lists s history t → ((after_entries no_lists history).stage i ≡ Fresh) ↔ (Contains history (Begun i) → ⊥)
  fresh_until_begun history s t r = (λ fresh h. begins history no_lists s t r h fresh, λ none. all_fresh history no_lists s t r none refl)

  -- one entry adds to what is held just what it does
  held_after : (lists : Lists P) (s t : S) (e : Entry P) (es : List (Entry P)) → MayCome step lists s e t → (after_entry lists e).stage i ≢ Ended →
      (after_entry lists e).held i ++ items_of i (items_done es) ≡ lists.held i ++ items_of i (items_done (e ∷ es))
  held_after lists s t (Begun k) es h running = refl
  held_after lists s t (TookBack k) es h running = refl
  held_after lists s t (Did k p) es h running =
      let new = lists.held k ++ p ∷ [] in
      let rest = items_of i (items_done es) in
      elim (cases_eq k i) [
        | inl e ↦
            let F : ℕ → Type 0 = λ z. table_with lists.held k new z ≡ lists.held z ++ p ∷ [] in
            let now : table_with lists.held k new i ≡ lists.held i ++ p ∷ [] = subst F e (changed lists.held k new).0 in
            ap (λ l. l ++ rest) now ∙ append_assoc (lists.held i) (p ∷ []) rest ∙ ap (λ l. lists.held i ++ l) (sym (items_of-same i (k, p) (items_done es) e))
        | inr n ↦
            ap (λ l. l ++ rest) ((changed lists.held k new).1 i (λ e. n (sym e))) ∙ ap (λ l. lists.held i ++ l) (sym (items_of-other i (k, p) (items_done es) n))
      ]
  held_after lists s t (Committed k) es h running =
      elim (cases_eq k i) [
        | inl e ↦ absurd (running (here lists.stage k Ended (λ v. v ≡ Ended) e refl))
        | inr n ↦ ap (λ l. l ++ items_of i (items_done es)) ((changed lists.held k []).1 i (λ e. n (sym e)))
      ]
  held_after lists s t (Closed k) es h running =
      elim (cases_eq k i) [
        | inl e ↦ absurd (running (here lists.stage k Ended (λ v. v ≡ Ended) e refl))
        | inr n ↦ ap (λ l. l ++ items_of i (items_done es)) ((changed lists.held k []).1 i (λ e. n (sym e)))
      ]

  held_from : (es : List (Entry P)) (lists : Lists P) (s t : S) → MayFollow step lists s es t → (after_entries lists es).stage i ≡ Running →
      (after_entries lists es).held i ≡ lists.held i ++ items_of i (items_done es)
  held_from [] lists s t r running = sym (append-nil (lists.held i))
  held_from (e ∷ es) lists s t r running =
      let new = after_entry lists e in
      let not_ended : new.stage i ≢ Ended = λ ended. absurd (let f : Ended ≡ Running = sym (all_ended es new r.0 t r.2 ended) ∙ running in cc f) in
      held_from es new r.0 t r.2 running ∙ held_after lists s r.0 e es r.1 not_ended

  pub held_is_what_was_done : (history : List (Entry P)) (s t : S) → MayFollow step no_lists s history t → (after_entries no_lists history).stage i ≡ Running →
      (after_entries no_lists history).held i ≡ items_of i (items_done history)
  held_is_what_was_done history s t r running = held_from history no_lists s t r running
