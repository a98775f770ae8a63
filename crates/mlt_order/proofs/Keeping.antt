-- Each entry that may come keeps the state commit-order serializable, and so does each history.
use Rattle.std.proofs.Common.{◌≡◌, ◌≢◌, ℕ, List, [], ◌∷◌, ◌++◌, refl, sym, subst, ap, ◌∙◌, inl, inr, Contains}
use Rattle.std.proofs.lemmas.List.Elements.{Contains-append_left, Contains-append_right, Contains-append_cases}
use Rattle.mlt_order.{specs.Runs.Runs, specs.Runs.IsFunctional, specs.Runs.IsInjective, specs.Interleavings.all_items, specs.Interleavings.IsInterleaving, specs.Tables.table_with, specs.Tables.Gains, specs.Tables.IsEmptied, specs.Histories.Stage.Running, specs.Histories.Stage.Ended, proofs.RunLemmas.serial_push, proofs.RunLemmas.contains-nothing, proofs.Tables.at_each, proofs.Tables.changed, proofs.Parts.without, proofs.Mixing.interleaving_push, proofs.Mixing.interleaving_pop, proofs.Mixing.interleaving_without, proofs.Mixing.interleaving_of_nothing, proofs.Growing.but_last-push}
use Rattle.mlt_order.specs.Histories.{Entry, Lists, no_lists, but_last, ended, after_entry, after_entries, MayCome, MayFollow, IsCommitOrderSerializable}
use Rattle.mlt_order.specs.Histories.Entry.{Begun, Did, TookBack, Committed, Closed}
use Rattle.mlt_order.proofs.UndoLaws.{begin, done, undo, undo_goes, commit}

module _ {P : Type 0} where
  -- what is open is held
  abbrev pub Covers : Lists P → Type 0
  Covers lists = (j : ℕ) (q : P) → Contains (lists.transcripts j) q → Contains (lists.held j) q

  -- of a number that is not running nothing is open or held
  abbrev pub OnlyRunning : Lists P → Type 0
  OnlyRunning lists = (j : ℕ) → lists.stage j ≢ Running → (lists.transcripts j ≡ []) × (lists.held j ≡ [])

  covers_did : (lists : Lists P) (i : ℕ) (p : P) → Covers lists → Covers (after_entry lists (Did i p))
  covers_did lists i p covers =
      let new = after_entry lists (Did i p) in
      let open_now = changed lists.transcripts i (lists.transcripts i ++ p ∷ []) in
      let held_now = changed lists.held i (lists.held i ++ p ∷ []) in
      at_each i (λ j. (q : P) → Contains (new.transcripts j) q → Contains (new.held j) q)
      (λ q h.
      let F : List P → Type 0 = λ l. Contains l q in
      subst F (sym held_now.0) (elim (Contains-append_cases (lists.transcripts i) (p ∷ []) q (subst F open_now.0 h)) [
        | inl a ↦ Contains-append_left (lists.held i) (p ∷ []) q (covers i q a)
        | inr z ↦ Contains-append_right (lists.held i) (p ∷ []) q z
      ]))
      (λ j n q h. let F : List P → Type 0 = λ l. Contains l q in subst F (sym (held_now.1 j n)) (covers j q (subst F (open_now.1 j n) h)))

  covers_took_back : (lists : Lists P) (i : ℕ) (rest : List P) (p : P) → lists.transcripts i ≡ rest ++ p ∷ [] → Covers lists → Covers (after_entry lists (TookBack i))
  covers_took_back lists i rest p last covers =
      let new = after_entry lists (TookBack i) in
      let open_now = changed lists.transcripts i (but_last (lists.transcripts i)) in
      let was : but_last (lists.transcripts i) ≡ rest = ap but_last last ∙ but_last-push rest p in
      at_each i (λ j. (q : P) → Contains (new.transcripts j) q → Contains (new.held j) q)
      (λ q h. let F : List P → Type 0 = λ l. Contains l q in covers i q (subst F (sym last) (Contains-append_left rest (p ∷ []) q (subst F (open_now.0 ∙ was) h))))
      (λ j n q h. let F : List P → Type 0 = λ l. Contains l q in covers j q (subst F (open_now.1 j n) h))

  covers_ended : (lists : Lists P) (i : ℕ) → Covers lists → Covers (ended lists i)
  covers_ended lists i covers =
      let new = ended lists i in
      let open_now = changed lists.transcripts i [] in
      let held_now = changed lists.held i [] in
      at_each i (λ j. (q : P) → Contains (new.transcripts j) q → Contains (new.held j) q)
      (λ q h. let F : List P → Type 0 = λ l. Contains l q in absurd (contains-nothing q (subst F open_now.0 h)))
      (λ j n q h. let F : List P → Type 0 = λ l. Contains l q in subst F (sym (held_now.1 j n)) (covers j q (subst F (open_now.1 j n) h)))

  running_begun : (lists : Lists P) (i : ℕ) → OnlyRunning lists → OnlyRunning (after_entry lists (Begun i))
  running_begun lists i only =
      let stage_now = changed lists.stage i Running in
      at_each i (λ j. table_with lists.stage i Running j ≢ Running → (lists.transcripts j ≡ []) × (lists.held j ≡ []))
      (λ n. absurd (n stage_now.0)) (λ j n h. only j (λ e. h (stage_now.1 j n ∙ e)))

  -- under i, which is running, lists change
  running_changed : (lists : Lists P) (i : ℕ) (open_list held_list : List P) → lists.stage i ≡ Running → OnlyRunning lists →
      OnlyRunning (record lists { transcripts = table_with lists.transcripts i open_list; held = table_with lists.held i held_list })
  running_changed lists i open_list held_list running only =
      let open_now = changed lists.transcripts i open_list in
      let held_now = changed lists.held i held_list in
      at_each i (λ j. lists.stage j ≢ Running → (table_with lists.transcripts i open_list j ≡ []) × (table_with lists.held i held_list j ≡ []))
      (λ h. absurd (h running))
      (λ j n h. let k = only j h in (open_now.1 j n ∙ k.0, held_now.1 j n ∙ k.1))

  running_took_back : (lists : Lists P) (i : ℕ) → OnlyRunning lists → OnlyRunning (after_entry lists (TookBack i))
  running_took_back lists i only =
      let open_now = changed lists.transcripts i (but_last (lists.transcripts i)) in
      at_each i (λ j. lists.stage j ≢ Running → (table_with lists.transcripts i (but_last (lists.transcripts i)) j ≡ []) × (lists.held j ≡ []))
      (λ h. let k = only i h in (open_now.0 ∙ ap but_last k.0, k.1))
      (λ j n h. let k = only j h in (open_now.1 j n ∙ k.0, k.1))

  running_ended : (lists : Lists P) (i : ℕ) → OnlyRunning lists → OnlyRunning (ended lists i)
  running_ended lists i only =
      let new = ended lists i in
      let stage_now = changed lists.stage i Ended in
      let open_now = changed lists.transcripts i [] in
      let held_now = changed lists.held i [] in
      at_each i (λ j. new.stage j ≢ Running → (new.transcripts j ≡ []) × (new.held j ≡ []))
      (λ h. (open_now.0, held_now.0))
      (λ j n h. let k = only j (λ e. h (stage_now.1 j n ∙ e)) in (open_now.1 j n ∙ k.0, held_now.1 j n ∙ k.1))

module _ {S P : Type 0} (step : S → P → S → Type 0) (start : S) where
  -- what each entry keeps
  pub record Kept (lists : Lists P) (s : S) : Type 0 where
    pub serializable : IsCommitOrderSerializable step start lists s
    pub covers : Covers lists
    pub only : OnlyRunning lists
    pub mixed : (m : List (ℕ × P)) × IsInterleaving lists.transcripts m

  kept_begun : (lists : Lists P) (s : S) (i : ℕ) → Kept lists s → Kept (after_entry lists (Begun i)) s
  kept_begun lists s i k = record { serializable = k.serializable; covers = k.covers; only = running_begun lists i k.only; mixed = k.mixed }

  kept_did : (lists : Lists P) (s t : S) (i : ℕ) (p : P) → MayCome step lists s (Did i p) t → Kept lists s → Kept (after_entry lists (Did i p)) t
  kept_did lists s t i p h k =
      let new = lists.transcripts i ++ p ∷ [] in
      let g = table_with lists.transcripts i new in
      let gains : Gains lists.transcripts g i p = changed lists.transcripts i new in
      let b = k.serializable in
      record {
        serializable = (b.0, b.1, done step b.0 s t i p lists.transcripts g (λ j q n here. h.1 j q n (k.covers j q here)) gains h.2 b.2);
        covers = covers_did lists i p k.covers;
        only = running_changed lists i new (lists.held i ++ p ∷ []) h.0 k.only;
        mixed = (k.mixed.0 ++ (i, p) ∷ [], interleaving_push i p lists.transcripts g gains k.mixed.0 k.mixed.1);
      }

  kept_took_back : IsInjective step → (lists : Lists P) (s t : S) (i : ℕ) → MayCome step lists s (TookBack i) t → Kept lists s → Kept (after_entry lists (TookBack i)) t
  kept_took_back inj lists s t i h k =
      let rest = but_last (lists.transcripts i) in
      let g = table_with lists.transcripts i rest in
      let c = changed lists.transcripts i rest in
      let was : rest ≡ h.0 = ap but_last h.2 ∙ but_last-push h.0 h.1 in
      let gains : Gains g lists.transcripts i h.1 = (h.2 ∙ ap (λ z. z ++ h.1 ∷ []) (sym (c.0 ∙ was)), λ j n. sym (c.1 j n)) in
      let b = k.serializable in
      let popped = interleaving_pop i h.1 g lists.transcripts gains k.mixed.0 k.mixed.1 in
      record {
        serializable = (b.0, b.1, undo step inj b.0 s t i h.1 lists.transcripts g gains h.3 b.2);
        covers = covers_took_back lists i h.0 h.1 h.2 k.covers;
        only = running_took_back lists i k.only;
        mixed = (popped.0.0 ++ popped.0.1, popped.1);
      }

  kept_committed : IsFunctional step → (lists : Lists P) (s : S) (i : ℕ) → Kept lists s → Kept (after_entry lists (Committed i)) s
  kept_committed fun lists s i k =
      let g = table_with lists.transcripts i [] in
      let emptied : IsEmptied lists.transcripts g i = changed lists.transcripts i [] in
      let m = without i k.mixed.0 in
      let mixes = interleaving_without i lists.transcripts g emptied k.mixed.0 k.mixed.1 in
      let b = k.serializable in
      let r = commit step fun b.0 s i lists.transcripts g emptied m mixes b.2 in
      record {
        serializable = (r.0, serial_push step lists.committed (lists.transcripts i) start b.0 r.0 b.1 r.1, r.2);
        covers = covers_ended lists i k.covers;
        only = running_ended lists i k.only;
        mixed = (m, mixes);
      }

  kept_closed : (lists : Lists P) (s : S) (i : ℕ) → lists.transcripts i ≡ [] → Kept lists s → Kept (after_entry lists (Closed i)) s
  kept_closed lists s i none k =
      let g = table_with lists.transcripts i [] in
      let emptied : IsEmptied lists.transcripts g i = changed lists.transcripts i [] in
      let b = k.serializable in
      record {
        serializable = (b.0, b.1, begin step b.0 s i lists.transcripts g none emptied b.2);
        covers = covers_ended lists i k.covers;
        only = running_ended lists i k.only;
        mixed = (without i k.mixed.0, interleaving_without i lists.transcripts g emptied k.mixed.0 k.mixed.1);
      }

  kept : IsFunctional step → IsInjective step → (lists : Lists P) (s : S) (entry : Entry P) (t : S) → MayCome step lists s entry t → Kept lists s → Kept (after_entry lists entry) t
  kept fun inj lists s (Begun i) t h k = subst (Kept (after_entry lists (Begun i))) h.1 (kept_begun lists s i k)
  kept fun inj lists s (Did i p) t h k = kept_did lists s t i p h k
  kept fun inj lists s (TookBack i) t h k = kept_took_back inj lists s t i h k
  kept fun inj lists s (Committed i) t h k = subst (Kept (after_entry lists (Committed i))) h.1 (kept_committed fun lists s i k)
  kept fun inj lists s (Closed i) t h k = subst (Kept (after_entry lists (Closed i))) h.2 (kept_closed lists s i h.1 k)

  kept_all : IsFunctional step → IsInjective step → (entries : List (Entry P)) (lists : Lists P) (s t : S) → MayFollow step lists s entries t → Kept lists s → Kept (after_entries lists entries) t
  kept_all fun inj [] lists s t r k = subst (Kept lists) r k
  kept_all fun inj (e ∷ entries) lists s t r k = kept_all fun inj entries (after_entry lists e) r.0 t r.2 (kept fun inj lists s e r.0 r.1 k)

  at_start : Kept no_lists start
  at_start = record {
    serializable = (
      start,
      refl,
      λ m mixes. let F : List (ℕ × P) → Type 0 = λ z. Runs step start (all_items z) start in subst F (sym (interleaving_of_nothing m mixes)) refl,
    );
    covers = λ j q h. h;
    only = λ j h. (refl, refl);
    mixed = ([], λ i. refl);
  }

  pub kept_by_history : IsFunctional step → IsInjective step → (history : List (Entry P)) (s : S) → MayFollow step no_lists start history s → Kept (after_entries no_lists history) s
  kept_by_history fun inj history s r = kept_all fun inj history no_lists start s r at_start

  -- the last item under a number can be taken back, to one state
  pub last_goes : IsFunctional step → IsInjective step → (history : List (Entry P)) (s : S) (i : ℕ) (rest : List P) (item : P) →
      MayFollow step no_lists start history s → (after_entries no_lists history).transcripts i ≡ rest ++ item ∷ [] →
      (earlier : S) × step earlier item s × ((other : S) → step other item s → other ≡ earlier)
  last_goes fun inj history s i rest item h last =
      let k = kept_by_history fun inj history s h in
      let f = (after_entries no_lists history).transcripts in
      let new = changed f i rest in
      undo_goes step inj k.serializable.0 s i item f (table_with f i rest)
      (last ∙ ap (λ z. z ++ item ∷ []) (sym new.0), λ j n. sym (new.1 j n)) k.mixed.0 k.mixed.1 k.serializable.2
