-- What a change of one slot leaves of each key and open transaction
use Rattle.std.proofs.Common.{ℕ, ◌≡◌, ◌<◌, Bool, false, length, Option, Some, sym, ◌∙◌, inl, inr, ◌⊎◌}
use Rattle.mlt_hash_ghosts.proofs.Names.{Slot, Live, Ghost, Page, SetsOneSlot, slot_at, HasForm, HasRecord, buckets_of, IsGhostAt, IsInStep, Presence, Added, Removed}
use Rattle.mlt_hash_ghosts.proofs.Slots.{ghost_home, live_once, slot_cases, slot_here, slot_was, slot_stays}

module _ (bits : ℕ → ℕ) (pages pages' : ℕ → Option Page) (root n i : ℕ) (s : Slot) (form : HasForm bits pages root) (form' : HasForm bits pages' root) (sets : SetsOneSlot (buckets_of pages) (buckets_of pages') n i s) (within : i < length (buckets_of pages n).slots) where
  pub here : slot_at (buckets_of pages') n i ≡ s
  here = slot_here (buckets_of pages) (buckets_of pages') n i s sets within

  cases : (m j : ℕ) → ((m ≡ n) × (j ≡ i)) ⊎ ((m ≡ n → j ≡ i → ⊥) × (slot_at (buckets_of pages') m j ≡ slot_at (buckets_of pages) m j))
  cases = slot_cases (buckets_of pages) (buckets_of pages') n i s sets within

  was : (m j : ℕ) (t : Slot) → slot_at (buckets_of pages') m j ≡ t → (s ≡ t → ⊥) → (m ≡ n → j ≡ i → ⊥) × (slot_at (buckets_of pages) m j ≡ t)
  was = slot_was (buckets_of pages) (buckets_of pages') n i s sets within

  stays : (m j : ℕ) (t : Slot) → slot_at (buckets_of pages) m j ≡ t → (slot_at (buckets_of pages) n i ≡ t → ⊥) → slot_at (buckets_of pages') m j ≡ t
  stays = slot_stays (buckets_of pages) (buckets_of pages') n i s sets within

  -- a key and transaction whose ghosts stay, with what is asked of the key's record
  pub frame : (undoing : Bool) (last : Option Presence) (t k : ℕ)
      → ((v : ℕ) → s ≡ Ghost k v t → ⊥) → ((v : ℕ) → slot_at (buckets_of pages) n i ≡ Ghost k v t → ⊥)
      → (last ≡ Some Removed → (v : ℕ) → s ≡ Live k v → ⊥) → (last ≡ Some Added → (v : ℕ) → slot_at (buckets_of pages) n i ≡ Live k v → (w : ℕ) × HasRecord pages' k w)
      → IsInStep bits undoing last pages root t k → IsInStep bits undoing last pages' root t k
  frame undoing last t k new old absent present step =
      let ghost_was : (m j : ℕ) → IsGhostAt pages' t k m j → IsGhostAt pages t k m j = λ m j g. (g.0, (was m j _ g.1 (new g.0)).1) in
      record {
        ghost = λ e.
            let g = step.ghost e in
            let there = stays _ g.0 _ g.1 (old 0) in
            let leads = ghost_home bits pages' root form' _ g.0 k 0 t there in
            (g.0, rw leads there);
        absent = λ e v r. step.absent e v (r.0, r.1, (was r.0 r.1 _ r.2 (absent e v)).1);
        present = λ e.
            let r = step.present e in
            elim (cases r.1.0 r.1.1) [
              | inl h ↦ present e r.0 (rw (h.0, h.1) at r.1.2)
              | inr h ↦ (r.0, (r.1.0, r.1.1, h.1 ∙ r.1.2))
            ];
        revived = λ e m j g. step.revived e m j (ghost_was m j g);
        once = λ m j l o g h. step.once m j l o (ghost_was m j g) (ghost_was l o h);
        forward = λ f m j g. step.forward f m j (ghost_was m j g);
      }

  -- a record becomes the ghost of a transaction that had none of the key
  pub made : (undoing : Bool) (last : Option Presence) (owner key value : ℕ)
      → s ≡ Ghost key 0 owner → slot_at (buckets_of pages) n i ≡ Live key value → ((m j : ℕ) → IsGhostAt pages owner key m j → ⊥)
      → (last ≡ Some Added → ⊥) → (undoing ≡ false → last ≡ Some Removed)
      → IsInStep bits undoing last pages' root owner key
  made undoing last owner key value is live none removed forward =
      let there : slot_at (buckets_of pages') n i ≡ Ghost key 0 owner = here ∙ is in
      let only : (m j : ℕ) → IsGhostAt pages' owner key m j → (m ≡ n) × (j ≡ i) = λ m j g.
      elim (cases m j) [ inl h ↦ h | inr h ↦ absurd (none m j (g.0, sym h.1 ∙ g.1)) ] in
      record {
        ghost = λ e. (i, rw (ghost_home bits pages' root form' n i key 0 owner there) there);
        absent = λ e v r.
            let old = was r.0 r.1 (Live key v) r.2 (λ q. let f : Ghost key 0 owner ≡ Live key v = sym is ∙ q in cc) in
            let same = live_once bits pages root form r.0 r.1 n i key v value old.1 live in
            old.0 same.0 same.1;
        present = λ e. absurd (removed e);
        revived = λ e. absurd (removed e);
        once = λ m j l o g h. let a = only m j g in let b = only l o h in (a.0 ∙ sym b.0, a.1 ∙ sym b.1);
        forward = λ f m j g. forward f;
      }

  -- a record stands where the one ghost that the transaction had of the key stood, if it had one
  pub gone : (undoing : Bool) (last : Option Presence) (owner key value : ℕ)
      → s ≡ Live key value → ((m j : ℕ) → IsGhostAt pages owner key m j → (m ≡ n) × (j ≡ i))
      → (last ≡ Some Removed → ⊥)
      → IsInStep bits undoing last pages' root owner key
  gone undoing last owner key value is only added =
      let none : (m j : ℕ) → IsGhostAt pages' owner key m j → ⊥ = λ m j g.
      let old = was m j (Ghost key g.0 owner) g.1 (λ q. let f : Live key value ≡ Ghost key g.0 owner = sym is ∙ q in cc) in
      let at = only m j (g.0, old.1) in
      old.0 at.0 at.1 in
      record {
        ghost = λ e. absurd (added e);
        absent = λ e. absurd (added e);
        present = λ e. (value, (n, i, here ∙ is));
        revived = λ e m j g. none m j g;
        once = λ m j l o g h. absurd (none m j g);
        forward = λ f m j g. absurd (none m j g);
      }
