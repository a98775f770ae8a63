-- A change of one slot
use Rattle.std.proofs.Common.{ℕ, ◌≡◌, true, length, get_or, refl, sym, ◌∙◌, ap, inl, inr, length-set, ◌⊎◌, ◌↔◌, get_or-set_same, get_or-set_other}
use Rattle.mlt_hash_form.proofs.Names.{cases_eq, key_of, Slot, Free, Live, BucketFields, slot_at, HasSlot, IsSpread, is_used, SetsOneSlot, MaySet}

module _ (bits : ℕ → ℕ) (g : ℕ) (lead : ℕ → ℕ) (buckets buckets' : ℕ → BucketFields) (n i : ℕ) (s : Slot) (form : IsSpread bits g lead buckets) (sets : SetsOneSlot buckets buckets' n i s) (fits : MaySet bits lead buckets n i s) where
  same_length : (m : ℕ) → length (buckets' m).slots ≡ length (buckets m).slots
  same_length m =
      elim (cases_eq m n) [
        | inl e ↦ rw (e, sets.slots) (length-set (buckets n).slots i s)
        | inr ne ↦ ap (λ b. length b.slots) (sets.others m ne)
      ]

  same_depth : (m : ℕ) → (buckets' m).depth ≡ (buckets m).depth
  same_depth m = elim (cases_eq m n) [ inl e ↦ rw e sets.depth | inr ne ↦ ap (λ b. b.depth) (sets.others m ne) ]

  pub slot_here : slot_at buckets' n i ≡ s
  slot_here = rw sets.slots (get_or-set_same (buckets n).slots i s Free fits.within)

  slot_beside : (j : ℕ) → (j ≡ i → ⊥) → slot_at buckets' n j ≡ slot_at buckets n j
  slot_beside j ne = rw sets.slots (get_or-set_other (buckets n).slots i j s Free ne)

  slot_else : (m j : ℕ) → (m ≡ n → ⊥) → slot_at buckets' m j ≡ slot_at buckets m j
  slot_else m j ne = ap (λ b. get_or b.slots j Free) (sets.others m ne)

  -- a slot is the changed one, or as before
  slot_cases : (m j : ℕ) → ((m ≡ n) × (j ≡ i) × (slot_at buckets' m j ≡ s)) ⊎ (((m ≡ n) → (j ≡ i) → ⊥) × (slot_at buckets' m j ≡ slot_at buckets m j))
  slot_cases m j =
      elim (cases_eq m n) [
        | inl e ↦ elim (cases_eq j i) [
          | inl f ↦ inl (e, f, rw (e, f) slot_here)
          | inr ne ↦ inr (λ _ f. ne f, rw e (slot_beside j ne))
        ]
        | inr ne ↦ inr (λ e _. ne e, slot_else m j ne)
      ]

  key_from_live : (k v : ℕ) → s ≡ Live k v → key_of s ≡ k
  key_from_live k v e = rw e refl

  home' : (m j : ℕ) → is_used (slot_at buckets' m j) ≡ true → lead (bits (key_of (slot_at buckets' m j))) ≡ m
  home' m j kept =
      elim (slot_cases m j) [
        | inl h ↦ rw h.2 (fits.leads ∙ sym h.0)
        | inr h ↦ rw h.1 (form.home m j (rw h.1 at kept))
      ]

  once_here : (j k v w : ℕ) → s ≡ Live k v → slot_at buckets' n j ≡ Live k w → i ≡ j
  once_here j k v w e f =
      elim (cases_eq j i) [
        | inl h ↦ sym h
        | inr ne ↦
            let old : slot_at buckets n j ≡ Live (key_of s) w = sym (slot_beside j ne) ∙ f ∙ ap (λ q. Live q w) (sym (key_from_live k v e)) in
            sym (fits.alone j w old)
      ]

  once' : (m j l k v w : ℕ) → slot_at buckets' m j ≡ Live k v → slot_at buckets' m l ≡ Live k w → j ≡ l
  once' m j l k v w e f =
      elim (slot_cases m j) [
        | inl h ↦
            let f' : slot_at buckets' n l ≡ Live k w = rw h.0 at f in
            h.1 ∙ once_here l k v w (sym h.2 ∙ e) f'
        | inr h ↦ elim (slot_cases m l) [
          | inl p ↦
              let e' : slot_at buckets' n j ≡ Live k v = rw p.0 at e in
              sym (once_here j k w v (sym p.2 ∙ f) e') ∙ sym p.1
          | inr p ↦ form.once m j l k v w (sym h.1 ∙ e) (sym p.1 ∙ f)
        ]
      ]

  pub form_after : IsSpread bits g lead buckets'
  form_after = record {
    whole = λ x h. same_length (lead x) ∙ form.whole x h;
    fine = λ x h. rw same_depth (form.fine x h);
    apart = λ x y h k e. rw same_depth (form.apart x y h k e);
    together = λ x y h k e. form.together x y h k (rw same_depth at e);
    reached = λ m h. form.reached m (rw same_length at h);
    home = home';
    once = once';
  }

  -- no other slot changes, so no other record and no other ghost
  pub others_hold : (t : Slot) → (t ≡ s → ⊥) → (slot_at buckets n i ≡ t → ⊥) → HasSlot buckets' t ↔ HasSlot buckets t
  others_hold t new old = (
    (λ (h : HasSlot buckets' t). elim (slot_cases h.0 h.1) [
      | inl e ↦ absurd (new (sym h.2 ∙ e.2))
      | inr e ↦ (h.0, h.1, sym e.1 ∙ h.2)
    ]),
    (λ (h : HasSlot buckets t). elim (slot_cases h.0 h.1) [
      | inl e ↦ let was : slot_at buckets n i ≡ t = rw (e.0, e.1) at h.2 in absurd (old was)
      | inr e ↦ (h.0, h.1, e.1 ∙ h.2)
    ]),
  )

  -- the records of the other keys stay, and the key's record is what the slot says
  pub record_other : (k v : ℕ) → (k ≡ key_of s → ⊥) → HasSlot buckets' (Live k v) ↔ HasSlot buckets (Live k v)
  record_other k v ne = others_hold (Live k v) (λ e. ne (sym (key_from_live k v (sym e)))) (λ e. ne (fits.own k v e))

  pub record_here : (v : ℕ) → HasSlot buckets' (Live (key_of s) v) ↔ (s ≡ Live (key_of s) v)
  record_here v = (
    (λ (h : HasSlot buckets' (Live (key_of s) v)). elim (slot_cases h.0 h.1) [
      | inl e ↦ sym e.2 ∙ h.2
      | inr e ↦
          let was : slot_at buckets h.0 h.1 ≡ Live (key_of s) v = sym e.1 ∙ h.2 in
          let home : lead (bits (key_of s)) ≡ h.0 = rw was at (form.home h.0 h.1 (rw was refl)) in
          let page : h.0 ≡ n = sym home ∙ fits.leads in
          let was' : slot_at buckets n h.1 ≡ Live (key_of s) v = rw page at was in
          absurd (e.0 page (fits.alone h.1 v was'))
    ]),
    (λ (e : s ≡ Live (key_of s) v). (n, i, slot_here ∙ e)),
  )
