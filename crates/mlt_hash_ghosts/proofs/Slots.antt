-- What a change of one slot leaves, slot by slot
use Rattle.std.proofs.Common.{ℕ, ◌≡◌, ◌<◌, length, get_or, Option, refl, sym, ◌∙◌, ap, inl, inr, ◌⊎◌, get_or-set_same, get_or-set_other}
use Rattle.mlt_hash_ghosts.proofs.Names.{cases_eq, Slot, Free, Live, Ghost, Page, BucketFields, SetsOneSlot, slot_at, HasForm, buckets_of, lead_of}

-- in a file of the form a ghost and a record lie where their keys lead, and a key's record stands once
module _ (bits : ℕ → ℕ) (pages : ℕ → Option Page) (root : ℕ) (form : HasForm bits pages root) where
  pub ghost_home : (m j k v t : ℕ) → slot_at (buckets_of pages) m j ≡ Ghost k v t → lead_of pages root (bits k) ≡ m
  ghost_home m j k v t e = rw e at (form.form.home m j (rw e refl))

  pub live_home : (m j k v : ℕ) → slot_at (buckets_of pages) m j ≡ Live k v → lead_of pages root (bits k) ≡ m
  live_home m j k v e = rw e at (form.form.home m j (rw e refl))

  pub live_once : (m j l o k v w : ℕ) → slot_at (buckets_of pages) m j ≡ Live k v → slot_at (buckets_of pages) l o ≡ Live k w → (m ≡ l) × (j ≡ o)
  live_once m j l o k v w e f =
      let page : m ≡ l = sym (live_home m j k v e) ∙ live_home l o k w f in
      let here : slot_at (buckets_of pages) l j ≡ Live k v = rw page at e in
      (page, form.form.once l j o k v w here f)

module _ (buckets buckets' : ℕ → BucketFields) (n i : ℕ) (s : Slot) (sets : SetsOneSlot buckets buckets' n i s) (within : i < length (buckets n).slots) where
  pub slot_here : slot_at buckets' n i ≡ s
  slot_here = rw sets.slots (get_or-set_same (buckets n).slots i s Free within)

  -- a slot is the changed one, or as before
  pub slot_cases : (m j : ℕ) → ((m ≡ n) × (j ≡ i)) ⊎ ((m ≡ n → j ≡ i → ⊥) × (slot_at buckets' m j ≡ slot_at buckets m j))
  slot_cases m j =
      elim (cases_eq m n) [
        | inl e ↦ elim (cases_eq j i) [
          | inl f ↦ inl (e, f)
          | inr ne ↦ inr (λ _ f. ne f, rw (e, sets.slots) (get_or-set_other (buckets n).slots i j s Free ne))
        ]
        | inr ne ↦ inr (λ e _. ne e, ap (λ b. get_or b.slots j Free) (sets.others m ne))
      ]

  -- what stands there, and is not the new content, stood there; and it is not the changed slot
  pub slot_was : (m j : ℕ) (t : Slot) → slot_at buckets' m j ≡ t → (s ≡ t → ⊥) → (m ≡ n → j ≡ i → ⊥) × (slot_at buckets m j ≡ t)
  slot_was m j t e differs =
      elim (slot_cases m j) [
        | inl h ↦ let here : slot_at buckets' n i ≡ t = rw (h.0, h.1) at e in absurd (differs (sym slot_here ∙ here))
        | inr h ↦ (h.0, sym h.1 ∙ e)
      ]

  -- what stood there, and is not the old content, stands there
  pub slot_stays : (m j : ℕ) (t : Slot) → slot_at buckets m j ≡ t → (slot_at buckets n i ≡ t → ⊥) → slot_at buckets' m j ≡ t
  slot_stays m j t e differs =
      elim (slot_cases m j) [
        | inl h ↦ let was : slot_at buckets n i ≡ t = rw (h.0, h.1) at e in absurd (differs was)
        | inr h ↦ h.1 ∙ e
      ]
