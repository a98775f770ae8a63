-- A split of one bucket. Other crates cite this module.
use Rattle.std.proofs.Common.{ℕ, ◌≡◌, ◌<◌, ◌≤◌, ◌+◌, ◌*◌, ◌^◌, ◌==◌, ◌&&◌, true, false, List, length, get_or, map, refl, sym, ◌∙◌, ap, arith, inl, inr, [], ◌⊎◌, ◌↔◌, eqb-true, eq-eqb, nat_cmp}
use Rattle.mlt_hash_form.proofs.Names.{get_or_past, length-map, cases_eq, cases_lt, cases_Bool, both_ways, and_parts, and_from, first_bits, bit_at, is_kept, key_of, half, Slot, Free, Live, Ghost, BucketFields, slot_at, HasSlot, IsSpread, is_used, SplitsBucket, spread}
use Rattle.std.proofs.{lemmas.List.get_or-map, Math.Nat.pow-suc, Math.Numerals.add-one}
use Rattle.std.specs.FinSet as set
use Rattle.mlt_page.specs.Slots.{kept_if}
use Rattle.mlt_hash_form.proofs.Bits.{first_bits_next, first_bits_below, side_cases, next_same, front_same, with_first_bits, first_bits-with_first_bits, with_first_bits_below}

pub used_from_kept : (active : set.FinSet nat_cmp) (t : Slot) → is_kept active t ≡ true → is_used t ≡ true
used_from_kept active Free k = k
used_from_kept active (Live q v) k = refl
used_from_kept active (Ghost q v tx) k = refl

-- a half has a slot as it was, or a free one
half_same : (bits : ℕ → ℕ) (active : set.FinSet nat_cmp) (l side : ℕ) (s : Slot) → is_kept active s ≡ true → bit_at l (bits (key_of s)) ≡ side → half bits active l side s ≡ s
half_same bits active l side s k e = ap (λ t. kept_if t s) (and_from _ _ k (eq-eqb _ _ e))

pub half_cases : (bits : ℕ → ℕ) (active : set.FinSet nat_cmp) (l side : ℕ) (s : Slot) → ((half bits active l side s ≡ s) × (is_kept active s ≡ true) × (bit_at l (bits (key_of s)) ≡ side)) ⊎ (half bits active l side s ≡ Free)
half_cases bits active l side s =
    let test = is_kept active s && (bit_at l (bits (key_of s)) == side) in
    elim (cases_Bool test) [
      | inl e ↦ let p = and_parts _ _ e in inl (ap (λ t. kept_if t s) e, p.0, eqb-true _ _ p.1)
      | inr e ↦ inr (ap (λ t. kept_if t s) e)
    ]

kept_half : (bits : ℕ → ℕ) (active : set.FinSet nat_cmp) (l side : ℕ) (s t : Slot) → half bits active l side s ≡ t → is_used t ≡ true → (s ≡ t) × (bit_at l (bits (key_of t)) ≡ side)
kept_half bits active l side s t e k =
    elim (half_cases bits active l side s) [
      | inl h ↦
          let same : s ≡ t = sym h.0 ∙ e in
          (same, rw same at h.2)
      | inr h ↦ let f : t ≡ Free = sym e ∙ h in absurd (both_ways _ refl (rw f at k))
    ]

half_at : (bits : ℕ → ℕ) (active : set.FinSet nat_cmp) (l side : ℕ) (ss : List Slot) (j : ℕ) → get_or (map (half bits active l side) ss) j Free ≡ half bits active l side (get_or ss j Free)
half_at bits active l side ss j =
    let f = half bits active l side in
    elim (cases_lt j (length ss)) [
      | inl h ↦ get_or-map f ss j Free Free h
      | inr h ↦
          let long : length (map f ss) ≤ j = rw length-map h in
          get_or_past (map f ss) j Free long ∙ sym (ap f (get_or_past ss j Free h))
    ]

module _ (bits : ℕ → ℕ) (active : set.FinSet nat_cmp) (g : ℕ) (lead lead' : ℕ → ℕ) (buckets buckets' : ℕ → BucketFields) (b new : ℕ) (bounded : (k : ℕ) → bits k < 2 ^ 64) (form : IsSpread bits g lead buckets) (split : SplitsBucket bits active (spread lead buckets) (spread lead' buckets') b new) (fresh : (buckets new).slots ≡ []) (seed : ℕ) (seed_ok : seed < 2 ^ 64) (at_b : lead seed ≡ b) (room : (buckets b).depth < g) (small : g ≤ 64) where
  -- the new page was no bucket
  not_new : (x : ℕ) → x < 2 ^ 64 → lead x ≡ new → ⊥
  not_new x h e =
      let eight : length (buckets new).slots ≡ 8 = rw e at (form.whole x h) in
      let none = ap (λ (ss : List Slot). length ss) fresh in
      absurd (omega arith)

  full : length (buckets b).slots ≡ 8
  full = rw at_b at (form.whole seed seed_ok)

  differ : b ≡ new → ⊥
  differ e = not_new seed seed_ok (at_b ∙ e)

  lead_cases : (x : ℕ) → x < 2 ^ 64 → ((lead x ≡ b) × (bit_at (buckets b).depth x ≡ 1) × (lead' x ≡ new)) ⊎ (((lead x ≡ b) × (bit_at (buckets b).depth x ≡ 0) × (lead' x ≡ b)) ⊎ ((lead x ≡ b → ⊥) × (lead' x ≡ lead x)))
  lead_cases x h =
      elim (cases_eq (lead x) b) [
        | inl e ↦ elim (side_cases (buckets b).depth x) [
          | inl z ↦ inr (inl (e, z, split.stays x h (λ _ o. absurd (omega (arith, z, o))) ∙ e))
          | inr o ↦ inl (e, o, split.goes x h e o)
        ]
        | inr ne ↦ inr (inr (ne, split.stays x h (λ e _. ne e)))
      ]

  slot_zero : (j : ℕ) → slot_at buckets' b j ≡ half bits active (buckets b).depth 0 (slot_at buckets b j)
  slot_zero j = rw split.zeros (half_at bits active (buckets b).depth 0 (buckets b).slots j)

  slot_one : (j : ℕ) → slot_at buckets' new j ≡ half bits active (buckets b).depth 1 (slot_at buckets b j)
  slot_one j = rw split.ones (half_at bits active (buckets b).depth 1 (buckets b).slots j)

  -- a kept slot after the split: where it was before
  from_kept : (m j : ℕ) (t : Slot) → slot_at buckets' m j ≡ t → is_used t ≡ true →
      ((m ≡ b) × (slot_at buckets b j ≡ t) × (bit_at (buckets b).depth (bits (key_of t)) ≡ 0)) ⊎ (((m ≡ new) × (slot_at buckets b j ≡ t) × (bit_at (buckets b).depth (bits (key_of t)) ≡ 1)) ⊎ ((m ≡ b → ⊥) × (m ≡ new → ⊥) × (slot_at buckets m j ≡ t)))
  from_kept m j t e k =
      elim (cases_eq m b) [
        | inl h ↦
            let e' : slot_at buckets' b j ≡ t = rw h at e in
            let p = kept_half bits active (buckets b).depth 0 _ t (sym (slot_zero j) ∙ e') k in
            inl (h, p.0, p.1)
        | inr nb ↦ elim (cases_eq m new) [
          | inl h ↦
              let e' : slot_at buckets' new j ≡ t = rw h at e in
              let p = kept_half bits active (buckets b).depth 1 _ t (sym (slot_one j) ∙ e') k in
              inr (inl (h, p.0, p.1))
          | inr nn ↦ inr (inr (nb, nn, sym (ap (λ c. get_or c.slots j Free) (split.others m nb nn)) ∙ e))
        ]
      ]

  home_of : (m j : ℕ) (t : Slot) → slot_at buckets m j ≡ t → is_used t ≡ true → lead (bits (key_of t)) ≡ m
  home_of m j t e k = rw e at (form.home m j (rw e k))

  home_at : (m j : ℕ) (t : Slot) → slot_at buckets' m j ≡ t → is_used t ≡ true → lead' (bits (key_of t)) ≡ m
  home_at m j t e k =
      let x = bits (key_of t) in
      let h : x < 2 ^ 64 = bounded (key_of t) in
      elim (from_kept m j t e k) [
        | inl p ↦ split.stays x h (λ _ o. absurd (omega (arith, p.2, o))) ∙ home_of b j t p.1 k ∙ sym p.0
        | inr q ↦ elim q [
          | inl p ↦ split.goes x h (home_of b j t p.1 k) p.2 ∙ sym p.0
          | inr p ↦
              let at = home_of m j t p.2 k in
              split.stays x h (λ e _. p.0 (sym at ∙ e)) ∙ at
        ]
      ]

  -- where a live slot stands now it stood before
  live_from : (m j k v : ℕ) → slot_at buckets' m j ≡ Live k v → (o : ℕ) × (slot_at buckets o j ≡ Live k v)
  live_from m j k v e =
      elim (from_kept m j (Live k v) e refl) [
        | inl p ↦ (b, p.1)
        | inr q ↦ elim q [ inl p ↦ (b, p.1) | inr p ↦ (m, p.2) ]
      ]

  once' : (m i j k v w : ℕ) → slot_at buckets' m i ≡ Live k v → slot_at buckets' m j ≡ Live k w → i ≡ j
  once' m i j k v w e f =
      let p = live_from m i k v e in
      let q = live_from m j k w f in
      let one : p.0 ≡ q.0 = sym (home_of p.0 i (Live k v) p.1 refl) ∙ home_of q.0 j (Live k w) q.1 refl in
      let f' : slot_at buckets p.0 j ≡ Live k w = rw one q.1 in
      form.once p.0 i j k v w p.1 f'

  -- depth and length of the two halves
  depth_zero : (buckets' b).depth ≡ (buckets b).depth + 1
  depth_zero = ap (λ c. c.depth) split.zeros

  depth_one : (buckets' new).depth ≡ (buckets b).depth + 1
  depth_one = ap (λ c. c.depth) split.ones

  length_zero : length (buckets' b).slots ≡ 8
  length_zero = rw (split.zeros, length-map) full

  length_one : length (buckets' new).slots ≡ 8
  length_one = rw (split.ones, length-map) full

  same_page : (x : ℕ) → x < 2 ^ 64 → (lead x ≡ b → ⊥) → buckets' (lead x) ≡ buckets (lead x)
  same_page x h nb = split.others (lead x) nb (not_new x h)

  whole' : (x : ℕ) → x < 2 ^ 64 → length (buckets' (lead' x)).slots ≡ 8
  whole' x h =
      elim (lead_cases x h) [
        | inl p ↦ rw p.2 length_one
        | inr q ↦ elim q [
          | inl p ↦ rw p.2 length_zero
          | inr p ↦ rw (p.1, same_page x h p.0) (form.whole x h)
        ]
      ]

  fine' : (x : ℕ) → x < 2 ^ 64 → (buckets' (lead' x)).depth ≤ g
  fine' x h =
      elim (lead_cases x h) [
        | inl p ↦ rw (p.2, depth_one) (omega arith)
        | inr q ↦ elim q [
          | inl p ↦ rw (p.2, depth_zero) (omega arith)
          | inr p ↦ rw (p.1, same_page x h p.0) (form.fine x h)
        ]
      ]

  under : (buckets b).depth < 64
  under = omega arith

  -- two pseudokeys of the split bucket agree in its first bits
  both_at_b : (x y : ℕ) → x < 2 ^ 64 → y < 2 ^ 64 → lead x ≡ b → lead y ≡ b → first_bits (buckets b).depth x ≡ first_bits (buckets b).depth y
  both_at_b x y h k e f = rw e at (form.apart x y h k (e ∙ sym f))

  joins_b : (x y : ℕ) → x < 2 ^ 64 → y < 2 ^ 64 → lead x ≡ b → first_bits (buckets b).depth x ≡ first_bits (buckets b).depth y → lead y ≡ b
  joins_b x y h k e p =
      let q : first_bits (buckets (lead x)).depth x ≡ first_bits (buckets (lead x)).depth y = rw e p in
      sym (form.together x y h k q) ∙ e

  apart' : (x y : ℕ) → x < 2 ^ 64 → y < 2 ^ 64 → lead' x ≡ lead' y → first_bits (buckets' (lead' x)).depth x ≡ first_bits (buckets' (lead' x)).depth y
  apart' x y h k e =
      elim (lead_cases x h) [
        | inl p ↦ rw (p.2, depth_one) (elim (lead_cases y k) [
          | inl q ↦ next_same (buckets b).depth x y under (both_at_b x y h k p.0 q.0) (p.1 ∙ sym q.1)
          | inr r ↦ elim r [
            | inl q ↦ absurd (differ (sym q.2 ∙ sym e ∙ p.2))
            | inr q ↦ absurd (not_new y k (sym q.1 ∙ sym e ∙ p.2))
          ]
        ])
        | inr o ↦ elim o [
          | inl p ↦ rw (p.2, depth_zero) (elim (lead_cases y k) [
            | inl q ↦ absurd (differ (sym p.2 ∙ e ∙ q.2))
            | inr r ↦ elim r [
              | inl q ↦ next_same (buckets b).depth x y under (both_at_b x y h k p.0 q.0) (p.1 ∙ sym q.1)
              | inr q ↦ absurd (q.0 (sym q.1 ∙ sym e ∙ p.2))
            ]
          ])
          | inr p ↦ rw (p.1, same_page x h p.0) (elim (lead_cases y k) [
            | inl q ↦ absurd (not_new x h (sym p.1 ∙ e ∙ q.2))
            | inr r ↦ elim r [
              | inl q ↦ absurd (p.0 (sym p.1 ∙ e ∙ q.2))
              | inr q ↦ form.apart x y h k (sym p.1 ∙ e ∙ q.1)
            ]
          ])
        ]
      ]

  together' : (x y : ℕ) → x < 2 ^ 64 → y < 2 ^ 64 → first_bits (buckets' (lead' x)).depth x ≡ first_bits (buckets' (lead' x)).depth y → lead' x ≡ lead' y
  together' x y h k e =
      elim (lead_cases x h) [
        | inl p ↦
            let e' = rw (p.2, depth_one) at e in
            let f = front_same (buckets b).depth x y under e' in
            p.2 ∙ sym (split.goes y k (joins_b x y h k p.0 f.0) (sym f.1 ∙ p.1))
        | inr o ↦ elim o [
          | inl p ↦
              let e' = rw (p.2, depth_zero) at e in
              let f = front_same (buckets b).depth x y under e' in
              let y_at : lead y ≡ b = joins_b x y h k p.0 f.0 in
              p.2 ∙ sym (split.stays y k (λ _ q. absurd (omega (arith, q, f.1, p.1))) ∙ y_at)
          | inr p ↦
              let e' = rw (p.1, same_page x h p.0) at e in
              let same : lead x ≡ lead y = form.together x y h k e' in
              p.1 ∙ same ∙ sym (split.stays y k (λ q _. p.0 (same ∙ q)))
        ]
      ]

  -- each half has a pseudokey
  child : ℕ → ℕ
  child side = with_first_bits ((buckets b).depth + 1) (2 * first_bits (buckets b).depth seed + side)

  child_ok : (side : ℕ) → side < 2 → child side < 2 ^ 64
  unfolding child
  child_ok side h =
      let p = first_bits_below (buckets b).depth seed (omega arith) seed_ok in
      let d = pow-suc 2 (buckets b).depth in
      with_first_bits_below ((buckets b).depth + 1) _ (omega arith) (rw add-one (omega (arith, d)))

  child_first : (side : ℕ) → first_bits ((buckets b).depth + 1) (child side) ≡ 2 * first_bits (buckets b).depth seed + side
  unfolding child
  child_first side = first_bits-with_first_bits ((buckets b).depth + 1) _

  child_side : (side : ℕ) → side < 2 → bit_at (buckets b).depth (child side) ≡ side
  child_side side h = omega (arith, child_first side)

  child_at : (side : ℕ) → side < 2 → lead (child side) ≡ b
  child_at side h =
      let c = child_first side in
      let n = first_bits_next (buckets b).depth (child side) under in
      joins_b seed (child side) seed_ok (child_ok side h) at_b (omega arith)

  reached' : (m : ℕ) → length (buckets' m).slots ≡ 8 → (x : ℕ) × (x < 2 ^ 64) × (lead' x ≡ m)
  reached' m h =
      elim (cases_eq m b) [
        | inl e ↦
            (child 0, child_ok 0 (omega arith), split.stays (child 0) (child_ok 0 (omega arith)) (λ _ o. absurd (omega (arith, o, child_side 0 (omega arith)))) ∙ child_at 0 (omega arith) ∙ sym e)
        | inr nb ↦ elim (cases_eq m new) [
          | inl e ↦ (child 1, child_ok 1 (omega arith), split.goes (child 1) (child_ok 1 (omega arith)) (child_at 1 (omega arith)) (child_side 1 (omega arith)) ∙ sym e)
          | inr nn ↦
              let old : length (buckets m).slots ≡ 8 = rw (split.others m nb nn) at h in
              let r = form.reached m old in
              (r.0, r.1, split.stays r.0 r.1 (λ e _. nb (sym r.2 ∙ e)) ∙ r.2)
        ]
      ]

  -- a split keeps the file form
  pub form_split : IsSpread bits g lead' buckets'
  form_split = record {
    whole = whole';
    fine = fine';
    apart = apart';
    together = together';
    reached = reached';
    home = λ m j k. home_at m j (slot_at buckets' m j) refl k;
    once = once';
  }

  -- it makes no record and no ghost
  pub split_from : (t : Slot) → is_used t ≡ true → HasSlot buckets' t → HasSlot buckets t
  split_from t k h =
      elim (from_kept h.0 h.1 t h.2 k) [
        | inl p ↦ (b, h.1, p.1)
        | inr q ↦ elim q [ inl p ↦ (b, h.1, p.1) | inr p ↦ (h.0, h.1, p.2) ]
      ]

  -- and loses no record, and no ghost of an open transaction
  pub split_holds : (t : Slot) → is_kept active t ≡ true → HasSlot buckets' t ↔ HasSlot buckets t
  split_holds t k = (
    split_from t (used_from_kept active t k),
    (λ (h : HasSlot buckets t). elim (cases_eq h.0 b) [
      | inl e ↦
          let here : slot_at buckets b h.1 ≡ t = rw e at h.2 in
          elim (side_cases (buckets b).depth (bits (key_of t))) [
            | inl z ↦ (b, h.1, slot_zero h.1 ∙ rw here (half_same bits active (buckets b).depth 0 t k z))
            | inr o ↦ (new, h.1, slot_one h.1 ∙ rw here (half_same bits active (buckets b).depth 1 t k o))
          ]
      | inr nb ↦ elim (cases_eq h.0 new) [
        | inl e ↦
            let here : slot_at buckets new h.1 ≡ t = rw e at h.2 in
            let free : slot_at buckets new h.1 ≡ Free = ap (λ ss. get_or ss h.1 Free) fresh in
            absurd (both_ways _ refl (rw (sym here ∙ free) at k))
        | inr nn ↦ (h.0, h.1, ap (λ c. get_or c.slots h.1 Free) (split.others h.0 nb nn) ∙ h.2)
      ]
    ]),
  )

  -- what is lost stood in the bucket, and was not kept
  pub split_lost : (t : Slot) → is_used t ≡ true → HasSlot buckets t → HasSlot buckets' t ⊎ ((is_kept active t ≡ false) × (i : ℕ) × (slot_at buckets b i ≡ t))
  split_lost t k h =
      elim (cases_Bool (is_kept active t)) [
        | inl e ↦ inl ((split_holds t e).1 h)
        | inr e ↦ elim (cases_eq h.0 b) [
          | inl f ↦ inr (e, h.1, rw f at h.2)
          | inr nb ↦ elim (cases_eq h.0 new) [
            | inl f ↦
                let here : slot_at buckets new h.1 ≡ t = rw f at h.2 in
                let free : slot_at buckets new h.1 ≡ Free = ap (λ ss. get_or ss h.1 Free) fresh in
                absurd (both_ways _ refl (rw (sym here ∙ free) at k))
            | inr nn ↦ inl (h.0, h.1, ap (λ c. get_or c.slots h.1 Free) (split.others h.0 nb nn) ∙ h.2)
          ]
        ]
      ]

  -- a used slot stood before at the same place, on the same page or in the bucket that is split
  pub split_before : (m i : ℕ) → is_used (slot_at buckets' m i) ≡ true → (o : ℕ) × (slot_at buckets o i ≡ slot_at buckets' m i) × ((o ≡ m) ⊎ (o ≡ b))
  split_before m i k =
      elim (from_kept m i (slot_at buckets' m i) refl k) [
        | inl p ↦ (b, p.1, inr refl)
        | inr q ↦ elim q [ inl p ↦ (b, p.1, inr refl) | inr p ↦ (m, p.2, inl refl) ]
      ]

  half_kept : (bit : ℕ) (s t : Slot) → t ≡ half bits active (buckets b).depth bit s → is_used t ≡ true → is_kept active t ≡ true
  half_kept bit s t e k =
      elim (half_cases bits active (buckets b).depth bit s) [
        | inl h ↦ rw (e ∙ h.0) h.1
        | inr h ↦ absurd (both_ways _ refl (rw (e ∙ h) at k))
      ]

  -- the halves keep no ghost of a closed owner
  pub split_dropped : (m i : ℕ) → (m ≡ b) ⊎ (m ≡ new) → is_used (slot_at buckets' m i) ≡ true → is_kept active (slot_at buckets' m i) ≡ true
  split_dropped m i at k =
      elim at [
        | inl e ↦ half_kept 0 (slot_at buckets b i) _ (ap (λ n. slot_at buckets' n i) e ∙ slot_zero i) k
        | inr e ↦ half_kept 1 (slot_at buckets b i) _ (ap (λ n. slot_at buckets' n i) e ∙ slot_one i) k
      ]
