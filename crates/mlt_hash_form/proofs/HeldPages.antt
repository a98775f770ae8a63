-- Walks side by side. Other crates cite this module.
use Rattle.std.proofs.Common.{ℕ, ◌≡◌, Option, Some, None, refl, sym, ◌∙◌, ap, inl, inr, ◌⊎◌, true, false, is_some, slice_index_or, nat_cmp}
use Rattle.mlt_hash_form.proofs.Names.{eq_by_cmp, both_ways, cases_Bool, cond-true, cond-false, nat_cmp_total, is_kept, Slot, Free, Live, Page, ChangesRecord, IsSplit, slot_change, HasSlot, is_used, slot_at, bucket_of, buckets_of, lead_of, look_up, HasForm, Writes, over, Agrees, ChangesFile}
use Rattle.std.specs.FinMap as map
use Rattle.std.specs.FinSet as set
use Rattle.mlt_hash_form.{specs.Held.own_or_clean, specs.Held.StoodOnHeld, specs.Held.KeepsFile, proofs.InPages.same_option, proofs.Lookup.found, proofs.RecordMap.tied, proofs.RecordMap.tied_itself}

-- what an option has that has something, as a page that a walk holds was seen as some page
pub seen_as : {X : Type 0} (o : Option X) → is_some o ≡ true → (x : X) × (o ≡ Some x)
seen_as None h = absurd (both_ways _ refl h)
seen_as (Some p) h = (p, refl)

-- a slot whose room is kept is not lost
not_lost : (active : set.FinSet nat_cmp) (t : Slot) (L S : Type 0) → is_kept active t ≡ true → L ⊎ ((is_kept active t ≡ false) × S) → L
not_lost active t L S k (inl there) = there
not_lost active t L S k (inr gone) = absurd (both_ways _ gone.0 k)

-- a walk that wrote nothing
pub keeps_none : (bits : ℕ → ℕ) (active : set.FinSet nat_cmp) (root : ℕ) (seen : ℕ → Option (Option Page)) → KeepsFile bits active root seen (λ _. None)
keeps_none bits active root seen clean a f = record { form = f; lost = λ t k h. inl h; stood = λ m i k. (m, refl, inl refl) }

module _ (bits : ℕ → ℕ) (active : set.FinSet nat_cmp) (root : ℕ) (seen : ℕ → Option (Option Page)) where
  -- one more page held: what it saw before it still saw
  pub keeps_more : (more : ℕ → Option (Option Page)) (own : ℕ → Option Page) → ((n : ℕ) (p : Option Page) → seen n ≡ Some p → more n ≡ Some p) → KeepsFile bits active root seen own → KeepsFile bits active root more own
  keeps_more more own grows keeps clean a f =
      let r = keeps clean (λ n p e. a n p (grows n p e)) f in
      let still = λ (n : ℕ) (h : is_some (seen n) ≡ true). let p = seen_as (seen n) h in ap is_some (grows n p.0 p.1) in
      record {
        form = r.form;
        lost = λ t k h. elim (r.lost t k h) [
          | inl there ↦ inl there
          | inr gone ↦ inr (gone.0, (gone.1.0, gone.1.1, still gone.1.0 gone.1.2, gone.1.3))
        ];
        stood = λ m i k. let b = r.stood m i k in (b.0, b.1, elim b.2 [ inl e ↦ inl e | inr h ↦ inr (still b.0 h) ]);
      }

  -- other owners are open: what was lost on a held page is not kept for them either
  pub keeps_fewer : (fewer : set.FinSet nat_cmp) (own : ℕ → Option Page)
      → ((n : ℕ) (p : Option Page) → seen n ≡ Some p → (i : ℕ) → is_kept fewer (slice_index_or (bucket_of p).slots i Free) ≡ true → is_kept active (slice_index_or (bucket_of p).slots i Free) ≡ true)
      → KeepsFile bits active root seen own → KeepsFile bits fewer root seen own
  keeps_fewer fewer own kept keeps clean a f =
      let r = keeps clean a f in
      record {
        form = r.form;
        lost = λ t k h. elim (r.lost t k h) [
          | inl there ↦ inl there
          | inr gone ↦ elim (cases_Bool (is_kept fewer t)) [
            | inl e ↦
                let p = seen_as (seen gone.1.0) gone.1.2 in
                let here : slot_at (buckets_of clean) gone.1.0 gone.1.1 ≡ slice_index_or (bucket_of p.0).slots gone.1.1 Free = ap (λ q. slice_index_or (bucket_of q).slots gone.1.1 Free) (a gone.1.0 p.0 p.1) in
                let same = sym here ∙ gone.1.3 in
                absurd (both_ways _ gone.0 (ap (is_kept active) (sym same) ∙ kept gone.1.0 p.0 p.1 gone.1.1 (ap (is_kept fewer) same ∙ e)))
            | inr e ↦ inr (e, gone.1)
          ]
        ];
        stood = r.stood;
      }

  module _ (own : ℕ → Option Page) (keeps : KeepsFile bits active root seen own) where
    -- a file that is kept has the values that it had
    pub kept_values : (clean : ℕ → Option Page) → Agrees seen clean → HasForm bits clean root → (key : ℕ) → look_up bits (over clean own) root key ≡ look_up bits clean root key
    kept_values clean a file key =
        let r = keeps clean a file in
        let now_found = λ (v : ℕ). found bits _ (lead_of (over clean own) root) (buckets_of (over clean own)) r.form.form key v in
        let was_found = λ (v : ℕ). found bits _ (lead_of clean root) (buckets_of clean) file.form key v in
        let back = λ (v : ℕ) (h : HasSlot (buckets_of (over clean own)) (Live key v)). let b = r.stood h.0 h.1 (rw h.2 refl) in
        let was : HasSlot (buckets_of clean) (Live key v) = (b.0, h.1, b.1 ∙ h.2) in was in
        let on = λ (v : ℕ) (h : HasSlot (buckets_of clean) (Live key v)). not_lost active (Live key v) _ _ refl (r.lost (Live key v) refl h) in
        same_option _ _ (λ v e. (was_found v).0 (back v ((now_found v).1 e))) (λ v e. (now_found v).0 (on v ((was_found v).1 e)))

    -- a change of what is written, at a moment of rest, changes the file
    pub change_of_kept : (own' : ℕ → Option Page) (key n i : ℕ) (value : Option ℕ) (after : Slot)
        → ((clean : ℕ → Option Page) → Agrees seen clean → HasForm bits clean root → HasForm bits (over clean own) root → ChangesRecord bits (over clean own) (over clean own') root (slot_change key value n i after))
        → ChangesFile bits active root seen own own' (slot_change key value n i after)
    change_of_kept own' key n i value after step = record { keeps = keeps; changes = λ clean a f. step clean a f (keeps clean a f).form }

    -- what stands on a held page of what is written stood on a held page
    stood_on_held : (clean : ℕ → Option Page) → Agrees seen clean → HasForm bits clean root → (n i : ℕ) (t : Slot) → is_some (seen n) ≡ true → is_used t ≡ true → slot_at (buckets_of (over clean own)) n i ≡ t → StoodOnHeld seen clean t
    stood_on_held clean a f n i t held used e =
        let b = (keeps clean a f).stood n i (ap is_used e ∙ used) in
        (b.0, i, elim b.2 [ inl same ↦ ap (λ m. is_some (seen m)) same ∙ held | inr h ↦ h ], b.1 ∙ e)

    -- a split of what is written, of a bucket on a held page, keeps the file
    pub split_keeps : (own' : ℕ → Option Page) (splitters : set.FinSet nat_cmp) (n new : ℕ)
        → is_some (seen n) ≡ true
        → ((clean : ℕ → Option Page) → Agrees seen clean → HasForm bits clean root → HasForm bits (over clean own) root
        → IsSplit bits splitters (over clean own) (over clean own') root n new
        × ((i : ℕ) → is_kept active (slot_at (buckets_of (over clean own)) n i) ≡ true → is_kept splitters (slot_at (buckets_of (over clean own)) n i) ≡ true))
        → KeepsFile bits active root seen own'
    split_keeps own' splitters n new held step clean a f =
        let r = keeps clean a f in
        let s = step clean a f r.form in
        let split = s.0 in
        record {
          form = split.form;
          lost = λ t k h. elim (r.lost t k h) [
            | inl there ↦ elim (split.lost t k there) [
              | inl here ↦ inl here
              | inr gone ↦ elim (cases_Bool (is_kept active t)) [
                | inl e ↦ absurd (both_ways _ gone.0 (ap (is_kept splitters) (sym gone.2) ∙ s.1 gone.1 (ap (is_kept active) gone.2 ∙ e)))
                | inr e ↦ inr (e, stood_on_held clean a f n gone.1 t held k gone.2)
              ]
            ]
            | inr gone ↦ inr gone
          ];
          stood = λ m i k.
              let b = split.before m i k in
              let c = r.stood b.0 i (ap is_used b.1 ∙ k) in (
                c.0,
                c.1 ∙ b.1,
                elim c.2 [
                  | inl same ↦ elim b.2 [ inl e ↦ inl (same ∙ e) | inr e ↦ inr (ap (λ o. is_some (seen o)) (same ∙ e) ∙ held) ]
                  | inr h ↦ inr h
                ],
              );
        }

-- a file that is changed has its form, the new value, and the other values that it had
pub changed_values : (bits : ℕ → ℕ) (active : set.FinSet nat_cmp) (root key n i : ℕ) (value : Option ℕ) (after : Slot) (seen : ℕ → Option (Option Page)) (rest own clean : ℕ → Option Page)
    → ChangesFile bits active root seen rest own (slot_change key value n i after) → Agrees seen clean → HasForm bits clean root
    → HasForm bits (over clean own) root × (look_up bits (over clean own) root key ≡ value) × ((k : ℕ) → (k ≡ key → ⊥) → look_up bits (over clean own) root k ≡ look_up bits clean root k)
changed_values bits active root key n i value after seen rest own clean changes a f =
    let c = changes.changes clean a f in
    (c.form, c.here, λ k ne. c.others k ne ∙ kept_values bits active root seen rest changes.keeps clean a f k)

-- the end of one walk makes its writes clean; a walk that holds none of those pages still agrees
pub agrees_after : (clean own : ℕ → Option Page) (seen : ℕ → Option (Option Page)) → ((n : ℕ) → (seen n ≡ None) ⊎ (own n ≡ None)) → Agrees seen clean → Agrees seen (over clean own)
agrees_after clean own seen apart a n p e =
    elim (apart n) [
      | inl none ↦ let q : None ≡ Some p = sym none ∙ e in cc
      | inr none ↦ ap (λ o. own_or_clean o (clean n)) none ∙ a n p e
    ]

-- what a walk reads of a page that it holds is the same over any clean pages that agree
pub reads_same : (clean clean2 own : ℕ → Option Page) (seen : ℕ → Option (Option Page)) (n : ℕ) (p : Option Page) → seen n ≡ Some p → Agrees seen clean → Agrees seen clean2 → over clean own n ≡ over clean2 own n
reads_same clean clean2 own seen n p h a a2 = ap (own_or_clean (own n)) (a n p h ∙ sym (a2 n p h))

-- and a write of its own is the same write over any of them
pub writes_over : (clean own own' : ℕ → Option Page) (n : ℕ) (p : Page) → own' n ≡ Some p → ((m : ℕ) → (m ≡ n → ⊥) → own' m ≡ own m) → Writes (over clean own) (over clean own') n p
writes_over clean own own' n p here others = record {
  here = ap (λ o. own_or_clean o (clean n)) here;
  others = λ m ne. ap (λ o. own_or_clean o (clean m)) (others m ne);
}

-- an insertion into a map of pages writes a page
pub insert_writes : (pages : map.FinMap nat_cmp Page) (n : ℕ) (p : Page) → Writes (map.get pages) (map.get (map.insert pages n p)) n p
insert_writes pages n p = record {
  here = map.get-insert nat_cmp_total pages n p n ∙ cond-true _ (Some p) _ (tied_itself n);
  others = λ m ne. elim (cases_Bool (eq_by_cmp nat_cmp m n)) [
    | inl e ↦ absurd (ne (tied m n e))
    | inr e ↦ map.get-insert nat_cmp_total pages n p m ∙ cond-false _ (Some p) _ e
  ];
}
