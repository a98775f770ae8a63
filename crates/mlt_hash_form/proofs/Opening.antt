-- The opening file: a header of depth 0, one directory page, one empty bucket
use Rattle.std.proofs.Common.{ℕ, List, ◌≡◌, ◌<◌, ◌^◌, [], length, get_or, slice_index, Option, Some, refl, sym, ◌∙◌, ap, arith, inl, inr}
use Rattle.mlt_hash_form.proofs.Names.{cases_eq, both_ways, first_bits, Free, Live, BucketFields, HeadFields, Page, header_of, lead_of, buckets_of, HasForm, slot_at, IsSpread, is_used}

module _ (bits : ℕ → ℕ) (pages : ℕ → Option Page) (root b : ℕ) (h : HeadFields) (d : List ℕ) (bucket : BucketFields) (header : pages root ≡ Some (Page.Head h)) (depth : h.depth ≡ 0) (dir : pages (slice_index h.dirs 0) ≡ Some (Page.Dir d)) (wide : length d ≡ 256) (at : slice_index d 0 ≡ b) (data_is : pages b ≡ Some (Page.Bucket bucket)) (shallow : bucket.depth ≡ 0) (eight : length bucket.slots ≡ 8) (free : (i : ℕ) → get_or bucket.slots i Free ≡ Free) (others : (m : ℕ) → (m ≡ b → ⊥) → buckets_of pages m ≡ record { depth = 0; slots = [] }) where
  no_bits : (x : ℕ) → x < 2 ^ 64 → first_bits 0 x ≡ 0
  no_bits x k = omega arith

  leads : (x : ℕ) → x < 2 ^ 64 → lead_of pages root x ≡ b
  leads x k = rw (header, depth, no_bits x k, dir) at

  pub all_free : (m i : ℕ) → slot_at (buckets_of pages) m i ≡ Free
  all_free m i =
      elim (cases_eq m b) [
        | inl e ↦ rw (e, data_is) (free i)
        | inr ne ↦ ap (λ c. get_or c.slots i Free) (others m ne)
      ]

  flat : (x : ℕ) → x < 2 ^ 64 → (buckets_of pages (lead_of pages root x)).depth ≡ 0
  flat x k = rw (leads x k, data_is) shallow

  opening_form : IsSpread bits (header_of (pages root)).depth (lead_of pages root) (buckets_of pages)
  opening_form = record {
    whole = λ x k. rw (leads x k, data_is) eight;
    fine = λ x k. rw (flat x k) (omega arith);
    apart = λ x y k l e. rw (flat x k) (no_bits x k ∙ sym (no_bits y l));
    together = λ x y k l e. leads x k ∙ sym (leads y l);
    reached = λ m k. elim (cases_eq m b) [
      | inl e ↦ (0, omega arith, leads 0 (omega arith) ∙ sym e)
      | inr ne ↦ let none = ap (λ (c : BucketFields). length c.slots) (others m ne) in absurd (omega (arith, none, k))
    ];
    home = λ m i k. absurd (both_ways _ (ap is_used (all_free m i)) k);
    once = λ m i j k v w e f. let q : Free ≡ Live k v = sym (all_free m i) ∙ e in cc;
  }

  pub opening : HasForm bits pages root
  opening = record {
    head = rw header refl;
    listed = rw (header, depth) (record {
      small = omega arith;
      full = λ q k. let e : q ≡ 0 = omega arith in rw (e, dir) wide;
      once = λ q r k l e. omega arith;
    });
    form = opening_form;
  }
