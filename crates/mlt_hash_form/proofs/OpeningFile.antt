-- A file as it is opened: it has the form, and no slot of it is used.
-- Other crates cite this module.
use Rattle.std.proofs.Common.{ℕ, ◌≡◌, [], get_or, slice_index, replicate, Option, Some, refl, ap, arith, inl, inr}
use Rattle.mlt_hash_form.proofs.Names.{cases_eq, cases_lt, get_or_past, Free, Page, IsOpening, bucket_of, buckets_of, HasForm, slot_at}
use Rattle.std.proofs.lemmas.List.{get_or-replicate, length-replicate}
use Rattle.mlt_hash_form.proofs.Opening.{opening, all_free}

free_in : (i : ℕ) → get_or (replicate 8 Free) i Free ≡ Free
free_in i =
    elim (cases_lt i 8) [
      | inl lt ↦ get_or-replicate 8 i Free Free lt
      | inr le ↦ get_or_past (replicate 8 Free) i Free (rw (length-replicate 8 Free) le)
    ]

module _ (bits : ℕ → ℕ) (pages : ℕ → Option Page) (root d n : ℕ) (is : IsOpening pages root d n) where
  no_bucket : (m : ℕ) → (m ≡ n → ⊥) → buckets_of pages m ≡ record { depth = 0; slots = [] }
  no_bucket m ne =
      elim (cases_eq m root) [
        | inl e ↦ rw e (ap bucket_of is.head)
        | inr nr ↦ elim (cases_eq m d) [
          | inl e ↦ rw e (ap bucket_of is.listed)
          | inr nd ↦ ap bucket_of (is.others m nr nd ne)
        ]
      ]

  first_dir : slice_index (replicate 256 d) 0 ≡ d
  first_dir = get_or-replicate 256 0 d 0 (omega arith)

  first_entry : slice_index (replicate 256 n) 0 ≡ n
  first_entry = get_or-replicate 256 0 n 0 (omega arith)

  listed : pages (slice_index (replicate 256 d) 0) ≡ Some (Page.Dir (replicate 256 n))
  listed = rw first_dir is.listed

  pub opening_has_form : HasForm bits pages root
  opening_has_form = opening bits pages root n _ _ _ is.head refl listed (length-replicate 256 n) first_entry is.bucket refl (length-replicate 8 Free) free_in no_bucket

  pub opening_is_free : (m i : ℕ) → slot_at (buckets_of pages) m i ≡ Free
  opening_is_free = all_free bits pages root n _ _ _ is.head refl listed (length-replicate 256 n) first_entry is.bucket refl (length-replicate 8 Free) free_in no_bucket
