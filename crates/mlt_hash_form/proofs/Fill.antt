-- The directory's pages are written one per step
use Rattle.std.proofs.Common.{ℕ, ◌≡◌, ◌<◌, ◌≤◌, ◌+◌, ◌*◌, List, length, slice_index, Option, None, sym, ◌∙◌, ap, arith, inl, inr, ◌⊎◌}
use Rattle.mlt_hash_form.proofs.Names.{cases_eq, Page, entries_of, Writes, IsFilling, IsLonger, directory_change}

row : (ℕ → Option Page) → ℕ → ℕ → ℕ
row pages n r = slice_index (entries_of (pages n)) r

module _ (pages pages' : ℕ → Option Page) (made made' dirs : List ℕ) (to old : ℕ → ℕ) (j k count n : ℕ) (d : List ℕ) (before : IsFilling (directory_change dirs to old count) pages made j k) (writes : Writes pages pages' n (Page.Dir d)) (longer : IsLonger made made' j n) (size : length d ≡ 256) (right : (r : ℕ) → r < 256 → slice_index d r ≡ to (256 * j + r)) where
  -- the page of a new place is another than those before it
  at_last : (q : ℕ) → q < j + 1 → (q ≡ j) ⊎ (q < j)
  at_last q h = elim (cases_eq q j) [ inl e ↦ inl e | inr ne ↦ inr (omega arith) ]

  entries_here : entries_of (pages' n) ≡ d
  entries_here = ap entries_of writes.here

  entries_else : (m : ℕ) → (m ≡ n → ⊥) → entries_of (pages' m) ≡ entries_of (pages m)
  entries_else m ne = ap entries_of (writes.others m ne)

  module _ (new : (q : ℕ) → q < j → slice_index made q ≡ n → ⊥) where
    filled' : (q r : ℕ) → q < j + 1 → r < 256 → slice_index (entries_of (pages' (slice_index made' q))) r ≡ to (256 * q + r)
    filled' q r h k =
        elim (at_last q h) [
          | inl e ↦ rw (e, longer.last, entries_here) (right r k)
          | inr lt ↦ rw (longer.before q lt, entries_else _ (new q lt)) (before.filled q r lt k)
        ]

    sized' : (q : ℕ) → q < j + 1 → length (entries_of (pages' (slice_index made' q))) ≡ 256
    sized' q h =
        elim (at_last q h) [
          | inl e ↦ rw (e, longer.last, entries_here) size
          | inr lt ↦ rw (longer.before q lt, entries_else _ (new q lt)) (before.sized q lt)
        ]

    once' : (q r : ℕ) → q < j + 1 → r < j + 1 → slice_index made' q ≡ slice_index made' r → q ≡ r
    once' q r h k e =
        elim (at_last q h) [
          | inl f ↦ elim (at_last r k) [
            | inl p ↦ f ∙ sym p
            | inr lt ↦ absurd (new r lt (sym (longer.before r lt) ∙ sym e ∙ rw f longer.last))
          ]
          | inr lt ↦ elim (at_last r k) [
            | inl p ↦ absurd (new q lt (sym (longer.before q lt) ∙ e ∙ rw p longer.last))
            | inr lt2 ↦ before.once q r lt lt2 (sym (longer.before q lt) ∙ e ∙ longer.before r lt2)
          ]
        ]

  -- an old page is written in its new place
  pub fill_over : k < count → slice_index dirs k ≡ n → ((r : ℕ) → k < r → r < count → slice_index dirs r ≡ n → ⊥) → IsFilling (directory_change dirs to old count) pages' made' (j + 1) (k + 1)
  fill_over in_list at later =
      let new : (q : ℕ) → q < j → slice_index made q ≡ n → ⊥ = λ q h e. before.apart q k h (omega arith) in_list (e ∙ sym at) in
      record {
        filled = filled' new;
        sized = sized' new;
        rest = λ q r h m s. rw (entries_else _ (later q (omega arith) m)) (before.rest q r (omega arith) m s);
        rest_sized = λ q h m. rw (entries_else _ (later q (omega arith) m)) (before.rest_sized q (omega arith) m);
        apart = λ q r h m s e. elim (at_last q h) [
          | inl f ↦
              let here : slice_index made' q ≡ n = rw f longer.last in
              later r (omega arith) s (sym e ∙ here)
          | inr lt ↦ before.apart q r lt (omega arith) s (sym (longer.before q lt) ∙ e)
        ];
        once = once' new;
      }

  -- a new page is made
  pub fill_made : pages n ≡ None → IsFilling (directory_change dirs to old count) pages' made' (j + 1) k
  fill_made none =
      let empty : length (entries_of (pages n)) ≡ 0 = ap (λ p. length (entries_of p)) none in
      let new : (q : ℕ) → q < j → slice_index made q ≡ n → ⊥ = λ q h e. let full = rw e at (before.sized q h) in absurd (omega (arith, full, empty)) in
      let other : (r : ℕ) → k ≤ r → r < count → slice_index dirs r ≡ n → ⊥ = λ r h m e. let full = rw e at (before.rest_sized r h m) in absurd (omega (arith, full, empty)) in
      record {
        filled = filled' new;
        sized = sized' new;
        rest = λ q r h m s. rw (entries_else _ (other q h m)) (before.rest q r h m s);
        rest_sized = λ q h m. rw (entries_else _ (other q h m)) (before.rest_sized q h m);
        apart = λ q r h m s e. elim (at_last q h) [
          | inl f ↦
              let here : slice_index made' q ≡ n = rw f longer.last in
              other r m s (sym e ∙ here)
          | inr lt ↦ before.apart q r lt m s (sym (longer.before q lt) ∙ e)
        ];
        once = once' new;
      }
