-- A split, one page per step, from the buckets' pages to the header. Other crates cite this module.
use Rattle.std.proofs.Common.{ℕ, ◌≡◌, ◌<◌, ◌≤◌, ◌+◌, ◌-◌, ◌*◌, ◌^◌, List, [], length, slice_index, Option, Some, None, sym, ◌∙◌, ap, arith, inl, inr, nat_cmp}
use Rattle.mlt_hash_form.proofs.Names.{cases_eq, length-map, first_bits, BucketFields, Page, header_of, entries_of, bucket_of, entry, buckets_of, HasForm, Writes, target, IsFilling, IsLonger, IsMidway, bucket_split, directory_change}
use Rattle.std.specs.FinSet as set
use Rattle.mlt_hash_form.proofs.{InPages.dir_from_entries, Fill.fill_over, Fill.fill_made}

-- a page that is no directory page is written beside the directory
pub fill_beside : (pages pages' : ℕ → Option Page) (made dirs : List ℕ) (to old : ℕ → ℕ) (j k count n : ℕ) (p : Page) → IsFilling (directory_change dirs to old count) pages made j k → Writes pages pages' n p → (length (entries_of (pages n)) ≡ 256 → ⊥) → IsFilling (directory_change dirs to old count) pages' made j k
fill_beside pages pages' made dirs to old j k count n p f w beside =
    let m_other : (q : ℕ) → q < j → entries_of (pages' (slice_index made q)) ≡ entries_of (pages (slice_index made q)) = λ q h. ap entries_of (w.others _ (λ e. let full = rw e at (f.sized q h) in beside full)) in
    let d_other : (q : ℕ) → k ≤ q → q < count → entries_of (pages' (slice_index dirs q)) ≡ entries_of (pages (slice_index dirs q)) = λ q h o. ap entries_of (w.others _ (λ e. let full = rw e at (f.rest_sized q h o) in beside full)) in
    record {
      filled = λ q r h o. rw (m_other q h) (f.filled q r h o);
      sized = λ q h. rw (m_other q h) (f.sized q h);
      rest = λ q r h o s. rw (d_other q h o) (f.rest q r h o s);
      rest_sized = λ q h o. rw (d_other q h o) (f.rest_sized q h o);
      apart = f.apart;
      once = f.once;
    }

differ_at : (pages : ℕ → Option Page) (m n : ℕ) (c : BucketFields) → pages m ≡ Some (Page.Bucket c) → buckets_of pages n ≡ record { depth = 0; slots = [] } → length c.slots ≡ 8 → m ≡ n → ⊥
differ_at pages m n c e f h same =
    let at : bucket_of (pages n) ≡ c = rw (← same) (ap bucket_of e) in
    let none = ap (λ (d : BucketFields). length d.slots) (sym at ∙ f) in
    omega (arith, none, h)

-- one more directory page: an old one rewritten in its new place, or a new one
module _ (bits : ℕ → ℕ) (active : set.FinSet nat_cmp) (base pages pages' : ℕ → Option Page) (root b new seed g' : ℕ) (made made' : List ℕ) (j k n : ℕ) (d : List ℕ) (before : IsMidway (bucket_split bits active base root b new seed) g' pages made j k) (file : HasForm bits base root) (full : length (buckets_of base b).slots ≡ 8) (writes : Writes pages pages' n (Page.Dir d)) (longer : IsLonger made made' j n) (size : length d ≡ 256)
    (right : (r : ℕ) → r < 256 → slice_index d r ≡ target (entry base (header_of (base root)).dirs) (header_of (base root)).depth g' (buckets_of base b).depth (2 * first_bits (buckets_of base b).depth seed + 1) new (256 * j + r)) where
  -- the page written was no bucket, and is none
  module _ (no_bucket : buckets_of pages n ≡ record { depth = 0; slots = [] }) (no_head : root ≡ n → ⊥) where
    midway' : (k' : ℕ) → IsFilling (directory_change (header_of (base root)).dirs (target (entry base (header_of (base root)).dirs) (header_of (base root)).depth g' (buckets_of base b).depth (2 * first_bits (buckets_of base b).depth seed + 1) new) (entry base (header_of (base root)).dirs) (2 ^ ((header_of (base root)).depth - 8))) pages' made' (j + 1) k' → IsMidway (bucket_split bits active base root b new seed) g' pages' made' (j + 1) k'
    midway' k' f = record {
      header = writes.others root no_head ∙ before.header;
      zeros = writes.others b (differ_at pages b n _ before.zeros no_bucket (simp length-map full)) ∙ before.zeros;
      ones = writes.others new (differ_at pages new n _ before.ones no_bucket (simp length-map full)) ∙ before.ones;
      others = λ m nb nn. elim (cases_eq m n) [
        | inl e ↦
            let was : buckets_of base m ≡ record { depth = 0; slots = [] } = sym (before.others m nb nn) ∙ rw e no_bucket in
            rw e (ap bucket_of writes.here) ∙ sym was
        | inr ne ↦ ap bucket_of (writes.others m ne) ∙ before.others m nb nn
      ];
      filling = f;
    }

  root_is : pages root ≡ Some (Page.Head (header_of (base root)))
  root_is = before.header ∙ file.head

  pub midway_over : k < 2 ^ ((header_of (base root)).depth - 8) → slice_index (header_of (base root)).dirs k ≡ n → IsMidway (bucket_split bits active base root b new seed) g' pages' made' (j + 1) (k + 1)
  midway_over in_list at =
      let fill = before.filling in
      let sized = rw at at (fill.rest_sized k (omega arith) in_list) in
      let dir = dir_from_entries (pages n) sized in
      let no_head : root ≡ n → ⊥ = λ e. let q : Some (Page.Head (header_of (base root))) ≡ Some (Page.Dir dir.0) = sym root_is ∙ ap pages e ∙ dir.1 in cc in
      let once : (r : ℕ) → k < r → r < 2 ^ ((header_of (base root)).depth - 8) → slice_index (header_of (base root)).dirs r ≡ n → ⊥ = λ r h o e. let s = file.listed.once r k o in_list (e ∙ sym at) in omega arith in
      midway' (ap bucket_of dir.1) no_head (k + 1) (fill_over pages pages' made made' _ _ _ j k _ n d fill writes longer size right in_list at once)

  pub midway_made : pages n ≡ None → IsMidway (bucket_split bits active base root b new seed) g' pages' made' (j + 1) k
  midway_made none =
      let no_head : root ≡ n → ⊥ = λ e. let q : Some (Page.Head (header_of (base root))) ≡ None = sym root_is ∙ ap pages e ∙ none in cc in
      midway' (ap bucket_of none) no_head k (fill_made pages pages' made made' _ _ _ j k _ n d before.filling writes longer size right none)
