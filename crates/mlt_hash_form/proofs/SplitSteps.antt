-- The steps of a split, from its first page to its last. Other crates cite this module.
use Rattle.std.proofs.Common.{ℕ, ◌≡◌, ◌<◌, ◌≤◌, ◌+◌, ◌-◌, ◌*◌, ◌^◌, List, length, slice_index, slice_set, Option, None, Some, refl, sym, ◌∙◌, ap, arith, nat_cmp, get_or-set_same, get_or-set_other, pow-add}
use Rattle.std.specs.FinSet as set
use Rattle.mlt_hash_form.proofs.Names.{HeadFields, Page, IsSplit, MaySplit, buckets_of, entries_of, entry, depth_of, dirs_of, Writes, IsLonger, IsMidway, run_length, run_start, bucket_split}
use Rattle.mlt_hash_form.{specs.Form.half_of, specs.Splits.WritesDirPage, specs.Splits.next_page, proofs.FillEnds.entry_at, proofs.InPages.dir_from_entries, proofs.Midway.midway_over, proofs.Midway.midway_made, proofs.MidwayEnds.midway_double, proofs.MidwayEnds.midway_place, proofs.MidwayEnds.split_closes, proofs.MidwayEnds.split_closes_in_place}

module _ (bits : ℕ → ℕ) (active : set.FinSet nat_cmp) (base : ℕ → Option Page) (root x n new : ℕ) (may : MaySplit bits base root x n new) where
  -- the bucket that is split has its eight slots
  pub split_full : length (buckets_of base n).slots ≡ 8
  split_full = rw may.leads at (may.form.form.whole x may.pseudokey)

  module _ (one two : ℕ → Option Page) (first_write : Writes base one new (Page.Bucket (half_of bits active (buckets_of base n) 1))) (second_write : Writes one two n (Page.Bucket (half_of bits active (buckets_of base n) 0))) where
    pub begins_to_double : (g' : ℕ) (made : List ℕ) → IsMidway (bucket_split bits active base root n new x) g' two made 0 0
    begins_to_double = midway_double bits active base one two root n new x may.form split_full may.fresh first_write second_write

    pub begins_in_place : (q : ℕ) → 256 * q ≤ run_start base root n x → q ≤ 2 ^ (depth_of base root - 8) → IsMidway (bucket_split bits active base root n new x) (depth_of base root) two (dirs_of base root) q q
    begins_in_place = midway_place bits active base one two root n new x may.form split_full may.fresh first_write second_write

  module _ (pages pages' : ℕ → Option Page) (g' : ℕ) (made made' : List ℕ) (j k m : ℕ) (dir : List ℕ) (midway : IsMidway (bucket_split bits active base root n new x) g' pages made j k) (writes : WritesDirPage (bucket_split bits active base root n new x) g' pages pages' made made' (next_page j m dir)) where
    pub rewrites_a_page : k < 2 ^ (depth_of base root - 8) → slice_index (dirs_of base root) k ≡ m → IsMidway (bucket_split bits active base root n new x) g' pages' made' (j + 1) (k + 1)
    rewrites_a_page = midway_over bits active base pages pages' root n new x g' made made' j k m dir midway may.form split_full writes.writes writes.longer writes.size writes.right

    pub makes_a_page : pages m ≡ None → IsMidway (bucket_split bits active base root n new x) g' pages' made' (j + 1) k
    makes_a_page = midway_made bits active base pages pages' root n new x g' made made' j k m dir midway may.form split_full writes.writes writes.longer writes.size writes.right

  pub closes_by_header : (pages pages' : ℕ → Option Page) (g' k : ℕ) (header : HeadFields) → IsMidway (bucket_split bits active base root n new x) g' pages header.dirs (2 ^ (g' - 8)) k
      → g' ≤ 16 → depth_of base root ≤ g' → (buckets_of base n).depth < g' → header.depth ≡ g' → Writes pages pages' root (Page.Head header) → IsSplit bits active base pages' root n new
  closes_by_header pages pages' g' k header midway small deeper room depth writes =
      split_closes bits active base pages root n new x may.bounded may.form may.pseudokey may.leads may.fresh pages' header.dirs g' k header midway writes depth refl small deeper room

  pub closes_in_place : (pages : ℕ → Option Page) (q : ℕ) → IsMidway (bucket_split bits active base root n new x) (depth_of base root) pages (dirs_of base root) q q
      → run_start base root n x + run_length base root n ≤ 256 * q → (buckets_of base n).depth < depth_of base root → IsSplit bits active base pages root n new
  closes_in_place pages = split_closes_in_place bits active base pages root n new x may.bounded may.form may.pseudokey may.leads may.fresh

-- a page of the directory has the directory's entries of its places
pub listed_entries : (pages : ℕ → Option Page) (dirs : List ℕ) (q r : ℕ) (dir : List ℕ) → pages (slice_index dirs q) ≡ Some (Page.Dir dir) → r < 256 → slice_index dir r ≡ entry pages dirs (256 * q + r)
listed_entries pages dirs q r dir is h = sym (ap (λ p. slice_index (entries_of p) r) is) ∙ sym (entry_at pages dirs q r h)

-- in the midst of a split, a page that is not yet written is as it was
pub page_as_it_was : (bits : ℕ → ℕ) (active : set.FinSet nat_cmp) (base pages : ℕ → Option Page) (root n new x g' j k q : ℕ) (made : List ℕ) → IsMidway (bucket_split bits active base root n new x) g' pages made j k → k ≤ q → q < 2 ^ (depth_of base root - 8)
    → (dir : List ℕ) × (pages (slice_index (dirs_of base root) q) ≡ Some (Page.Dir dir)) × (length dir ≡ 256) × ((r : ℕ) → r < 256 → slice_index dir r ≡ entry base (dirs_of base root) (256 * q + r))
page_as_it_was bits active base pages root n new x g' j k q made midway h lt =
    let size = midway.filling.rest_sized q h lt in
    let dir = dir_from_entries _ size in (
      dir.0,
      dir.1,
      ap (λ p. length (entries_of p)) (sym dir.1) ∙ size,
      λ r small. ap (λ p. slice_index (entries_of p) r) (sym dir.1) ∙ midway.filling.rest q r h lt small,
    )

-- a list with page n set at place j
pub set_is_longer : (made : List ℕ) (j n : ℕ) → j < length made → IsLonger made (slice_set made j n) j n
set_is_longer made j n h = record {
  last = get_or-set_same made j n 0 h;
  before = λ q lt. get_or-set_other made j q n 0 (λ e. omega arith);
}

-- how many pages the deeper directory has
pub pages_when_doubled : (g : ℕ) → (g < 8 → 2 ^ ((g + 1) - 8) ≡ 1) × (8 ≤ g → 2 ^ ((g + 1) - 8) ≡ 2 * 2 ^ (g - 8))
pages_when_doubled g = (
  (λ (h : g < 8). let e : (g + 1) - 8 ≡ 0 = omega arith in ap (λ k. 2 ^ k) e),
  (λ (h : 8 ≤ g). let e : (g + 1) - 8 ≡ 1 + (g - 8) = omega arith in ap (λ k. 2 ^ k) e ∙ pow-add 2 1 (g - 8)),
)
