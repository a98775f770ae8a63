-- Where a split begins and closes
use Rattle.std.proofs.Common.{ℕ, ◌≡◌, ◌<◌, ◌≤◌, ◌+◌, ◌-◌, ◌*◌, ◌^◌, List, length, map, slice_index, Option, Some, None, sym, ◌∙◌, ap, arith, inl, inr, nat_cmp}
use Rattle.mlt_hash_form.proofs.Names.{cases_eq, first_bits, half, BucketFields, HeadFields, Page, header_of, entries_of, bucket_of, entry, lead_of, buckets_of, IsDirectory, HasForm, Writes, target, IsFilling, IsMidway, bucket_split, directory_change, IsSplit}
use Rattle.std.specs.FinSet as set
use Rattle.mlt_hash_form.proofs.{InPages.data_from_slots, Midway.fill_beside, SplitDone.file_is_split}
use Rattle.mlt_hash_form.proofs.FillEnds.{filled_reads, filled_listed, double_none, place_none, place_all}

module _ (bits : ℕ → ℕ) (active : set.FinSet nat_cmp) (base one two : ℕ → Option Page) (root b new seed : ℕ) (file : HasForm bits base root) (full : length (buckets_of base b).slots ≡ 8) (fresh : base new ≡ None)
    (first_write : Writes base one new (Page.Bucket (record { depth = (buckets_of base b).depth + 1; slots = map (half bits active (buckets_of base b).depth 1) (buckets_of base b).slots })))
    (second_write : Writes one two b (Page.Bucket (record { depth = (buckets_of base b).depth + 1; slots = map (half bits active (buckets_of base b).depth 0) (buckets_of base b).slots }))) where
  new_not_b : new ≡ b → ⊥
  new_not_b e =
      let none : length (buckets_of base b).slots ≡ 0 = ap (λ p. length (bucket_of p).slots) (ap base (sym e) ∙ fresh) in
      omega (arith, none)

  -- a page that is not one of the two is as in base
  else_same : (m : ℕ) → (m ≡ b → ⊥) → (m ≡ new → ⊥) → two m ≡ base m
  else_same m nb nn = second_write.others m nb ∙ first_write.others m nn

  root_same : two root ≡ base root
  root_same =
      else_same root
      (λ e.
      let c = data_from_slots (base b) full in
      let q : Some (Page.Head (header_of (base root))) ≡ Some (Page.Bucket c.0) = sym file.head ∙ ap base e ∙ c.1 in
      cc)
      (λ e.
      let q : Some (Page.Head (header_of (base root))) ≡ None = sym file.head ∙ ap base e ∙ fresh in
      cc)

  dirs_same : (q : ℕ) → q < 2 ^ ((header_of (base root)).depth - 8) → two (slice_index (header_of (base root)).dirs q) ≡ base (slice_index (header_of (base root)).dirs q)
  dirs_same q h =
      let sized = file.listed.full q h in
      else_same _
      (λ e. let c = data_from_slots (base b) full in let at = rw (e, c.1) at sized in absurd (omega (arith, at)))
      (λ e. let at = rw (e, fresh) at sized in absurd (omega (arith, at)))

  begun : (g' : ℕ) (made : List ℕ) (j k : ℕ) → IsFilling (directory_change (header_of (base root)).dirs (target (entry base (header_of (base root)).dirs) (header_of (base root)).depth g' (buckets_of base b).depth (2 * first_bits (buckets_of base b).depth seed + 1) new) (entry base (header_of (base root)).dirs) (2 ^ ((header_of (base root)).depth - 8))) two made j k → IsMidway (bucket_split bits active base root b new seed) g' two made j k
  begun g' made j k f = record {
    header = root_same;
    zeros = second_write.here;
    ones = second_write.others new new_not_b ∙ first_write.here;
    others = λ m nb nn. ap bucket_of (else_same m nb nn);
    filling = f;
  }

  -- a directory that is to be doubled
  pub midway_double : (g' : ℕ) (made : List ℕ) → IsMidway (bucket_split bits active base root b new seed) g' two made 0 0
  midway_double g' made = begun g' made 0 0 (double_none base two made _ _ _ file.listed dirs_same)

  -- a directory that is written in place, from the page of the run's first place on
  pub midway_place : (q0 : ℕ) → 256 * q0 ≤ (2 * first_bits (buckets_of base b).depth seed + 1) * 2 ^ ((header_of (base root)).depth - ((buckets_of base b).depth + 1)) → q0 ≤ 2 ^ ((header_of (base root)).depth - 8) → IsMidway (bucket_split bits active base root b new seed) (header_of (base root)).depth two (header_of (base root)).dirs q0 q0
  midway_place q0 h m = begun _ _ q0 q0 (place_none base two _ _ (buckets_of base b).depth (2 * first_bits (buckets_of base b).depth seed + 1) new file.listed q0 dirs_same h m)

module _ (bits : ℕ → ℕ) (active : set.FinSet nat_cmp) (base pages : ℕ → Option Page) (root b new seed : ℕ) (bounded : (k : ℕ) → bits k < 2 ^ 64) (file : HasForm bits base root) (seed_ok : seed < 2 ^ 64) (at_b : lead_of base root seed ≡ b) (fresh : base new ≡ None) where
  module _ (pages' : ℕ → Option Page) (made : List ℕ) (g' k : ℕ) (h' : HeadFields) (before : IsMidway (bucket_split bits active base root b new seed) g' pages made (2 ^ (g' - 8)) k) (writes : Writes pages pages' root (Page.Head h')) (depth : h'.depth ≡ g') (dirs : h'.dirs ≡ made) (small : g' ≤ 16) (deeper : (header_of (base root)).depth ≤ g') (room : (buckets_of base b).depth < g') where
    root_is : pages root ≡ Some (Page.Head (header_of (base root)))
    root_is = before.header ∙ file.head

    not_dir : length (entries_of (pages root)) ≡ 256 → ⊥
    not_dir e = let at = rw root_is at e in omega (arith, at)

    not_data : (n : ℕ) (c : BucketFields) → pages n ≡ Some (Page.Bucket c) → n ≡ root → ⊥
    not_data n c e f = let q : Some (Page.Head (header_of (base root))) ≡ Some (Page.Bucket c) = sym root_is ∙ ap pages (sym f) ∙ e in cc

    filling' : IsFilling (directory_change (header_of (base root)).dirs (target (entry base (header_of (base root)).dirs) (header_of (base root)).depth g' (buckets_of base b).depth (2 * first_bits (buckets_of base b).depth seed + 1) new) (entry base (header_of (base root)).dirs) (2 ^ ((header_of (base root)).depth - 8))) pages' made (2 ^ (g' - 8)) k
    filling' = fill_beside pages pages' made _ _ _ _ k _ root (Page.Head h') before.filling writes not_dir

    header_is : header_of (pages' root) ≡ h'
    header_is = ap header_of writes.here

    others' : (m : ℕ) → (m ≡ b → ⊥) → (m ≡ new → ⊥) → buckets_of pages' m ≡ buckets_of base m
    others' m nb nn =
        elim (cases_eq m root) [
          | inl e ↦ rw e (ap bucket_of writes.here ∙ sym (ap bucket_of file.head))
          | inr ne ↦ ap bucket_of (writes.others m ne) ∙ before.others m nb nn
        ]

    -- the header is written last: the file has its form, and lost nothing
    pub split_closes : IsSplit bits active base pages' root b new
    split_closes =
        let head' : pages' root ≡ Some (Page.Head (header_of (pages' root))) = rw header_is writes.here in
        let listed' : IsDirectory pages' (header_of (pages' root)).depth (header_of (pages' root)).dirs = rw (header_is, depth, dirs) (filled_listed pages' made _ _ _ g' k _ small filling') in
        let deeper' : (header_of (base root)).depth ≤ (header_of (pages' root)).depth = rw (header_is, depth) deeper in
        let room' : (buckets_of base b).depth < (header_of (pages' root)).depth = rw (header_is, depth) room in
        let zeros' = writes.others b (not_data b _ before.zeros) ∙ before.zeros in
        let ones' = writes.others new (not_data new _ before.ones) ∙ before.ones in
        let reads' : (i : ℕ) → i < 2 ^ (header_of (pages' root)).depth → entry pages' (header_of (pages' root)).dirs i ≡ target (entry base (header_of (base root)).dirs) (header_of (base root)).depth (header_of (pages' root)).depth (buckets_of base b).depth (2 * first_bits (buckets_of base b).depth seed + 1) new i
        = rw (header_is, depth, dirs) (filled_reads pages' made _ _ _ g' k _ filling') in
        file_is_split bits active base pages' root b new seed bounded file head' listed' deeper' room' seed_ok at_b fresh zeros' ones' others' reads'

  -- in place there is no header to write: the last directory page closes the split
  pub split_closes_in_place : (q1 : ℕ) → IsMidway (bucket_split bits active base root b new seed) (header_of (base root)).depth pages (header_of (base root)).dirs q1 q1 → (2 * first_bits (buckets_of base b).depth seed + 1) * 2 ^ ((header_of (base root)).depth - ((buckets_of base b).depth + 1)) + 2 ^ ((header_of (base root)).depth - ((buckets_of base b).depth + 1)) ≤ 256 * q1 → (buckets_of base b).depth < (header_of (base root)).depth → IsSplit bits active base pages root b new
  split_closes_in_place q1 m h room =
      let f = place_all base pages _ _ (buckets_of base b).depth (2 * first_bits (buckets_of base b).depth seed + 1) new file.listed q1 m.filling h in
      let same : header_of (pages root) ≡ header_of (base root) = ap header_of m.header in
      let head' : pages root ≡ Some (Page.Head (header_of (pages root))) = rw same (m.header ∙ file.head) in
      let listed' : IsDirectory pages (header_of (pages root)).depth (header_of (pages root)).dirs = rw same (filled_listed pages _ _ _ _ _ _ _ file.listed.small f) in
      let deeper' : (header_of (base root)).depth ≤ (header_of (pages root)).depth = rw same (omega arith) in
      let room' : (buckets_of base b).depth < (header_of (pages root)).depth = rw same room in
      let reads' : (i : ℕ) → i < 2 ^ (header_of (pages root)).depth → entry pages (header_of (pages root)).dirs i ≡ target (entry base (header_of (base root)).dirs) (header_of (base root)).depth (header_of (pages root)).depth (buckets_of base b).depth (2 * first_bits (buckets_of base b).depth seed + 1) new i
      = rw same (filled_reads pages _ _ _ _ _ _ _ f) in
      file_is_split bits active base pages root b new seed bounded file head' listed' deeper' room' seed_ok at_b fresh m.zeros m.ones m.others reads'
