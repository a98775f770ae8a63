-- A split, once its directory pages are written
use Rattle.std.proofs.Common.{ℕ, ◌≡◌, ◌<◌, ◌≤◌, ◌+◌, ◌*◌, ◌^◌, ◌==◌, true, cond, map, Option, Some, None, refl, sym, ◌∙◌, ap, arith, [], ◌↔◌, eq-eqb, ne_eqb, nat_cmp}
use Rattle.mlt_hash_form.proofs.Names.{cond-true, cond-false, first_bits, bit_at, is_kept, half, Slot, Page, header_of, bucket_of, entry, lead_of, buckets_of, IsDirectory, HasForm, HasSlot, IsSpread, SplitsBucket, spread, target, Live, IsSplit, look_up}
use Rattle.std.specs.FinSet as set
use Rattle.mlt_hash_form.proofs.{Bits.first_bits-first_bits, Bits.first_bits_below, Bits.first_bits_next, Same.form_same, Lookup.found, InPages.same_option}
use Rattle.mlt_hash_form.proofs.Splitting.{form_split, split_holds, split_lost, split_before, split_dropped}

-- the directory as the header of pages reads
abbrev old_of : (ℕ → Option Page) → ℕ → ℕ → ℕ
old_of pages root = entry pages (header_of (pages root)).dirs

module _ (bits : ℕ → ℕ) (active : set.FinSet nat_cmp) (pages pages' : ℕ → Option Page) (root b new seed : ℕ) (bounded : (k : ℕ) → bits k < 2 ^ 64) (file : HasForm bits pages root)
    (head' : pages' root ≡ Some (Page.Head (header_of (pages' root)))) (listed' : IsDirectory pages' (header_of (pages' root)).depth (header_of (pages' root)).dirs)
    (deeper : (header_of (pages root)).depth ≤ (header_of (pages' root)).depth) (room : (buckets_of pages b).depth < (header_of (pages' root)).depth)
    (seed_ok : seed < 2 ^ 64) (at_b : lead_of pages root seed ≡ b) (fresh : pages new ≡ None)
    (zeros : pages' b ≡ Some (Page.Bucket (record { depth = (buckets_of pages b).depth + 1; slots = map (half bits active (buckets_of pages b).depth 0) (buckets_of pages b).slots })))
    (ones : pages' new ≡ Some (Page.Bucket (record { depth = (buckets_of pages b).depth + 1; slots = map (half bits active (buckets_of pages b).depth 1) (buckets_of pages b).slots })))
    (others : (m : ℕ) → (m ≡ b → ⊥) → (m ≡ new → ⊥) → buckets_of pages' m ≡ buckets_of pages m)
    (reads : (i : ℕ) → i < 2 ^ (header_of (pages' root)).depth → entry pages' (header_of (pages' root)).dirs i ≡ target (old_of pages root) (header_of (pages root)).depth (header_of (pages' root)).depth (buckets_of pages b).depth (2 * first_bits (buckets_of pages b).depth seed + 1) new i) where
  lead_is : (x : ℕ) → x < 2 ^ 64 → lead_of pages' root x ≡ cond (first_bits ((buckets_of pages b).depth + 1) x == 2 * first_bits (buckets_of pages b).depth seed + 1) new (lead_of pages root x)
  lead_is x h =
      let g = (header_of (pages root)).depth in
      let g' = (header_of (pages' root)).depth in
      let l = (buckets_of pages b).depth in
      let top : g' ≤ 16 = listed'.small in
      let e = first_bits-first_bits (l + 1) g' x (omega arith) (omega arith) in
      let f = first_bits-first_bits g g' x deeper (omega arith) in
      let r = reads (first_bits g' x) (first_bits_below g' x (omega arith) h) in
      rw (e, f) at r

  deep : IsSpread bits (header_of (pages' root)).depth (lead_of pages root) (buckets_of pages)
  deep = form_same bits _ _ (lead_of pages root) (lead_of pages root) (buckets_of pages) bounded deeper (λ x h. refl) file.form

  goes : (x : ℕ) → x < 2 ^ 64 → lead_of pages root x ≡ b → bit_at (buckets_of pages b).depth x ≡ 1 → lead_of pages' root x ≡ new
  goes x h e s =
      let l = (buckets_of pages b).depth in
      let top : (header_of (pages' root)).depth ≤ 16 = listed'.small in
      let same : first_bits l x ≡ first_bits l seed = rw e at (deep.apart x seed h seed_ok (e ∙ sym at_b)) in
      let n = first_bits_next l x (omega arith) in
      let at : first_bits (l + 1) x ≡ 2 * first_bits l seed + 1 = omega (arith, n, s, same) in
      lead_is x h ∙ cond-true _ new _ (eq-eqb _ _ at)

  stays : (x : ℕ) → x < 2 ^ 64 → (lead_of pages root x ≡ b → bit_at (buckets_of pages b).depth x ≡ 1 → ⊥) → lead_of pages' root x ≡ lead_of pages root x
  stays x h not_both =
      let l = (buckets_of pages b).depth in
      let top : (header_of (pages' root)).depth ≤ 16 = listed'.small in
      let n = first_bits_next l x (omega arith) in
      let off : first_bits (l + 1) x ≡ 2 * first_bits l seed + 1 → ⊥ = λ e.
      let p : first_bits l seed ≡ first_bits l x = omega (arith, n, e) in
      let q : first_bits (buckets_of pages (lead_of pages root seed)).depth seed ≡ first_bits (buckets_of pages (lead_of pages root seed)).depth x = rw at_b p in
      not_both (sym (deep.together seed x seed_ok h q) ∙ at_b) (omega (arith, n, e)) in
      lead_is x h ∙ cond-false _ new _ (ne_eqb _ _ off)

  split : SplitsBucket bits active (spread (lead_of pages root) (buckets_of pages)) (spread (lead_of pages' root) (buckets_of pages')) b new
  split = record { zeros = ap bucket_of zeros; ones = ap bucket_of ones; others = others; goes = goes; stays = stays }

  no_slots : (buckets_of pages new).slots ≡ []
  no_slots = ap (λ p. (bucket_of p).slots) fresh

  small : (header_of (pages' root)).depth ≤ 64
  small = omega (arith, listed'.small)

  pub file_split : HasForm bits pages' root
  file_split = record {
    head = head';
    listed = listed';
    form = form_split bits active _ (lead_of pages root) (lead_of pages' root) (buckets_of pages) (buckets_of pages') b new bounded deep split no_slots seed seed_ok at_b room small;
  }

  pub file_split_holds : (t : Slot) → is_kept active t ≡ true → HasSlot (buckets_of pages') t ↔ HasSlot (buckets_of pages) t
  file_split_holds = split_holds bits active _ (lead_of pages root) (lead_of pages' root) (buckets_of pages) (buckets_of pages') b new bounded deep split no_slots seed seed_ok at_b room small

  values : (key : ℕ) → look_up bits pages' root key ≡ look_up bits pages root key
  values key =
      let now_found = λ (v : ℕ). found bits _ (lead_of pages' root) (buckets_of pages') file_split.form key v in
      let was_found = λ (v : ℕ). found bits _ (lead_of pages root) (buckets_of pages) file.form key v in
      let kept = λ (v : ℕ). file_split_holds (Live key v) refl in
      same_option _ _ (λ v e. (was_found v).0 ((kept v).0 ((now_found v).1 e))) (λ v e. (now_found v).0 ((kept v).1 ((was_found v).1 e)))

  pub file_is_split : IsSplit bits active pages pages' root b new
  file_is_split = record {
    form = file_split;
    values = values;
    kept = file_split_holds;
    lost = split_lost bits active _ (lead_of pages root) (lead_of pages' root) (buckets_of pages) (buckets_of pages') b new bounded deep split no_slots seed seed_ok at_b room small;
    before = split_before bits active _ (lead_of pages root) (lead_of pages' root) (buckets_of pages) (buckets_of pages') b new bounded deep split no_slots seed seed_ok at_b room small;
    dropped = split_dropped bits active _ (lead_of pages root) (lead_of pages' root) (buckets_of pages) (buckets_of pages') b new bounded deep split no_slots seed seed_ok at_b room small;
  }
