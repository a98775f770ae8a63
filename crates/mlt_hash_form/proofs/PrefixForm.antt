-- The form by pseudokeys and the form by the entries of the directory say the same
use Rattle.std.proofs.Common.{ℕ, ◌≡◌, ◌<◌, ◌≤◌, ◌-◌, ◌/◌, ◌^◌, true, length, slice_index, Option, refl, sym, ◌∙◌, ap, arith, ◌↔◌, nat_cmp}
use Rattle.std.specs.FinSet as set
use Rattle.mlt_hash_form.proofs.Names.{first_bits, key_of, BucketFields, Live, Page, header_of, bucket_of, entry, lead_of, buckets_of, HasForm, IsOnceLive, slot_at, is_used, IsSpread}
use Rattle.mlt_hash_form.{specs.Prefixes.IsDirPage, specs.Prefixes.IsBucketPage, specs.Prefixes.HasOnePrefix, specs.Prefixes.IsExtendibleHashFile, proofs.InPages.dir_from_entries, proofs.InPages.data_from_slots, proofs.Splitting.used_from_kept}
use Rattle.mlt_hash_form.proofs.Bits.{first_bits-first_bits, first_bits_below, with_first_bits, first_bits-with_first_bits, with_first_bits_below}

module _ (bits : ℕ → ℕ) (pages : ℕ → Option Page) (root : ℕ) (bounded : (k : ℕ) → bits k < 2 ^ 64) (file : HasForm bits pages root) where
  abbrev g : ℕ
  g = (header_of (pages root)).depth

  abbrev names : ℕ → ℕ
  names = entry pages (header_of (pages root)).dirs

  deep : g ≤ 64
  deep = omega (arith, file.listed.small)

  -- the pseudokey of a place
  abbrev key_at : ℕ → ℕ
  key_at place = with_first_bits g place

  key_at_below : (place : ℕ) → place < 2 ^ g → key_at place < 2 ^ 64
  key_at_below place h = with_first_bits_below g place deep h

  leads_to : (place : ℕ) → lead_of pages root (key_at place) ≡ names place
  leads_to place = ap names (first_bits-with_first_bits g place)

  dir_page : (q : ℕ) → q < 2 ^ (g - 8) → IsDirPage (pages (slice_index (header_of (pages root)).dirs q))
  dir_page q h =
      let full = file.listed.full q h in
      let d = dir_from_entries _ full in
      (d.0, d.1, rw d.1 at full)

  named_page : (place : ℕ) → place < 2 ^ g → (bucket : BucketFields) × IsBucketPage (pages (names place)) bucket
  named_page place h =
      let full : length (buckets_of pages (names place)).slots ≡ 8 = rw (leads_to place) at (file.form.whole (key_at place) (key_at_below place h)) in
      let b = data_from_slots (pages (names place)) full in
      (b.0, (b.1, ap (λ (p : Option Page). length (bucket_of p).slots) (sym b.1) ∙ full))

  module _ (n : ℕ) (bucket : BucketFields) (is : IsBucketPage (pages n) bucket) where
    bucket_is : buckets_of pages n ≡ bucket
    bucket_is = ap bucket_of is.0

    reached_by : (x : ℕ) × (x < 2 ^ 64) × (lead_of pages root x ≡ n)
    reached_by = file.form.reached n (rw bucket_is is.1)

    depth_at : (x : ℕ) → lead_of pages root x ≡ n → (buckets_of pages (lead_of pages root x)).depth ≡ bucket.depth
    depth_at x e = ap (λ m. (buckets_of pages m).depth) e ∙ ap (λ (b : BucketFields). b.depth) bucket_is

    shallow : bucket.depth ≤ g
    shallow =
        let r = reached_by in
        let d = depth_at r.0 r.2 in
        let f = file.form.fine r.0 r.1 in
        omega (arith, d, f)

    front_of_place : (place : ℕ) → first_bits bucket.depth (key_at place) ≡ place / 2 ^ (g - bucket.depth)
    front_of_place place = sym (first_bits-first_bits bucket.depth g (key_at place) shallow deep) ∙ ap (λ p. p / 2 ^ (g - bucket.depth)) (first_bits-with_first_bits g place)

    one_prefix : HasOnePrefix names g bucket.depth n
    one_prefix =
        let r = reached_by in
        let small : bucket.depth ≤ 64 = omega (arith, shallow, deep) in (
          first_bits bucket.depth r.0,
          first_bits_below bucket.depth r.0 small r.1,
          λ place h. (
            (λ (e : names place ≡ n).
                let at : lead_of pages root (key_at place) ≡ n = leads_to place ∙ e in
                let same = file.form.apart (key_at place) r.0 (key_at_below place h) r.1 (at ∙ sym r.2) in
                let d = depth_at (key_at place) at in
                sym (front_of_place place) ∙ rw d at same),
            (λ (e : place / 2 ^ (g - bucket.depth) ≡ first_bits bucket.depth r.0).
                let d = depth_at r.0 r.2 in
                let front : first_bits bucket.depth r.0 ≡ first_bits bucket.depth (key_at place) = sym e ∙ sym (front_of_place place) in
                let same = file.form.together r.0 (key_at place) r.1 (key_at_below place h) (rw d front) in
                sym (leads_to place) ∙ sym same ∙ r.2),
          ),
        )

  pub once_live : IsOnceLive pages
  once_live n m i j key v w e f =
      let at : lead_of pages root (bits key) ≡ n = rw e at (file.form.home n i (rw e refl)) in
      let at2 : lead_of pages root (bits key) ≡ m = rw f at (file.form.home m j (rw f refl)) in
      let same : n ≡ m = sym at ∙ at2 in
      let f' : slot_at (buckets_of pages) n j ≡ Live key w = rw same f in
      (same, file.form.once n i j key v w e f')

  pub prefix_form : (active : set.FinSet nat_cmp) → IsExtendibleHashFile bits active pages root
  prefix_form active = record {
    header = file.head;
    small = file.listed.small;
    directory = dir_page;
    apart = file.listed.once;
    named = named_page;
    prefix = λ n bucket is. (shallow n bucket is, one_prefix n bucket is);
    home = λ n i k. file.form.home n i (used_from_kept active _ k);
    once = once_live;
  }

-- and back, where the ghosts of closed owners lie where their keys lead, too
module _ (bits : ℕ → ℕ) (active : set.FinSet nat_cmp) (pages : ℕ → Option Page) (root : ℕ) (file : IsExtendibleHashFile bits active pages root) (home : (n i : ℕ) → is_used (slot_at (buckets_of pages) n i) ≡ true → lead_of pages root (bits (key_of (slot_at (buckets_of pages) n i))) ≡ n) where
  abbrev depth : ℕ
  depth = (header_of (pages root)).depth

  low : depth ≤ 64
  low = omega (arith, file.small)

  -- the bucket that a pseudokey leads to
  bucket_at : (x : ℕ) → x < 2 ^ 64 → (bucket : BucketFields) × IsBucketPage (pages (lead_of pages root x)) bucket
  bucket_at x h = file.named (first_bits depth x) (first_bits_below depth x low h)

  is_bucket : (n : ℕ) (bucket : BucketFields) → IsBucketPage (pages n) bucket → buckets_of pages n ≡ bucket
  is_bucket n bucket is = ap bucket_of is.0

  fine : (x : ℕ) → x < 2 ^ 64 → (buckets_of pages (lead_of pages root x)).depth ≤ depth
  fine x h = let b = bucket_at x h in rw (is_bucket _ b.0 b.1) (file.prefix _ b.0 b.1).0

  -- the prefix of the bucket that x leads to
  front : (n : ℕ) (bucket : BucketFields) (is : IsBucketPage (pages n) bucket) (x : ℕ) → x < 2 ^ 64 → (lead_of pages root x ≡ n) ↔ (first_bits bucket.depth x ≡ (file.prefix n bucket is).1.0)
  front n bucket is x h =
      let p = file.prefix n bucket is in
      let r = p.1.2 (first_bits depth x) (first_bits_below depth x low h) in
      let e = first_bits-first_bits bucket.depth depth x p.0 low in
      (λ (at : lead_of pages root x ≡ n). sym e ∙ r.0 at, λ (at : first_bits bucket.depth x ≡ p.1.0). r.1 (e ∙ at))

  spread : IsSpread bits depth (lead_of pages root) (buckets_of pages)
  spread = record {
    whole = λ x h. let b = bucket_at x h in rw (is_bucket _ b.0 b.1) b.1.1;
    fine = fine;
    apart = λ x y h k e.
        let b = bucket_at x h in
        let fx = (front _ b.0 b.1 x h).0 refl in
        let fy = (front _ b.0 b.1 y k).0 (sym e) in
        rw (is_bucket _ b.0 b.1) (fx ∙ sym fy);
    together = λ x y h k e.
        let b = bucket_at x h in
        let fx = (front _ b.0 b.1 x h).0 refl in
        let e' = rw (is_bucket _ b.0 b.1) at e in
        sym ((front _ b.0 b.1 y k).1 (sym e' ∙ fx));
    reached = λ n full.
        let b = data_from_slots (pages n) full in
        let is : IsBucketPage (pages n) b.0 = (b.1, ap (λ (p : Option Page). length (bucket_of p).slots) (sym b.1) ∙ full) in
        let p = file.prefix n b.0 is in
        let x = with_first_bits b.0.depth p.1.0 in
        let deep : b.0.depth ≤ 64 = omega (arith, p.0, low) in
        let below = with_first_bits_below b.0.depth p.1.0 deep p.1.1 in
        (x, below, (front n b.0 is x below).1 (first_bits-with_first_bits b.0.depth p.1.0));
    home = home;
    once = λ n i j key v w e f. (file.once n n i j key v w e f).1;
  }

  pub form_from_prefixes : HasForm bits pages root
  form_from_prefixes = record {
    head = file.header;
    listed = record {
      small = file.small;
      full = λ q h. let d = file.directory q h in rw d.1 d.2;
      once = file.apart;
    };
    form = spread;
  }
