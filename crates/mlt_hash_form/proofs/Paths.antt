-- The path of a pseudokey: there is one, it leads to the bucket, and each slot of a key lies there.
-- Other crates cite this module.
use Rattle.std.proofs.Common.{ℕ, ◌≡◌, ◌<◌, ◌≤◌, ◌/◌, ◌%◌, ◌^◌, true, List, slice_index, get_or, Option, Some, refl, sym, ◌∙◌, ap, subst, arith, ◌↔◌}
use Rattle.mlt_hash_form.proofs.Names.{first_bits, key_of, BucketFields, HeadFields, Slot, Free, Page, IsHome, header_of, entries_of, bucket_of, lead_of, buckets_of, HasForm, IsPath, HasSlot, is_used, slot_at}
use Rattle.mlt_hash_form.{specs.File.dir_of, specs.File.row_of, proofs.Bits.first_bits_below, proofs.FillEnds.page_listed, proofs.InPages.dir_from_entries, proofs.InPages.data_from_slots, proofs.InPages.led_at}

-- each pseudokey has a path
pub path_of : (bits : ℕ → ℕ) (pages : ℕ → Option Page) (root x : ℕ) → x < 2 ^ 64 → HasForm bits pages root → (header : HeadFields) × (dir : List ℕ) × (n : ℕ) × (bucket : BucketFields) × IsPath pages root x header dir n bucket
path_of bits pages root x h file =
    let header = header_of (pages root) in
    let place = first_bits header.depth x in
    let low : header.depth ≤ 64 = omega (arith, file.listed.small) in
    let listed = page_listed header.depth place (first_bits_below header.depth x low h) in
    let dir = dir_from_entries _ (file.listed.full (place / 256) listed) in
    let bucket = data_from_slots (pages (lead_of pages root x)) (file.form.whole x h) in (
      header,
      dir.0,
      lead_of pages root x,
      bucket.0,
      record {
        head = file.head;
        listed = dir.1;
        at = sym (ap (λ p. slice_index (entries_of p) (place % 256)) dir.1);
        found = bucket.1;
      },
    )

-- what two have of a page is one page
pub one_page : (found : Option Page) (read page : Page) → found ≡ Some read → found ≡ Some page → read ≡ page
one_page found read page is_read is = let same : Some read ≡ Some page = sym is_read ∙ is in cc

-- a path goes on from its header,
pub path_from_header : (bits : ℕ → ℕ) (pages : ℕ → Option Page) (root x : ℕ) (header : HeadFields) → x < 2 ^ 64 → HasForm bits pages root → pages root ≡ Some (Page.Head header)
    → (dir : List ℕ) × (n : ℕ) × (bucket : BucketFields) × IsPath pages root x header dir n bucket
path_from_header bits pages root x header below form head =
    let path = path_of bits pages root x below form in
    subst (λ (header : HeadFields). (dir : List ℕ) × (n : ℕ) × (bucket : BucketFields) × IsPath pages root x header dir n bucket) (ap header_of (sym path.4.head ∙ head)) (path.1, path.2, path.3, path.4)

-- and from its directory page
pub path_from_dir : (bits : ℕ → ℕ) (pages : ℕ → Option Page) (root x : ℕ) (header : HeadFields) (dir : List ℕ) → x < 2 ^ 64 → HasForm bits pages root → pages root ≡ Some (Page.Head header)
    → pages (dir_of header x) ≡ Some (Page.Dir dir)
    → (bucket : BucketFields) × IsPath pages root x header dir (slice_index dir (row_of header x)) bucket
path_from_dir bits pages root x header dir below form head listed =
    let path = path_from_header bits pages root x header below form head in
    let same : path.0 ≡ dir = ap entries_of (sym path.3.listed ∙ listed) in
    let at : path.1 ≡ slice_index dir (row_of header x) = sym path.3.at ∙ ap (λ dir. slice_index dir (row_of header x)) same in
    (path.2, record { head = head; listed = listed; at = refl; found = sym (ap pages at) ∙ path.3.found })

module _ (bits : ℕ → ℕ) (pages : ℕ → Option Page) (root key : ℕ) (header : HeadFields) (dir : List ℕ) (n : ℕ) (bucket : BucketFields) (bounded : (k : ℕ) → bits k < 2 ^ 64) (file : HasForm bits pages root) (path : IsPath pages root (bits key) header dir n bucket) where
  leads : lead_of pages root (bits key) ≡ n
  leads = (led_at pages root (bits key) header dir n bucket path).0

  header_is : header_of (pages root) ≡ header
  header_is = ap header_of path.head

  bucket_is : buckets_of pages n ≡ bucket
  bucket_is = ap bucket_of path.found

  pub path_home : IsHome bits pages root key n bucket
  path_home = record { bounded = bounded; form = file; leads = leads; found = path.found }

  pub path_depths : (bucket.depth ≤ header.depth) × (header.depth ≤ 16)
  path_depths =
      let d : (buckets_of pages (lead_of pages root (bits key))).depth ≡ bucket.depth = ap (λ m. (buckets_of pages m).depth) leads ∙ ap (λ (b : BucketFields). b.depth) bucket_is in
      let g : (header_of (pages root)).depth ≡ header.depth = ap (λ (h : HeadFields). h.depth) header_is in
      let fine = file.form.fine (bits key) (bounded key) in
      let small = file.listed.small in
      (omega (arith, d, g, fine), omega (arith, g, small))

  -- a slot that is not free, of this key, lies in this bucket
  pub slots_of_key : (t : Slot) → is_used t ≡ true → key_of t ≡ key → HasSlot (buckets_of pages) t ↔ ((i : ℕ) × (get_or bucket.slots i Free ≡ t))
  slots_of_key t used is = (
    (λ (h : HasSlot (buckets_of pages) t).
        let home : lead_of pages root (bits (key_of t)) ≡ h.0 = rw h.2 at (file.form.home h.0 h.1 (rw h.2 used)) in
        let here : h.0 ≡ n = sym home ∙ ap (λ k. lead_of pages root (bits k)) is ∙ leads in
        let at : slot_at (buckets_of pages) n h.1 ≡ t = ap (λ m. slot_at (buckets_of pages) m h.1) (sym here) ∙ h.2 in
        (h.1, ap (λ (b : BucketFields). get_or b.slots h.1 Free) (sym bucket_is) ∙ at)),
    (λ (h : (i : ℕ) × (get_or bucket.slots i Free ≡ t)). (n, h.0, ap (λ (b : BucketFields). get_or b.slots h.0 Free) bucket_is ∙ h.1)),
  )
