-- The slots of the clean buckets, listed by the places of the directory, show the base to which the history leads
use Rattle.std.proofs.Common.{◌≡◌, ◌⊎◌, ℕ, true, ◌+◌, ◌<◌, ◌≤◌, ◌/◌, ◌%◌, ◌^◌, List, [], ◌∷◌, ◌++◌, Contains, slice_index, get_or, Option, None, Some, option_to_list, Bool, cond, eqb, eqb-true, eq-eqb, zero, suc, refl, sym, ap, subst, ◌∙◌, inl, inr, arith, nat_cmp}
use Rattle.std.proofs.lemmas.{Bool.both_ways, Bool.cases_Bool, Bool.cases_lt, Bool.cond-false, Bool.cond-true, List.Elements.Contains-append_cases, List.Elements.Contains-append_left, List.Elements.Contains-append_right}
use Rattle.mlt_manager.proofs.Names.{pow-le-pow_right, Cell, Account, Element, Counter, Size, IsInRange, key_number, state_at, Means, IsRecord, state_of_record, BucketFields, HeadFields, Page, Slot, FilePages, GivesPseudokeys, HasForm, bucket_of, header_of, live_records, clean_pages, AreSlotsOf, HasCleanPage, HasCleanPages, HasDepth, IsManager, ManagerFields}
use Rattle.std.specs.FinMap as map
use Rattle.mlt_object_base.proofs.Meanings.{below_or_not}
use Rattle.mlt_page.specs.{Bits.first_bits, declared.slot.Slot.TheVariants.Free, declared.slot.Slot.TheVariants.Ghost, declared.slot.Slot.TheVariants.Live, Slots.key_of}
use Rattle.mlt_page_locks.proofs.Maps.{same_entries}
use Rattle.mlt_hash_form.specs.{File.buckets_of, File.depth_of, File.dirs_of, File.entries_of, File.entry, File.lead_of, File.look_up, Form.is_used, Form.slot_at}
use Rattle.mlt_hash_form.{specs.Form.value_in, proofs.Bits.first_bits-with_first_bits, proofs.Bits.first_bits_below, proofs.Bits.with_first_bits, proofs.Bits.with_first_bits_below, proofs.Lookup.found as record_found, proofs.Lookup.live_from_value, proofs.Lookup.value_from_live, proofs.MapChanges.map_is_look_up, proofs.Paths.path_of}
use Rattle.mlt_manager_invariant.specs.Copies.{HasLive}
use Rattle.mlt_manager.{specs.CleanBuckets.IsCleanBucket, specs.CleanBuckets.IsCleanDirectory, specs.CleanBuckets.IsBucketOfPseudokey, specs.CleanBuckets.IsCleanHead, specs.CleanBuckets.IsTrueOfClean, specs.CleanBuckets.live_value, specs.CleanBuckets.live_values, specs.Images.HasSlotsBelow, specs.Images.ShowState, proofs.CleanPages.pages_clean, proofs.CleanPages.same_clean, proofs.Headline.contained, proofs.Headline.record_of_slot}

-- where no slot is a live one of a key it has no values,
values_none : (key : ℕ) (slots : List Slot) → ((i value : ℕ) → get_or slots i Free ≡ Live key value → ⊥) → live_values key slots ≡ []
values_none key [] none = refl
values_none key (slot ∷ rest) none =
    ap (λ (l : List ℕ). l ++ live_values key rest) (first slot refl) ∙ values_none key rest (λ i value is. none (suc i) value is)
  where
    first : (s : Slot) → slot ≡ s → live_value key s ≡ []
    first Free is = refl
    first (Ghost other value owner) is = refl
    first (Live other value) is =
        elim (cases_Bool (eqb other key)) [
          | inl same ↦ absurd (none 0 value (is ∙ ap (λ (k : ℕ). Live k value) (eqb-true other key same)))
          | inr not ↦ cond-false _ _ _ not
        ]

-- and else that of the only one
values_one : (key value i : ℕ) (slots : List Slot) → ((i j v w : ℕ) → get_or slots i Free ≡ Live key v → get_or slots j Free ≡ Live key w → i ≡ j) → get_or slots i Free ≡ Live key value → live_values key slots ≡ value ∷ []
values_one key value i [] alone is = (let none : Free ≡ Live key value = is in cc)
values_one key value zero (slot ∷ rest) alone is =
    ap (λ (s : Slot). live_value key s ++ live_values key rest) is
    ∙ ap (λ (l : List ℕ). l ++ live_values key rest) (cond-true _ _ _ (eq-eqb key key refl))
    ∙ ap (λ (l : List ℕ). value ∷ l) (values_none key rest (λ j w at. absurd (let apart = alone 0 (suc j) value w is at in omega (arith, apart))))
values_one key value (suc i) (slot ∷ rest) alone is =
    ap (λ (l : List ℕ). l ++ live_values key rest) (first slot refl) ∙ values_one key value i rest (λ a b v w one two. let same = alone (suc a) (suc b) v w one two in omega (arith, same)) is
  where
    first : (s : Slot) → slot ≡ s → live_value key s ≡ []
    first Free at = refl
    first (Ghost other v owner) at = refl
    first (Live other v) at =
        elim (cases_Bool (eqb other key)) [
          | inl same ↦ absurd (let apart = alone 0 (suc i) v value (at ∙ ap (λ (k : ℕ). Live k v) (eqb-true other key same)) is in omega (arith, apart))
          | inr not ↦ cond-false _ _ _ not
        ]

-- so they are what is found of the key
values_are : (key : ℕ) (slots : List Slot) → ((i j v w : ℕ) → get_or slots i Free ≡ Live key v → get_or slots j Free ≡ Live key w → i ≡ j) → live_values key slots ≡ option_to_list (value_in key slots)
values_are key slots alone = by (value_in key slots) refl
  where
    by : (o : Option ℕ) → value_in key slots ≡ o → live_values key slots ≡ option_to_list o
    by None is = values_none key slots (λ i value at.
        let some = value_from_live key value i slots (λ j w also. alone i j value w at also) at in
        let wrong : None ≡ Some value = sym is ∙ some in cc)
    by (Some value) is = let at = live_from_value key value slots is in values_one key value at.0 slots alone at.1

-- a live slot is used
live_used : (key value : ℕ) (s : Slot) → s ≡ Live key value → is_used s ≡ true
live_used key value s is = ap is_used is

in_range_or_not : (c : Cell) → IsInRange c ⊎ (IsInRange c → ⊥)
in_range_or_not (Account a) = below_or_not a (2 ^ 32)
in_range_or_not (Counter c) = below_or_not c (2 ^ 32)
in_range_or_not (Size s) = below_or_not s (2 ^ 16)
in_range_or_not (Element s e) =
    elim (below_or_not s (2 ^ 16)) [
      | inl h ↦ elim (below_or_not e (2 ^ 32)) [ inl k ↦ inl (h, k) | inr n ↦ inr (λ x. n x.1) ]
      | inr n ↦ inr (λ x. n x.0)
    ]

-- a place of the directory leads to this bucket
pub record LeadsAt (pages : FilePages) (root place : ℕ) : Type 0 where
  pub header : HeadFields
  pub dir : List ℕ
  pub bucket : BucketFields
  pub head : pages root ≡ Some (Page.Head header)
  pub listed : pages (slice_index header.dirs (place / 256)) ≡ Some (Page.Dir dir)
  pub found : pages (slice_index dir (place % 256)) ≡ Some (Page.Bucket bucket)

module _ (bits : ℕ → ℕ) (pages : FilePages) (root : ℕ) (form : HasForm bits pages root) where
  leads_at : (place : ℕ) → place < 2 ^ depth_of pages root → LeadsAt pages root place
  leads_at place within =
      let depth = depth_of pages root in
      let low : depth ≤ 64 = omega (arith, form.listed.small) in
      let x = with_first_bits depth place in
      let path = path_of bits pages root x (with_first_bits_below depth place low within) form in
      let same : path.0.depth ≡ depth = sym (ap (λ (p : Option Page). (header_of p).depth) path.4.head) in
      let at : first_bits path.0.depth x ≡ place = ap (λ (d : ℕ). first_bits d x) same ∙ first_bits-with_first_bits depth place in
      record {
        header = path.0;
        dir = path.1;
        bucket = path.3;
        head = path.4.head;
        listed = subst (λ (p : ℕ). pages (slice_index path.0.dirs (p / 256)) ≡ Some (Page.Dir path.1)) at path.4.listed;
        found = ap pages (ap (λ (p : ℕ). slice_index path.1 (p % 256)) (sym at) ∙ path.4.at) ∙ path.4.found;
      }

module _ {P : Type 0} (bits_of : P → ℕ → ℕ) (m : ManagerFields P) (h : IsManager bits_of m) where
  abbrev pub clean : map.FinMap nat_cmp Page
  clean = clean_pages h.images m.shared.pages.store.pages

  abbrev pub pages : FilePages
  pages = map.get clean

  abbrev pub bits : ℕ → ℕ
  bits = bits_of m.root.pseudo

  abbrev pub depth : ℕ
  depth = depth_of pages m.root.page

  form : HasForm bits pages m.root.page
  form = h.sound.match.file.form

  bounded : GivesPseudokeys bits
  bounded = h.sound.match.file.bounded

  means : Means (live_records clean) h.base
  means = h.sound.match.records.means

  all_clean : HasCleanPages m clean
  all_clean = pages_clean bits_of m h.images h.base h.sound

  -- ---- what is read

  -- a page that is clean is so on all clean pages
  on_each : (q : ℕ) (p : Option Page) → HasCleanPage m q p → IsTrueOfClean m (λ (pages : FilePages). pages q ≡ p)
  on_each q p is other other_clean = same_clean m other is.clean q other_clean is.is_clean ∙ is.has

  pub depth_is : (d : ℕ) → HasDepth m d → d ≡ depth
  depth_is d is = sym is.is_depth ∙ ap (λ (p : Option Page). (header_of p).depth) (same_clean m is.clean clean m.root.page is.is_clean all_clean)

  pub led : (place d : ℕ) → HasDepth m d → place < 2 ^ d → LeadsAt pages m.root.page place
  led place d is within = leads_at bits pages m.root.page form place (subst (λ (n : ℕ). place < 2 ^ n) (depth_is d is) within)

  pub few_places : (place d : ℕ) → HasDepth m d → place < 2 ^ d → place / 256 < 256
  few_places place d is within =
      let small : d ≤ 16 = subst (λ (n : ℕ). n ≤ 16) (sym (depth_is d is)) form.listed.small in
      let most : 2 ^ d ≤ 2 ^ 16 = pow-le-pow_right {n = 2} (omega arith) small in
      omega (arith, most, within)

  pub head_read : (head : HeadFields) (p : Option Page) → HasCleanPage m m.root.page p → p ≡ Some (Page.Head head) → IsCleanHead m head
  head_read head p is read other other_clean = on_each m.root.page p is other other_clean ∙ read

  same_header : (one other : HeadFields) → pages m.root.page ≡ Some (Page.Head one) → pages m.root.page ≡ Some (Page.Head other) → one ≡ other
  same_header one other is also = ap header_of (sym is ∙ also)

  -- the page that the header names is one of the directory,
  pub directory_there : (place d : ℕ) → HasDepth m d → place < 2 ^ d → (head : HeadFields) → IsCleanHead m head → (number : ℕ) → number ≡ slice_index head.dirs (place / 256)
      → (p : Option Page) → HasCleanPage m number p → (dir : List ℕ) × (p ≡ Some (Page.Dir dir))
  directory_there place d is within head is_head number named p clean_page =
      let way = led place d is within in
      let same : head ≡ way.header = same_header head way.header (is_head clean all_clean) way.head in
      let at : number ≡ slice_index way.header.dirs (place / 256) = named ∙ ap (λ (x : HeadFields). slice_index x.dirs (place / 256)) same in
      (way.dir, sym (on_each number p clean_page clean all_clean) ∙ ap pages at ∙ way.listed)

  pub directory_read : (place : ℕ) (head : HeadFields) → IsCleanHead m head → (number : ℕ) → number ≡ slice_index head.dirs (place / 256)
      → (dir : List ℕ) (p : Option Page) → HasCleanPage m number p → p ≡ Some (Page.Dir dir) → IsCleanDirectory m place dir
  directory_read place head is_head number named dir p is read other other_clean =
      let at : slice_index (dirs_of (map.get other) m.root.page) (place / 256) ≡ number =
      ap (λ (x : Option Page). slice_index (header_of x).dirs (place / 256)) (is_head other other_clean) ∙ sym named in
      ap (map.get other) at ∙ on_each number p is other other_clean ∙ read

  -- and the page that this names is a bucket
  pub bucket_there : (place d : ℕ) → HasDepth m d → place < 2 ^ d → (dir : List ℕ) → IsCleanDirectory m place dir → (number : ℕ) → number ≡ slice_index dir (place % 256)
      → (p : Option Page) → HasCleanPage m number p → (bucket : BucketFields) × (p ≡ Some (Page.Bucket bucket))
  bucket_there place d is within dir is_dir number named p clean_page =
      let way = led place d is within in
      let listed : pages (slice_index (dirs_of pages m.root.page) (place / 256)) ≡ Some (Page.Dir way.dir) =
      ap (λ (x : Option Page). pages (slice_index (header_of x).dirs (place / 256))) way.head ∙ way.listed in
      let same : dir ≡ way.dir = ap entries_of (sym (is_dir clean all_clean) ∙ listed) in
      let at : number ≡ slice_index way.dir (place % 256) = named ∙ ap (λ (x : List ℕ). slice_index x (place % 256)) same in
      (way.bucket, sym (on_each number p clean_page clean all_clean) ∙ ap pages at ∙ way.found)

  pub bucket_read : (place : ℕ) (dir : List ℕ) → IsCleanDirectory m place dir → (number : ℕ) → number ≡ slice_index dir (place % 256)
      → (bucket : BucketFields) (p : Option Page) → HasCleanPage m number p → p ≡ Some (Page.Bucket bucket) → IsCleanBucket m place bucket
  bucket_read place dir is_dir number named bucket p is read other other_clean =
      let at : entry (map.get other) (dirs_of (map.get other) m.root.page) place ≡ number =
      ap (λ (x : Option Page). slice_index (entries_of x) (place % 256)) (is_dir other other_clean) ∙ sym named in
      ap (map.get other) at ∙ on_each number p is other other_clean ∙ read

  -- ---- what is copied

  pub slots_of_base : (place : ℕ) (bucket : BucketFields) → IsCleanBucket m place bucket → AreSlotsOf bucket.slots h.base
  slots_of_base place bucket is cell value in_range has =
      let number = entry pages (dirs_of pages m.root.page) place in
      let key = key_number cell in
      let record_there = record_of_slot clean key value number bucket (is clean all_clean) has in
      let live : map.get (live_records clean) key ≡ Some value =
      map_is_look_up bits clean m.root.page bounded form key ∙ (record_found bits depth (lead_of pages m.root.page) (buckets_of pages) form.form key value).0 record_there in
      (subst (IsRecord cell) live (means.can_be cell in_range), means.holds cell in_range ∙ ap (state_of_record cell) live)

  -- ---- what is listed

  -- clean pages are these
  is_of_clean : (Is : FilePages → Type 0) → Is pages → IsTrueOfClean m Is
  is_of_clean Is is other other_clean = subst (λ (c : map.FinMap nat_cmp Page). Is (map.get c)) (sym (same_entries other clean (λ q. same_clean m other clean q other_clean all_clean))) is

  same_bucket : (place : ℕ) (one other : BucketFields) → IsCleanBucket m place one → IsCleanBucket m place other → one ≡ other
  same_bucket place one other is also = ap bucket_of (sym (is clean all_clean) ∙ also clean all_clean)

  -- each place leads to one
  bucket_at : (place d : ℕ) → HasDepth m d → place < 2 ^ d → (bucket : BucketFields) × IsCleanBucket m place bucket
  bucket_at place d is within =
      let way = led place d is within in
      let listed : pages (slice_index (dirs_of pages m.root.page) (place / 256)) ≡ Some (Page.Dir way.dir) =
      ap (λ (x : Option Page). pages (slice_index (header_of x).dirs (place / 256))) way.head ∙ way.listed in
      let at : entry pages (dirs_of pages m.root.page) place ≡ slice_index way.dir (place % 256) = ap (λ (x : Option Page). slice_index (entries_of x) (place % 256)) listed in
      (way.bucket, is_of_clean (λ pages. pages (entry pages (dirs_of pages m.root.page) place) ≡ Some (Page.Bucket way.bucket)) (ap pages at ∙ way.found))

  -- ---- the bucket of a pseudokey

  -- a live slot of the bucket on this page is of a key that leads there
  leads_there : (n i key value : ℕ) (bucket : BucketFields) → buckets_of pages n ≡ bucket → get_or bucket.slots i Free ≡ Live key value → lead_of pages m.root.page (bits key) ≡ n
  leads_there n i key value bucket here at =
      let is : slot_at (buckets_of pages) n i ≡ Live key value = ap (λ (b : BucketFields). get_or b.slots i Free) here ∙ at in
      ap (λ (s : Slot). lead_of pages m.root.page (bits (key_of s))) (sym is) ∙ form.form.home n i (live_used key value (slot_at (buckets_of pages) n i) is)

  module _ (x d : ℕ) (few : x < 2 ^ 64) (is : HasDepth m d) (bucket : BucketFields) (is_bucket : IsCleanBucket m (first_bits d x) bucket) where
    abbrev lead : ℕ
    lead = lead_of pages m.root.page x

    there : pages lead ≡ Some (Page.Bucket bucket)
    there = subst (λ (k : ℕ). pages (entry pages (dirs_of pages m.root.page) (first_bits k x)) ≡ Some (Page.Bucket bucket)) (depth_is d is) (is_bucket clean all_clean)

    here : buckets_of pages lead ≡ bucket
    here = ap bucket_of there

    alone : (key i j value other : ℕ) → get_or bucket.slots i Free ≡ Live key value → get_or bucket.slots j Free ≡ Live key other → i ≡ j
    alone key i j value other one two =
        form.form.once lead i j key value other
        (ap (λ (b : BucketFields). get_or b.slots i Free) here ∙ one)
        (ap (λ (b : BucketFields). get_or b.slots j Free) here ∙ two)

    -- whether the pseudokey of a key begins with the same bits
    abbrev agrees : ℕ → Bool
    agrees key = eqb (first_bits bucket.depth (bits key)) (first_bits bucket.depth x)

    has_key : (key : ℕ) → live_values key bucket.slots ≡ cond (agrees key) (option_to_list (look_up bits pages m.root.page key)) []
    has_key key =
        elim (cases_Bool (agrees key)) [
          | inl same ↦
              let agree : first_bits (buckets_of pages lead).depth x ≡ first_bits (buckets_of pages lead).depth (bits key) =
              subst (λ (b : BucketFields). first_bits b.depth x ≡ first_bits b.depth (bits key)) (sym here) (sym (eqb-true _ _ same)) in
              let leads : lead ≡ lead_of pages m.root.page (bits key) = form.form.together x (bits key) few (bounded key) agree in
              let read : look_up bits pages m.root.page key ≡ value_in key bucket.slots =
              ap (λ (q : ℕ). value_in key (buckets_of pages q).slots) (sym leads) ∙ ap (λ (b : BucketFields). value_in key b.slots) here in
              values_are key bucket.slots (alone key) ∙ ap option_to_list (sym read) ∙ sym (cond-true _ _ _ same)
          | inr not ↦
              values_none key bucket.slots (λ i value at.
              let leads = leads_there lead i key value bucket here at in
              let agree = form.form.apart x (bits key) few (bounded key) (sym leads) in
              both_ways _ not (eq-eqb _ _ (sym (subst (λ (b : BucketFields). first_bits b.depth x ≡ first_bits b.depth (bits key)) here agree))))
              ∙ sym (cond-false _ _ _ not)
        ]

    -- **The bucket at the place of a pseudokey is that of the pseudokey.**
    pub is_of_pseudokey : IsBucketOfPseudokey bits_of m x bucket
    is_of_pseudokey =
        let deep : bucket.depth ≤ depth = subst (λ (b : BucketFields). b.depth ≤ depth) here (form.form.fine x few) in
        record {
          leads = is_of_clean (λ pages. pages (lead_of pages m.root.page x) ≡ Some (Page.Bucket bucket)) there;
          shallow = omega (arith, deep, form.listed.small);
          has = λ found finds key.
              is_of_clean (λ pages. (key : ℕ) → live_values key bucket.slots ≡ cond (agrees key) (option_to_list (look_up bits pages m.root.page key)) []) has_key finds.clean finds.is_clean key
              ∙ ap (λ (o : Option ℕ). cond (agrees key) (option_to_list o) []) (finds.finds key);
        }

  pub none_listed : HasSlotsBelow m [] 0
  none_listed = record { all = λ place bucket slot before. absurd (omega (arith, before)); only = λ slot none. absurd (omega (arith, none.1)) }

  pub fewer_listed : (slots : List Slot) (fewer places : ℕ) → fewer ≤ places → HasSlotsBelow m slots places → HasSlotsBelow m slots fewer
  fewer_listed slots fewer places few listed = record {
    all = λ place bucket slot before. listed.all place bucket slot (omega (arith, before, few));
    only = listed.only;
  }

  pub bucket_listed : (place : ℕ) (bucket : BucketFields) (slots : List Slot) → IsCleanBucket m place bucket → HasSlotsBelow m slots place → HasSlotsBelow m (slots ++ bucket.slots) (place + 1)
  bucket_listed place bucket slots is first = record {
    all = λ at other slot before other_is has. elim (cases_lt at place) [
      | inl earlier ↦ Contains-append_left slots bucket.slots slot (first.all at other slot earlier other_is has)
      | inr not ↦
          let here : at ≡ place = omega (arith, before, not) in
          let same : other ≡ bucket = same_bucket place other bucket (subst (λ (n : ℕ). IsCleanBucket m n other) here other_is) is in
          Contains-append_right slots bucket.slots slot (subst (λ (b : BucketFields). Contains b.slots slot) same has)
    ];
    only = λ slot has. elim (Contains-append_cases slots bucket.slots slot has) [
      | inl old ↦ first.only slot old
      | inr added ↦ (place, bucket, is, added)
    ];
  }

  -- the slot of a record stands in the bucket at the place of its pseudokey
  slot_of_record : (slots : List Slot) (places d : ℕ) → HasDepth m d → 2 ^ d ≤ places → HasSlotsBelow m slots places → (key value : ℕ) → map.get (live_records clean) key ≡ Some value → Contains slots (Live key value)
  slot_of_record slots places d is all listed key value live =
      let place = first_bits depth (bits key) in
      let low : depth ≤ 64 = omega (arith, form.listed.small) in
      let within : place < 2 ^ depth = first_bits_below depth (bits key) low (bounded key) in
      let found_at = bucket_at place d is (subst (λ (n : ℕ). place < 2 ^ n) (sym (depth_is d is)) within) in
      let bucket = found_at.0 in
      let here : buckets_of pages (lead_of pages m.root.page (bits key)) ≡ bucket = ap bucket_of (found_at.1 clean all_clean) in
      let found : value_in key bucket.slots ≡ Some value =
      ap (λ (b : BucketFields). value_in key b.slots) (sym here) ∙ sym (map_is_look_up bits clean m.root.page bounded form key) ∙ live in
      let slot = live_from_value key value bucket.slots found in
      let most : 2 ^ depth ≤ places = subst (λ (n : ℕ). 2 ^ n ≤ places) (depth_is d is) all in
      listed.all place bucket (Live key value) (omega (arith, within, most)) found_at.1 (contained bucket.slots slot.0 key value slot.1)

  -- **Where all places were gone over, the slots show the base to which the history leads.**
  pub all_listed : (slots : List Slot) (places d : ℕ) → HasDepth m d → 2 ^ d ≤ places → HasSlotsBelow m slots places → ShowState m slots
  all_listed slots places d is all listed = (
    h.base,
    h.sound.match.records.history,
    record {
      of_base = λ cell value in_range has.
          let from = listed.only (Live (key_number cell) value) has in
          slots_of_base from.0 from.1 from.2 cell value in_range from.3;
      all = λ cell. elim (in_range_or_not cell) [
        | inl in_range ↦ by cell in_range (map.get (live_records clean) (key_number cell)) refl
        | inr out ↦ inl (means.elsewhere cell out)
      ];
    },
  )
    where
      by : (cell : Cell) → IsInRange cell → (live : Option ℕ) → map.get (live_records clean) (key_number cell) ≡ live
          → (state_at h.base cell ≡ state_of_record cell None) ⊎ (IsInRange cell × ((value : ℕ) × HasLive slots cell value))
      by cell in_range None none = inl (means.holds cell in_range ∙ ap (state_of_record cell) none)
      by cell in_range (Some value) live = inr (in_range, (value, slot_of_record slots places d is all listed (key_number cell) value live))
