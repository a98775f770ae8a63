-- The end of a split: what the last written page leaves is a file at rest
use Rattle.std.proofs.Common.{ℕ, ◌≡◌, ◌<◌, ◌≤◌, ◌+◌, ◌-◌, ◌*◌, ◌%◌, ◌^◌, ◌==◌, true, false, cond, is_some, unwrap_or, Bool, List, length, map, Option, Some, None, refl, sym, ◌∙◌, ap, subst, inl, inr, arith, if◌then◌else◌, slice_index_or, nat_cmp, eq-eqb, ne_eqb, eqb-true}
use Rattle.std.specs.FinMap as finmap
use Rattle.std.specs.FinSet as set
use Rattle.mlt_hash_split.proofs.Names.{both_ways, cond-true, cond-false, Exclusive, bit_at, first_bits, half, is_kept, Free, BucketFields, HeadFields, Page, half_of, HasForm, Writes, bucket_of, buckets_of, depth_of, dirs_of, entry, header_of, lead_of, Agrees, KeepsFile, over, own_or_clean, IsMidway, run_length, run_start, target_of, bucket_split, first_bits-first_bits, View, SplitTarget, HoldsAmong, IsAtRest, held_page, most_held, seed_of, Begins, SplitFields}
use Rattle.std.proofs.{lemmas.Bool.cases_Bool, Math.ListN.get_or-map}
use Rattle.mlt_page.specs.{Slots.is_ghost_of, Slots.is_live_of, declared.slot.Slot.Slot}
use Rattle.mlt_hash_form.{specs.File.entries_of, specs.Changes.IsSplit, specs.Changes.MaySplit, specs.Room.is_crowded, proofs.Bits.first_bits_below, proofs.Bits.first_bits_next, proofs.Bits.side_cases, proofs.Crowd.crowded_half, proofs.FillEnds.filled_reads, proofs.FillEnds.place_all, proofs.HeldPages.split_keeps, proofs.Midway.fill_beside, proofs.Splitting.half_cases, proofs.SplitSteps.closes_by_header, proofs.SplitSteps.closes_in_place}

-- the page of the half that the pseudokey x goes to, where the bucket of this depth is split
abbrev pub half_page : ℕ → ℕ → ℕ → ℕ → ℕ
half_page depth x n new = if bit_at depth x == 1 then new else n

-- what the last page of a split leaves: the split, its two halves, and where its pseudokey leads
pub record IsClosed (bits : ℕ → ℕ) (splitters : set.FinSet nat_cmp) (base pages : ℕ → Option Page) (root n new x : ℕ) : Type 0 where
  pub split : IsSplit bits splitters base pages root n new
  pub zeros : pages n ≡ Some (Page.Bucket (half_of bits splitters (buckets_of base n) 0))
  pub ones : pages new ≡ Some (Page.Bucket (half_of bits splitters (buckets_of base n) 1))
  pub leads : lead_of pages root x ≡ half_page (buckets_of base n).depth x n new

-- the bit behind the first l bits says which of two prefixes of l + 1 bits a pseudokey has
next_bit : (l x : ℕ) → l < 64 → (first_bits (l + 1) x == 2 * first_bits l x + 1) ≡ (bit_at l x == 1)
next_bit l x h =
    let next = first_bits_next l x h in
    elim (cases_Bool (bit_at l x == 1)) [
      | inl e ↦ let one : first_bits (l + 1) x % 2 ≡ 1 = eqb-true _ _ e in eq-eqb _ _ (omega (arith, next, one)) ∙ sym e
      | inr e ↦ ne_eqb _ _ (λ (same : first_bits (l + 1) x ≡ 2 * first_bits l x + 1). both_ways _ e (eq-eqb _ _ (omega (arith, same)))) ∙ sym e
    ]

-- where the directory reads as it is to be, the pseudokey of the split leads to its half
target_leads : (base pages : ℕ → Option Page) (root n new x g' : ℕ) (made : List ℕ) → x < 2 ^ 64 → g' ≤ 16 → depth_of base root ≤ g' → (buckets_of base n).depth < g' → lead_of base root x ≡ n
    → ((i : ℕ) → i < 2 ^ g' → entry pages made i ≡ target_of base root n new x g' i)
    → entry pages made (first_bits g' x) ≡ half_page (buckets_of base n).depth x n new
target_leads base pages root n new x g' made x_ok small deeper room leads reads =
    let l = (buckets_of base n).depth in
    let e = first_bits-first_bits (l + 1) g' x (omega arith) (omega arith) in
    let f = first_bits-first_bits (depth_of base root) g' x deeper (omega arith) in
    let r = reads (first_bits g' x) (first_bits_below g' x (omega arith) x_ok) in
    let read = rw (e, f) at r in
    read ∙ ap (λ b. cond b new (lead_of base root x)) (next_bit l x (omega arith)) ∙ ap (cond (bit_at l x == 1) new) leads

module _ (bits : ℕ → ℕ) (splitters : set.FinSet nat_cmp) (base : ℕ → Option Page) (root n new x : ℕ) (may : MaySplit bits base root x n new) where
  -- the last page of a directory that keeps its depth closes the split
  pub closed_in_place : (pages : ℕ → Option Page) (q : ℕ) → IsMidway (bucket_split bits splitters base root n new x) (depth_of base root) pages (dirs_of base root) q q
      → run_start base root n x + run_length base root n ≤ 256 * q → (buckets_of base n).depth < depth_of base root → IsClosed bits splitters base pages root n new x
  closed_in_place pages q m h room =
      let f = place_all base pages _ _ (buckets_of base n).depth (2 * first_bits (buckets_of base n).depth x + 1) new may.form.listed q m.filling h in
      let reads : (i : ℕ) → i < 2 ^ depth_of base root → entry pages (dirs_of base root) i ≡ target_of base root n new x (depth_of base root) i = filled_reads pages _ _ _ _ _ _ _ f in
      let leads = target_leads base pages root n new x (depth_of base root) (dirs_of base root) may.pseudokey may.form.listed.small (omega arith) room may.leads reads in
      record {
        split = closes_in_place bits splitters base root x n new may pages q m h room;
        zeros = m.zeros;
        ones = m.ones;
        leads = ap (λ (p : Option Page). entry pages (header_of p).dirs (first_bits (header_of p).depth x)) m.header ∙ leads;
      }

  -- and the header that of a doubled directory
  pub closed_by_header : (pages pages' : ℕ → Option Page) (k : ℕ) (header : HeadFields) → IsMidway (bucket_split bits splitters base root n new x) header.depth pages header.dirs (2 ^ (header.depth - 8)) k
      → header.depth ≤ 16 → depth_of base root ≤ header.depth → (buckets_of base n).depth < header.depth → Writes pages pages' root (Page.Head header)
      → IsClosed bits splitters base pages' root n new x
  closed_by_header pages pages' k header m small deeper room writes =
      let root_is : pages root ≡ Some (Page.Head (header_of (base root))) = m.header ∙ may.form.head in
      let not_dir : length (entries_of (pages root)) ≡ 256 → ⊥ = λ e. let at = rw root_is at e in omega (arith, at) in
      let not_root : (o : ℕ) (c : BucketFields) → pages o ≡ Some (Page.Bucket c) → o ≡ root → ⊥ = λ o c e f. let q : Some (Page.Head (header_of (base root))) ≡ Some (Page.Bucket c) = sym root_is ∙ ap pages (sym f) ∙ e in cc in
      let f = fill_beside pages pages' header.dirs _ _ _ _ k _ root (Page.Head header) m.filling writes not_dir in
      let reads : (i : ℕ) → i < 2 ^ header.depth → entry pages' header.dirs i ≡ target_of base root n new x header.depth i = filled_reads pages' _ _ _ _ header.depth k _ f in
      let leads = target_leads base pages' root n new x header.depth header.dirs may.pseudokey small deeper room may.leads reads in
      record {
        split = closes_by_header bits splitters base root x n new may pages pages' header.depth k header m small deeper room refl writes;
        zeros = writes.others n (not_root n _ m.zeros) ∙ m.zeros;
        ones = writes.others new (not_root new _ m.ones) ∙ m.ones;
        leads = ap (λ (p : Option Page). entry pages' (header_of p).dirs (first_bits (header_of p).depth x)) writes.here ∙ leads;
      }

-- what a walk has at the end of a split: the facts that IsUnderWay has of what it holds, with the split closed
pub record HasClosed (target : SplitTarget) (view : View) (rest : ℕ → Option Page) (splitters : set.FinSet nat_cmp) (split : SplitFields) (header : HeadFields) (bucket : BucketFields) : Type 0 where
  pub bounded : (k : ℕ) → target.bits k < 2 ^ 64
  pub keeps : KeepsFile target.bits target.active target.root view.seen rest
  pub head_held : is_some (view.seen target.root) ≡ true
  pub head : held_page view target.root ≡ Some (Page.Head header)
  pub old_held : is_some (view.seen split.old_page) ≡ true
  pub new_held : is_some (view.seen split.new_page) ≡ true
  pub old_exclusive : finmap.get view.modes split.old_page ≡ Some Exclusive
  pub new_exclusive : finmap.get view.modes split.new_page ≡ Some Exclusive
  pub fewer : (i : ℕ) → is_kept target.active (slice_index_or bucket.slots i Free) ≡ true → is_kept splitters (slice_index_or bucket.slots i Free) ≡ true
  pub absent : (i : ℕ) → is_live_of target.key (slice_index_or bucket.slots i Free) ≡ false
  pub no_ghost : (i : ℕ) → is_ghost_of target.key target.owner (slice_index_or bucket.slots i Free) ≡ false
  pub room : is_crowded target.bits target.active target.room_depth (seed_of target) bucket.slots ≡ false
  pub small : target.room_depth ≤ 16
  pub few_before : target.held_before ≤ 17
  pub begins : (clean : ℕ → Option Page) → Agrees view.seen clean → HasForm target.bits clean target.root → Begins target (over clean rest) split bucket
  pub closed : (clean : ℕ → Option Page) → Agrees view.seen clean → HasForm target.bits clean target.root → IsClosed target.bits splitters (over clean rest) (over clean view.own) target.root split.old_page split.new_page (seed_of target)
  pub among : HoldsAmong view header.dirs header.dirs 0 (2 ^ (header.depth - 8)) 0 (most_held target.held_before (split.depth + 1) header.depth)

-- the clean pages of one state, as a witness
pub record HasClean (target : SplitTarget) (view : View) : Type 0 where
  pub clean : ℕ → Option Page
  pub agrees : Agrees view.seen clean
  pub form : HasForm target.bits clean target.root

seen_is : (o : Option (Option Page)) (c : Option Page) → ((p : Option Page) → o ≡ Some p → c ≡ p) → is_some o ≡ true → unwrap_or o None ≡ c
seen_is None c agrees held = absurd (both_ways _ refl held)
seen_is (Some p) c agrees held = sym (agrees p refl)

-- a held page reads as it does over any clean pages that agree
pub held_page_over : (view : View) (clean : ℕ → Option Page) (q : ℕ) → Agrees view.seen clean → is_some (view.seen q) ≡ true → held_page view q ≡ over clean view.own q
held_page_over view clean q agrees held = ap (own_or_clean (view.own q)) (seen_is (view.seen q) (clean q) (agrees q) held)

-- no slot of a half passes a test that no slot of the bucket passes
half_passes_none : (bits : ℕ → ℕ) (active : set.FinSet nat_cmp) (l side : ℕ) (test : Slot → Bool) (slots : List Slot) → test Free ≡ false → ((i : ℕ) → test (slice_index_or slots i Free) ≡ false) → (i : ℕ) → test (slice_index_or (map (half bits active l side) slots) i Free) ≡ false
half_passes_none bits active l side test slots free none i =
    let at : slice_index_or (map (half bits active l side) slots) i Free ≡ half bits active l side (slice_index_or slots i Free) = get_or-map (half bits active l side) slots i Free in
    ap test at ∙ elim (half_cases bits active l side (slice_index_or slots i Free)) [
      | inl same ↦ ap test same.0 ∙ none i
      | inr gone ↦ ap test gone ∙ free
    ]

pub not_true : (b c : Bool) → (b ≡ true → c ≡ true) → c ≡ false → b ≡ false
not_true true c on off = absurd (both_ways _ off (on refl))
not_true false c on off = refl

-- what a property has of both pages it has of the one that a key goes to
of_half_page : (P : ℕ → ℕ → Type 0) (depth x n new : ℕ) → P n 0 → P new 1 → P (half_page depth x n new) (bit_at depth x)
of_half_page P depth x n new at_old at_new =
    elim (side_cases depth x) [
      | inl e ↦
          let test : (bit_at depth x == 1) ≡ false = ne_eqb _ _ (λ (one : bit_at depth x ≡ 1). omega (arith, e, one)) in
          let page : n ≡ half_page depth x n new = sym (cond-false _ new n test) in
          subst (λ (p : ℕ × ℕ). P p.0 p.1) (λ i. (page i, sym e i)) at_old
      | inr e ↦
          let test : (bit_at depth x == 1) ≡ true = eq-eqb _ _ e in
          let page : new ≡ half_page depth x n new = sym (cond-true _ new n test) in
          subst (λ (p : ℕ × ℕ). P p.0 p.1) (λ i. (page i, sym e i)) at_new
    ]

module _ (target : SplitTarget) (view : View) (rest : ℕ → Option Page) (splitters : set.FinSet nat_cmp) (split : SplitFields) (header : HeadFields) (bucket : BucketFields) (witness : HasClean target view) (done : HasClosed target view rest splitters split header bucket) where
  abbrev here : ℕ
  here = half_page split.depth split.seed split.old_page split.new_page

  abbrev side : ℕ
  side = bit_at split.depth split.seed

  bucket_is : (clean : ℕ → Option Page) → Agrees view.seen clean → HasForm target.bits clean target.root → buckets_of (over clean rest) split.old_page ≡ bucket
  bucket_is clean agrees form = ap bucket_of (done.begins clean agrees form).was

  keeps' : KeepsFile target.bits target.active target.root view.seen view.own
  keeps' = split_keeps target.bits target.active target.root view.seen rest done.keeps view.own splitters split.old_page split.new_page done.old_held
      (λ clean agrees form whole. ((done.closed clean agrees form).split, λ i kept. let is = bucket_is clean agrees form in subst (λ (b : BucketFields). is_kept splitters (slice_index_or b.slots i Free) ≡ true) (sym is) (done.fewer i (subst (λ (b : BucketFields). is_kept target.active (slice_index_or b.slots i Free) ≡ true) is kept))))

  leads' : (clean : ℕ → Option Page) → Agrees view.seen clean → HasForm target.bits clean target.root → lead_of (over clean view.own) target.root (seed_of target) ≡ here
  leads' clean agrees form =
      let b = done.begins clean agrees form in
      let is = bucket_is clean agrees form in
      (done.closed clean agrees form).leads ∙ (λ i. half_page ((ap (λ (c : BucketFields). c.depth) is ∙ b.depth) i) (sym b.seed i) split.old_page split.new_page)

  abbrev Reads : ℕ → ℕ → Type 0
  Reads q bit = held_page view q ≡ Some (Page.Bucket (half_of target.bits splitters bucket bit))

  found' : Reads here side
  found' =
      let w = witness in
      let c = done.closed w.clean w.agrees w.form in
      let is = bucket_is w.clean w.agrees w.form in
      of_half_page Reads split.depth split.seed split.old_page split.new_page
      (held_page_over view w.clean split.old_page w.agrees done.old_held ∙ c.zeros ∙ ap (λ b. Some (Page.Bucket (half_of target.bits splitters b 0))) is)
      (held_page_over view w.clean split.new_page w.agrees done.new_held ∙ c.ones ∙ ap (λ b. Some (Page.Bucket (half_of target.bits splitters b 1))) is)

  -- **The last page of a split leaves the walk's file at rest, on the page of the key's half.**
  pub closes : IsAtRest target view here header (half_of target.bits splitters bucket side)
  closes = record {
    bounded = done.bounded;
    keeps = keeps';
    leads = leads';
    head_held = done.head_held;
    head = done.head;
    bucket_held = of_half_page (λ q bit. is_some (view.seen q) ≡ true) split.depth split.seed split.old_page split.new_page done.old_held done.new_held;
    found = found';
    exclusive = of_half_page (λ q bit. finmap.get view.modes q ≡ Some Exclusive) split.depth split.seed split.old_page split.new_page done.old_exclusive done.new_exclusive;
    absent = half_passes_none target.bits splitters bucket.depth side (is_live_of target.key) bucket.slots refl done.absent;
    no_ghost = half_passes_none target.bits splitters bucket.depth side (is_ghost_of target.key target.owner) bucket.slots refl done.no_ghost;
    room = not_true _ _ (crowded_half target.bits splitters target.active bucket.depth side target.room_depth (seed_of target) bucket.slots) done.room;
    small = done.small;
    few_before = done.few_before;
    among = let depth : split.depth ≡ bucket.depth = sym (done.begins witness.clean witness.agrees witness.form).depth in subst (λ l. HoldsAmong view header.dirs header.dirs 0 (2 ^ (header.depth - 8)) 0 (most_held target.held_before (l + 1) header.depth)) depth done.among;
  }
