-- The step that writes the old bucket
use Rattle.std.proofs.Common.{ℕ, ◌≡◌, ◌<◌, ◌≤◌, ◌+◌, ◌-◌, ◌*◌, ◌/◌, ◌^◌, true, false, List, Option, Some, nat_eq, nat_lt, refl, sym, ◌∙◌, ap, subst, inl, inr, arith, if◌then◌else◌, nat_cmp, eq-eqb, ne_eqb, lt-ltb, le-ltb, pow_pos, pow-add}
use Rattle.std.specs.FinMap as map
use Rattle.std.specs.FinSet as set
use Rattle.mlt_hash_split.proofs.Names.{cases_lt, cond-true, cond-false, pow-le-pow_right, first_bits, BucketFields, HeadFields, Page, Writes, bucket_of, buckets_of, depth_of, dirs_of, header_of, lead_of, half_of, over, IsMidway, bucket_split, IsFirstPhase, MayStep, LocalState, View, WritesPage, view_over, SplitTarget, HoldsAmong, most_held, seed_of, Begins, HaveNewPlaces, HoldsAmongAt, IsAtOldBucket, IsUnderWay, SplitFields, StandsAt, steps_left_at, GoesOn, SplitPhase, writes_over_clean}
use Rattle.mlt_hash_form.proofs.{FillEnds.page_listed, InPlace.one_page, InPlace.whole_pages, SplitSteps.begins_in_place, SplitSteps.begins_to_double}
use Rattle.mlt_hash_split.proofs.{Closing.HasClean, Among.among_still, Later.IsLater, Later.agreed_before, Later.begins_now, Later.stays_under_way}

-- the pages with the new bucket's places, on one page or on whole pages
pub new_pages : (seed l g : ℕ) (first count pages : ℕ) → l < g → first ≡ (2 * first_bits l seed + 1) * 2 ^ (g - (l + 1)) → count ≡ 2 ^ (g - (l + 1)) → first + count ≤ 2 ^ g
    → (count / 256 < 1 → pages ≡ 1) → (1 ≤ count / 256 → pages ≡ count / 256) → HaveNewPlaces seed l g (first / 256) (first / 256 + pages)
new_pages seed l g first count pages deeper first_is count_is within one many =
    let prefix : ℕ = 2 * first_bits l seed + 1 in
    elim (cases_lt g (l + 9)) [
      | inl few ↦
          let small : g - (l + 1) ≤ 7 = omega arith in
          let top : 2 ^ (g - (l + 1)) ≤ 2 ^ 7 = pow-le-pow_right {n = 2} (omega arith) small in
          let single : pages ≡ 1 = one (omega (arith, top, count_is)) in
          let none : g - (l + 9) ≡ 0 = omega arith in
          let size : 2 ^ (g - (l + 9)) ≡ 1 = ap (λ k. 2 ^ k) none in
          let fits = one_page g l prefix (omega arith) in
          let some : 0 < 2 ^ (g - (l + 1)) = pow_pos (g - (l + 1)) in
          let listed = page_listed g first (omega (arith, within, some, count_is)) in
          let fits2 : first + count ≤ 256 * (first / 256 + 1) = subst (λ (p : ℕ × ℕ). p.0 + p.1 ≤ 256 * (p.0 / 256 + 1)) (λ i. (sym first_is i, sym count_is i)) fits in
          record {
            first = omega (arith, first_is);
            last = subst (λ (p : ℕ × ℕ). p.0 + p.1 ≤ 256 * (first / 256 + pages)) (λ i. (first_is i, count_is i)) (omega (arith, fits2, single));
            count = omega (arith, single, size);
            within = omega (arith, listed, single);
          }
      | inr le ↦
          let whole = whole_pages g l prefix le in
          let n : ℕ = 2 ^ (g - (l + 9)) in
          let at : ℕ = prefix * n in
          let some : 0 < n = pow_pos (g - (l + 9)) in
          let size : count ≡ 256 * n = count_is ∙ whole.1 in
          let start : first ≡ 256 * at = first_is ∙ whole.0 in
          let place : first / 256 ≡ at = omega (arith, start) in
          let several : pages ≡ n = many (omega (arith, size, some)) ∙ omega (arith, size) in
          let e : g ≡ 8 + (g - 8) = omega arith in
          let all : 2 ^ g ≡ 256 * 2 ^ (g - 8) = ap (λ k. 2 ^ k) e ∙ pow-add 2 8 (g - 8) in
          record {
            first = omega (arith, first_is);
            last = subst (λ (p : ℕ × ℕ). p.0 + p.1 ≤ 256 * (first / 256 + pages)) (λ i. (first_is i, count_is i)) (omega (arith, start, size, place, several));
            count = omega (arith, several);
            within = omega (arith, within, all, start, size, place, several);
          }
    ]

-- a split's bucket is no deeper than the directory, which is at most 16 deep
pub depths_are_small : (target : SplitTarget) (base : ℕ → Option Page) (split : SplitFields) (bucket : BucketFields) → Begins target base split bucket → (split.depth ≤ split.directory_depth) × (split.directory_depth ≤ 16)
depths_are_small target base split bucket b =
    let fine : (buckets_of base (lead_of base target.root (seed_of target))).depth ≤ depth_of base target.root = b.may.form.form.fine (seed_of target) b.may.pseudokey in
    let here : (buckets_of base split.old_page).depth ≤ depth_of base target.root = subst (λ n. (buckets_of base n).depth ≤ depth_of base target.root) b.may.leads fine in
    let small : depth_of base target.root ≤ 16 = b.may.form.listed.small in
    let depth : (buckets_of base split.old_page).depth ≡ split.depth = ap (λ (p : Option Page). (bucket_of p).depth) b.was ∙ b.depth in
    (omega (arith, here, depth, b.directory_depth), omega (arith, small, b.directory_depth))

-- the header is not on the page of the bucket that is split
pub header_is_elsewhere : (target : SplitTarget) (base : ℕ → Option Page) (split : SplitFields) (bucket : BucketFields) → Begins target base split bucket → target.root ≡ split.old_page → ⊥
header_is_elsewhere target base split bucket b e =
    let q : Some (Page.Head (header_of (base target.root))) ≡ Some (Page.Bucket bucket) = sym b.may.form.head ∙ ap base e ∙ b.was in
    cc

module _ (target : SplitTarget) (splitters : set.FinSet nat_cmp) (base one two : ℕ → Option Page) (split : SplitFields) (bucket : BucketFields) (b : Begins target base split bucket) (stands : IsAtOldBucket target splitters base one split bucket) (writes : Writes one two split.old_page (Page.Bucket split.zeros)) where
  bucket_is : buckets_of base split.old_page ≡ bucket
  bucket_is = ap bucket_of b.was

  first_write : Writes base one split.new_page (Page.Bucket (half_of target.bits splitters (buckets_of base split.old_page) 1))
  first_write = subst (λ (c : BucketFields). Writes base one split.new_page (Page.Bucket (half_of target.bits splitters c 1))) (sym bucket_is) stands.ones

  second_write : Writes one two split.old_page (Page.Bucket (half_of target.bits splitters (buckets_of base split.old_page) 0))
  second_write = subst (λ (c : BucketFields). Writes one two split.old_page (Page.Bucket c)) (stands.zeros ∙ ap (λ c. half_of target.bits splitters c 0) (sym bucket_is)) writes

  -- the places of the new bucket, as the file before the split has them
  pub places_in_base : (place end : ℕ) → HaveNewPlaces split.seed split.depth split.directory_depth place end → HaveNewPlaces (seed_of target) (buckets_of base split.old_page).depth (depth_of base target.root) place end
  places_in_base place end have =
      subst (λ (p : ℕ × ℕ × ℕ). HaveNewPlaces p.0 p.1 p.2 place end) (λ i. (b.seed i, (sym (ap (λ (c : BucketFields). c.depth) bucket_is ∙ b.depth)) i, sym b.directory_depth i)) have

  -- once the old bucket is written the split stands in its next phase
  pub old_bucket_written : (phase : SplitPhase) → IsFirstPhase split phase → StandsAt phase target splitters base two (record split { phase = phase }) bucket
  old_bucket_written SplitPhase.OldBucket first = absurd first
  old_bucket_written (SplitPhase.InPlace place end) first =
      let have = places_in_base place end first.1 in
      let some : 0 < 2 ^ (split.directory_depth - (split.depth + 9)) = pow_pos (split.directory_depth - (split.depth + 9)) in
      let more : place < end = omega (arith, first.1.count, some) in
      record {
        shallow = first.0;
        filled = subst (λ g. IsMidway (bucket_split target.bits splitters base target.root split.old_page split.new_page (seed_of target)) g two (dirs_of base target.root) place place) b.directory_depth
            (begins_in_place target.bits splitters base target.root (seed_of target) split.old_page split.new_page b.may one two first_write second_write place have.first (omega (arith, more, have.within)));
        first = place;
        places = first.1;
        from = omega arith;
        more = more;
        last = have.last;
      }
  old_bucket_written (SplitPhase.Double place) first = record {
    deep = first.0;
    filled = subst (λ k. IsMidway (bucket_split target.bits splitters base target.root split.old_page split.new_page (seed_of target)) split.made.depth two split.made.dirs (2 * k) k) (sym first.1)
        (begins_to_double target.bits splitters base target.root (seed_of target) split.old_page split.new_page b.may one two first_write second_write split.made.depth split.made.dirs);
    more = let some = pow_pos (split.directory_depth - 8) in omega (arith, first.1, some);
    deeper = ap (λ (h : HeadFields). h.depth) (stands.doubles first.0);
  }
  old_bucket_written (SplitPhase.SecondHalf place) first = absurd first
  old_bucket_written SplitPhase.Header first = absurd first

-- the pages that are held are among those of the next phase
pub among_in_first_phase : (before : ℕ) (view : View) (dirs : List ℕ) (split : SplitFields) (phase : SplitPhase) → HoldsAmong view dirs dirs 0 (2 ^ (split.directory_depth - 8)) 0 (most_held before (split.depth + 1) split.directory_depth) → IsFirstPhase split phase → HoldsAmongAt phase before view dirs (record split { phase = phase })
among_in_first_phase before view dirs split SplitPhase.OldBucket among first = absurd first
among_in_first_phase before view dirs split (SplitPhase.InPlace place end) among first = among
among_in_first_phase before view dirs split (SplitPhase.Double place) among first = record {
  pages = among.pages;
  few = omega (arith, among.few);
  all = among.all;
  old_dirs = λ i le lt. among.old_dirs i (omega arith) lt;
  new_dirs = λ i lt. absurd (omega (arith, lt, first.1));
}
among_in_first_phase before view dirs split (SplitPhase.SecondHalf place) among first = absurd first
among_in_first_phase before view dirs split SplitPhase.Header among first = absurd first

twice_pages : (g : ℕ) → 8 ≤ g → 2 ^ (g - 7) ≡ 2 * 2 ^ (g - 8)
twice_pages g h = let e : g - 7 ≡ 1 + (g - 8) = omega arith in ap (λ k. 2 ^ k) e ∙ pow-add 2 1 (g - 8)

-- writing the old bucket is one step of those that are left
pub steps_of_first_phase : (split : SplitFields) (phase : SplitPhase) → IsFirstPhase split phase → steps_left_at split.depth split.directory_depth phase + 1 ≡ steps_left_at split.depth split.directory_depth SplitPhase.OldBucket
steps_of_first_phase split SplitPhase.OldBucket first = absurd first
steps_of_first_phase split (SplitPhase.InPlace place end) first =
    let not_same : nat_eq split.depth split.directory_depth ≡ false = ne_eqb _ _ (λ (e : split.depth ≡ split.directory_depth). omega (arith, first.0, e)) in
    let steps : end - place ≡ 2 ^ (split.directory_depth - (split.depth + 9)) = omega (arith, first.1.count) in
    ap (λ n. n + 1) steps ∙ omega (arith, cond-false _ (if nat_lt split.directory_depth 8 then 2 else 2 ^ (split.directory_depth - 7) + 1) (2 ^ (split.directory_depth - (split.depth + 9))) not_same)
steps_of_first_phase split (SplitPhase.Double place) first =
    let g = split.directory_depth in
    let same : nat_eq split.depth g ≡ true = eq-eqb _ _ first.0 in
    let whole = cond-true _ (if nat_lt g 8 then 2 else 2 ^ (g - 7) + 1) (2 ^ (g - (split.depth + 9))) same in
    elim (cases_lt g 8) [
      | inl lt ↦ let test : nat_lt g 8 ≡ true = lt-ltb _ _ lt in omega (arith, whole, cond-true _ 2 (2 ^ (g - 7) + 1) test, cond-true _ 2 (2 * (2 ^ (g - 8) - place) + 1) test)
      | inr le ↦ let test : nat_lt g 8 ≡ false = le-ltb _ _ le in omega (arith, first.1, twice_pages g le, whole, cond-false _ 2 (2 ^ (g - 7) + 1) test, cond-false _ 2 (2 * (2 ^ (g - 8) - place) + 1) test)
    ]
steps_of_first_phase split (SplitPhase.SecondHalf place) first = absurd first
steps_of_first_phase split SplitPhase.Header first = absurd first

-- **Once the old bucket is written, the split goes on with the directory.**
pub old_bucket_step : (target : SplitTarget) (m : LocalState) (new : LocalState) (split : SplitFields) (phase : SplitPhase) → MayStep m → HasClean target (view_over target.before m) → IsUnderWay target (view_over target.before m) split → split.phase ≡ SplitPhase.OldBucket
    → WritesPage (view_over target.before m) (view_over target.before new) split.old_page (Page.Bucket split.zeros) → IsFirstPhase split phase → GoesOn target new split (record split { phase = phase })
old_bucket_step target m new split phase may file way at_old writes first =
    let view = view_over target.before m in
    let view' = view_over target.before new in
    let elsewhere = header_is_elsewhere target _ split way.bucket (begins_now target m split may file way) in
    let later : IsLater target.root view view' = record {
      before = λ p first sees. writes.seen p ∙ sees;
      exclusive = λ p was. ap (λ modes. map.get modes p) writes.modes ∙ was;
      head = writes.others target.root elsewhere;
    } in
    let was_among : HoldsAmong view way.header.dirs way.header.dirs 0 (2 ^ (split.directory_depth - 8)) 0 (most_held target.held_before (split.depth + 1) split.directory_depth) = subst (λ (p : SplitPhase). HoldsAmongAt p target.held_before view way.header.dirs split) at_old way.among in
    record {
      under_way = stays_under_way target view view' split split.made split.second phase way later
          (λ clean agrees form.
          let before = agreed_before target.root view view' clean later agrees in
          let stood = subst (λ (p : SplitPhase). StandsAt p target way.splitters (over clean way.rest) (over clean view.own) split way.bucket) at_old (way.stands clean before form) in
          old_bucket_written target way.splitters (over clean way.rest) (over clean view.own) (over clean view'.own) split way.bucket (way.begins clean before form) stood (writes_over_clean view view' split.old_page (Page.Bucket split.zeros) clean writes) phase first)
          (among_in_first_phase target.held_before view' way.header.dirs split phase (among_still view view' way.header.dirs way.header.dirs 0 (2 ^ (split.directory_depth - 8)) 0 (most_held target.held_before (split.depth + 1) split.directory_depth) was_among writes.modes) first);
      fewer = steps_of_first_phase split phase first ∙ ap (steps_left_at split.depth split.directory_depth) (sym at_old);
      depth = refl;
      directory_depth = refl;
    }
