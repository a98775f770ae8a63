-- The steps that write a directory in place
use Rattle.std.proofs.Common.{ℕ, ◌≡◌, ◌<◌, ◌≤◌, ◌+◌, ◌-◌, ◌*◌, ◌^◌, is_some, true, List, length, slice_index, Option, Some, refl, sym, ◌∙◌, ap, subst, arith, ◌⊎◌, nat_cmp}
use Rattle.std.specs.FinSet as set
use Rattle.mlt_hash_split.proofs.Names.{Exclusive, first_bits, BucketFields, HeadFields, Page, page_at, HasForm, Writes, bucket_of, buckets_of, depth_of, dirs_of, entry, header_of, Agrees, over, own_or_clean, half_of, bit_at, IsMidway, run_length, run_start, target_of, bucket_split, keeps_more, page_as_it_was, rewrites_a_page, MayStep, LocalState, ReadsPage, View, WritesPage, view_over, view_of, seen_over_held, SplitTarget, HoldsAmong, IsAtRest, IsIn, held_page, most_held, seed_of, Begins, HoldsAmongAt, IsInPlace, IsUnderWay, SplitFields, StandsAt, steps_left, steps_left_at, GoesOn, Rests, SplitPhase, reads_over}
use Rattle.mlt_hash_form.{specs.Splits.HasNewPlaces, proofs.PageContents.placed_right}
use Rattle.mlt_hash_split.proofs.{Among.among_after_lock, Among.few_pages, OldBucket.depths_are_small}
use Rattle.mlt_hash_split.proofs.Closing.{HasClean, HasClosed, IsClosed, closed_in_place, closes, half_page, held_page_over}
use Rattle.mlt_hash_split.proofs.Later.{IsLater, Rewrites, agreed_before, begins_now, held_still, later_by_rewrite, rewrites, same_head, stands_now, stays_under_way}

-- the places that the new bucket gets, in the words of the split
pub record AreNewPlaces (split : SplitFields) (first count : ℕ) : Type 0 where
  pub first_is : first ≡ (2 * first_bits split.depth split.seed + 1) * 2 ^ (split.directory_depth - (split.depth + 1))
  pub count_is : count ≡ 2 ^ (split.directory_depth - (split.depth + 1))

-- page `place` of the directory, with the new bucket at those of its places that the bucket gets
pub record IsMadeInPlace (old made : List ℕ) (place first count bucket : ℕ) : Type 0 where
  pub size : length made ≡ 256
  pub entries : HasNewPlaces old made place first count bucket

module _ (target : SplitTarget) (splitters : set.FinSet nat_cmp) (base pages : ℕ → Option Page) (split : SplitFields) (bucket : BucketFields) (place end : ℕ) (header : HeadFields) (b : Begins target base split bucket) (s : IsInPlace target splitters base pages split place end) (head : pages target.root ≡ Some (Page.Head header)) where
  header_is : header_of (base target.root) ≡ header
  header_is = ap header_of (sym s.filled.header ∙ head)

  -- the directory keeps its depth
  pub same_depth : header.depth ≡ split.directory_depth
  same_depth = sym (ap (λ (h : HeadFields). h.depth) header_is) ∙ b.directory_depth

  listed : place < 2 ^ (depth_of base target.root - 8)
  listed = subst (λ g. place < 2 ^ (g - 8)) (sym b.directory_depth) (omega (arith, s.more, s.places.within))

  -- the next page of the directory is as it was
  pub next_page : (dir : List ℕ) × (pages (slice_index header.dirs place) ≡ Some (Page.Dir dir)) × (length dir ≡ 256) × ((r : ℕ) → r < 256 → slice_index dir r ≡ entry base (dirs_of base target.root) (256 * place + r))
  next_page =
      let p = page_as_it_was target.bits splitters base pages target.root split.old_page split.new_page (seed_of target) split.directory_depth place place place (dirs_of base target.root) s.filled (omega arith) listed in
      (p.0, subst (λ (h : HeadFields). pages (slice_index h.dirs place) ≡ Some (Page.Dir p.0)) header_is p.1, p.2, p.3)

  -- which is not the header's
  pub next_is_elsewhere : target.root ≡ slice_index header.dirs place → ⊥
  next_is_elsewhere e =
      let p = next_page in
      let q : Some (Page.Head header) ≡ Some (Page.Dir p.0) = sym head ∙ ap pages e ∙ p.1 in
      cc

  module _ (pages' : ℕ → Option Page) (dir made : List ℕ) (first count : ℕ) (places : AreNewPlaces split first count) (has : IsMadeInPlace dir made place first count split.new_page) (reads : pages (slice_index header.dirs place) ≡ Some (Page.Dir dir)) (writes : Writes pages pages' (slice_index header.dirs place) (Page.Dir made)) where
    depth_is : split.depth ≡ (buckets_of base split.old_page).depth
    depth_is = sym (ap (λ (p : Option Page). (bucket_of p).depth) b.was ∙ b.depth)

    start_is : first ≡ run_start base target.root split.old_page (seed_of target)
    start_is = places.first_is ∙ (λ i. (2 * first_bits (depth_is i) (b.seed i) + 1) * 2 ^ (sym b.directory_depth i - (depth_is i + 1)))

    length_is : count ≡ run_length base target.root split.old_page
    length_is = places.count_is ∙ (λ i. 2 ^ (sym b.directory_depth i - (depth_is i + 1)))

    was : (r : ℕ) → r < 256 → slice_index dir r ≡ entry base (dirs_of base target.root) (256 * place + r)
    was r h =
        let p = next_page in
        let e : Some (Page.Dir dir) ≡ Some (Page.Dir p.0) = sym reads ∙ p.1 in
        let same : dir ≡ p.0 = cc in
        ap (λ d. slice_index d r) same ∙ p.3 r h

    right : (r : ℕ) → r < 256 → slice_index made r ≡ target_of base target.root split.old_page split.new_page (seed_of target) (depth_of base target.root) (256 * place + r)
    right = placed_right target.bits base target.root split.old_page split.new_page (seed_of target) place dir made b.may was
        (λ r h le lt. has.entries.inside r h (omega (arith, start_is, le)) (omega (arith, start_is, length_is, lt)))
        (subst (λ (p : ℕ × ℕ). (r : ℕ) → r < 256 → (256 * place + r < p.0) ⊎ (p.0 + p.1 ≤ 256 * place + r) → slice_index made r ≡ slice_index dir r) (λ i. (start_is i, length_is i)) has.entries.outside)

    filled_in_base : IsMidway (bucket_split target.bits splitters base target.root split.old_page split.new_page (seed_of target)) (depth_of base target.root) pages' (dirs_of base target.root) (place + 1) (place + 1)
    filled_in_base =
        let number : slice_index (dirs_of base target.root) place ≡ slice_index header.dirs place = ap (λ (h : HeadFields). slice_index h.dirs place) header_is in
        let filled : IsMidway (bucket_split target.bits splitters base target.root split.old_page split.new_page (seed_of target)) (depth_of base target.root) pages (dirs_of base target.root) place place = subst (λ g. IsMidway (bucket_split target.bits splitters base target.root split.old_page split.new_page (seed_of target)) g pages (dirs_of base target.root) place place) (sym b.directory_depth) s.filled in
        rewrites_a_page target.bits splitters base target.root (seed_of target) split.old_page split.new_page b.may pages pages' (depth_of base target.root) (dirs_of base target.root) (dirs_of base target.root) place place (slice_index header.dirs place) made filled
        (record { writes = writes; longer = record { last = number; before = λ q lt. refl }; size = has.size; right = right })
        listed number

    -- with this page written the split is one page further
    pub in_place_further : place + 1 < end → IsInPlace target splitters base pages' (record split { phase = SplitPhase.InPlace (place + 1) end }) (place + 1) end
    in_place_further more = record {
      shallow = s.shallow;
      filled = subst (λ g. IsMidway (bucket_split target.bits splitters base target.root split.old_page split.new_page (seed_of target)) g pages' (dirs_of base target.root) (place + 1) (place + 1)) b.directory_depth filled_in_base;
      first = s.first;
      places = s.places;
      from = let from = s.from in omega (arith, from);
      more = more;
      last = s.last;
    }

    -- or closed
    pub in_place_closed : place + 1 ≡ end → IsClosed target.bits splitters base pages' target.root split.old_page split.new_page (seed_of target)
    in_place_closed at_end =
        closed_in_place target.bits splitters base target.root split.old_page split.new_page (seed_of target) b.may pages' (place + 1) filled_in_base
        (subst (λ e. run_start base target.root split.old_page (seed_of target) + run_length base target.root split.old_page ≤ 256 * e) (sym at_end) s.last)
        (subst (λ (p : ℕ × ℕ). p.0 < p.1) (λ i. (depth_is i, sym b.directory_depth i)) s.shallow)

module _ (target : SplitTarget) (m : LocalState) (split : SplitFields) (place end : ℕ) (may : MayStep m) (file : HasClean target (view_over target.before m)) (way : IsUnderWay target (view_over target.before m) split) (at_place : split.phase ≡ SplitPhase.InPlace place end) where
  begins_here : Begins target (over file.clean way.rest) split way.bucket
  begins_here = begins_now target m split may file way

  stands_here : IsInPlace target way.splitters (over file.clean way.rest) (over file.clean (view_over target.before m).own) split place end
  stands_here = stands_now target m split (SplitPhase.InPlace place end) at_place may file way

  among_here : HoldsAmong (view_over target.before m) way.header.dirs way.header.dirs 0 (2 ^ (split.directory_depth - 8)) 0 (most_held target.held_before (split.depth + 1) split.directory_depth)
  among_here = subst (λ (p : SplitPhase). HoldsAmongAt p target.held_before (view_over target.before m) way.header.dirs split) at_place way.among

  head_over : (clean : ℕ → Option Page) → Agrees (view_over target.before m).seen clean → over clean (view_over target.before m).own target.root ≡ Some (Page.Head way.header)
  head_over clean agrees = sym (held_page_over (view_over target.before m) clean target.root agrees way.head_held) ∙ way.head

  pub depths_here : (split.depth < split.directory_depth) × (split.directory_depth ≤ 16)
  depths_here = (stands_here.shallow, (depths_are_small target (over file.clean way.rest) split way.bucket begins_here).1)

  pub place_is_small : place < 256
  place_is_small =
      let few = few_pages split.directory_depth depths_here.1 in
      let more = stands_here.more in
      let within = stands_here.places.within in
      omega (arith, few, more, within)

  pub end_is_small : end ≤ 256
  end_is_small =
      let few = few_pages split.directory_depth depths_here.1 in
      let within = stands_here.places.within in
      omega (arith, few, within)

  pub place_before_end : place < end
  place_before_end = stands_here.more

  module _ (header : HeadFields) (head : held_page (view_over target.before m) target.root ≡ Some (Page.Head header)) (q : ℕ) (number : q ≡ slice_index header.dirs place) where
    number_is : q ≡ slice_index way.header.dirs place
    number_is = let e : Some (Page.Head header) ≡ Some (Page.Head way.header) = sym head ∙ way.head in let same : header ≡ way.header = cc in number ∙ ap (λ (h : HeadFields). slice_index h.dirs place) same

    -- the next page of the directory is there,
    next_over : (dir : List ℕ) × (over file.clean (view_over target.before m).own q ≡ Some (Page.Dir dir))
    next_over =
        let p = next_page target way.splitters (over file.clean way.rest) (over file.clean (view_over target.before m).own) split way.bucket place end way.header begins_here stands_here (head_over file.clean file.agrees) in
        (p.0, ap (over file.clean (view_over target.before m).own) number_is ∙ p.1)

    pub next_is_there : ((p : ℕ) → is_some (over file.clean (view_of m).own p) ≡ true → is_some (page_at m.store.pages p) ≡ true) → is_some (page_at m.store.pages q) ≡ true
    next_is_there there = there q (ap is_some next_over.1)

    -- and one of the directory's
    pub next_is_dir : (mid : View) (read : Option Page) → ReadsPage (view_over target.before m) mid q Exclusive read → Agrees mid.seen file.clean → (dir : List ℕ) × (read ≡ Some (Page.Dir dir))
    next_is_dir mid read reads agrees = let p = next_over in (p.0, sym (reads_over (view_over target.before m) mid q Exclusive read file.clean reads agrees) ∙ p.1)

    module _ (new : LocalState) (mid : View) (dir made : List ℕ) (first count : ℕ) (places : AreNewPlaces split first count) (has : IsMadeInPlace dir made place first count split.new_page) (reads : ReadsPage (view_over target.before m) mid q Exclusive (Some (Page.Dir dir))) (writes : WritesPage mid (view_over target.before new) q (Page.Dir made)) where
      rewritten : Rewrites (view_over target.before m) (view_over target.before new) q (Page.Dir made)
      rewritten = rewrites (view_over target.before m) mid (view_over target.before new) q (Some (Page.Dir dir)) (Page.Dir made) reads writes

      elsewhere : target.root ≡ q → ⊥
      elsewhere e = next_is_elsewhere target way.splitters (over file.clean way.rest) (over file.clean (view_over target.before m).own) split way.bucket place end way.header begins_here stands_here (head_over file.clean file.agrees) (e ∙ number_is)

      later : IsLater target.root (view_over target.before m) (view_over target.before new)
      later = later_by_rewrite target.root (view_over target.before m) (view_over target.before new) q (Page.Dir made) elsewhere rewritten

      agrees_mid : (clean : ℕ → Option Page) → Agrees (view_over target.before new).seen clean → Agrees mid.seen clean
      agrees_mid clean agrees p first sees = agrees p first (writes.seen p ∙ sees)

      read_over : (clean : ℕ → Option Page) → Agrees (view_over target.before new).seen clean → over clean (view_over target.before m).own (slice_index way.header.dirs place) ≡ Some (Page.Dir dir)
      read_over clean agrees = ap (over clean (view_over target.before m).own) (sym number_is) ∙ reads_over (view_over target.before m) mid q Exclusive (Some (Page.Dir dir)) clean reads (agrees_mid clean agrees)

      written_over : (clean : ℕ → Option Page) → Writes (over clean (view_over target.before m).own) (over clean (view_over target.before new).own) (slice_index way.header.dirs place) (Page.Dir made)
      written_over clean = subst (λ n. Writes (over clean (view_over target.before m).own) (over clean (view_over target.before new).own) n (Page.Dir made)) number_is (record {
        here = ap (λ o. own_or_clean o (clean q)) rewritten.here;
        others = λ p ne. ap (λ o. own_or_clean o (clean p)) (rewritten.others p ne);
      })

      stood : (clean : ℕ → Option Page) → Agrees (view_over target.before m).seen clean → HasForm target.bits clean target.root → IsInPlace target way.splitters (over clean way.rest) (over clean (view_over target.before m).own) split place end
      stood clean agrees form = subst (λ (p : SplitPhase). StandsAt p target way.splitters (over clean way.rest) (over clean (view_over target.before m).own) split way.bucket) at_place (way.stands clean agrees form)

      among_after : HoldsAmong (view_over target.before new) way.header.dirs way.header.dirs 0 (2 ^ (split.directory_depth - 8)) 0 (most_held target.held_before (split.depth + 1) split.directory_depth)
      among_after =
          let more = stands_here.more in
          let within = stands_here.places.within in
          let a = among_here in
          let listed : IsIn (slice_index way.header.dirs place) a.pages = a.old_dirs place (omega arith) (omega (arith, more, within)) in
          among_after_lock (view_over target.before m) (view_over target.before new) way.header.dirs way.header.dirs 0 (2 ^ (split.directory_depth - 8)) 0 (most_held target.held_before (split.depth + 1) split.directory_depth) a q Exclusive (subst (λ n. IsIn n a.pages) (sym number_is) listed) rewritten.modes

      -- **A page that is written in place is a step further,**
      pub in_place_goes_on : place + 1 < end → GoesOn target new split (record split { phase = SplitPhase.InPlace (place + 1) end })
      in_place_goes_on more = record {
        under_way = stays_under_way target (view_over target.before m) (view_over target.before new) split split.made split.second (SplitPhase.InPlace (place + 1) end) way later
            (λ clean agrees form.
            let before = agreed_before target.root (view_over target.before m) (view_over target.before new) clean later agrees in
            in_place_further target way.splitters (over clean way.rest) (over clean (view_over target.before m).own) split way.bucket place end way.header (way.begins clean before form) (stood clean before form) (head_over clean before) (over clean (view_over target.before new).own) dir made first count places has (read_over clean agrees) (written_over clean) more)
            among_after;
        fewer = let steps : steps_left split ≡ end - place = ap (steps_left_at split.depth split.directory_depth) at_place in omega (arith, steps, more);
        depth = refl;
        directory_depth = refl;
      }

      done : place + 1 ≡ end → HasClosed target (view_over target.before new) way.rest way.splitters split way.header way.bucket
      done at_end = record {
        bounded = way.bounded;
        keeps = keeps_more target.bits target.active target.root (view_over target.before m).seen (view_over target.before new).seen way.rest later.before way.keeps;
        head_held = held_still target.root (view_over target.before m) (view_over target.before new) target.root later way.head_held;
        head = same_head target.root (view_over target.before m) (view_over target.before new) later way.head_held ∙ way.head;
        old_held = held_still target.root (view_over target.before m) (view_over target.before new) split.old_page later way.old_held;
        new_held = seen_over_held target.before new split.new_page Exclusive (later.exclusive split.new_page way.new_exclusive);
        old_exclusive = later.exclusive split.old_page way.exclusive;
        new_exclusive = later.exclusive split.new_page way.new_exclusive;
        fewer = way.fewer;
        absent = way.absent;
        no_ghost = way.no_ghost;
        room = way.room;
        small = way.small;
        few_before = way.few_before;
        begins = λ clean agrees form. way.begins clean (agreed_before target.root (view_over target.before m) (view_over target.before new) clean later agrees) form;
        closed = λ clean agrees form.
            let before = agreed_before target.root (view_over target.before m) (view_over target.before new) clean later agrees in
            in_place_closed target way.splitters (over clean way.rest) (over clean (view_over target.before m).own) split way.bucket place end way.header (way.begins clean before form) (stood clean before form) (head_over clean before) (over clean (view_over target.before new).own) dir made first count places has (read_over clean agrees) (written_over clean) at_end;
        among = subst (λ g. HoldsAmong (view_over target.before new) way.header.dirs way.header.dirs 0 (2 ^ (g - 8)) 0 (most_held target.held_before (split.depth + 1) g)) (sym (same_depth target way.splitters (over file.clean way.rest) (over file.clean (view_over target.before m).own) split way.bucket place end way.header begins_here stands_here (head_over file.clean file.agrees))) among_after;
      }

      -- **or closes the split.**
      pub in_place_rests : (n : ℕ) → place + 1 ≡ end → HasClean target (view_over target.before new) → n ≡ half_page split.depth split.seed split.old_page split.new_page → Rests target new split n × (steps_left split ≡ 1)
      in_place_rests n at_end clean here =
          let depth = same_depth target way.splitters (over file.clean way.rest) (over file.clean (view_over target.before m).own) split way.bucket place end way.header begins_here stands_here (head_over file.clean file.agrees) in
          let rest = closes target (view_over target.before new) way.rest way.splitters split way.header way.bucket clean (done at_end) in
          let shallow = stands_here.shallow in
          let steps : steps_left split ≡ end - place = ap (steps_left_at split.depth split.directory_depth) at_place in (
            record {
              header = way.header;
              bucket = half_of target.bits way.splitters way.bucket (bit_at split.depth split.seed);
              rest = subst (λ o. IsAtRest target (view_over target.before new) o way.header (half_of target.bits way.splitters way.bucket (bit_at split.depth split.seed))) (sym here) rest;
              deeper = ap (λ l. l + 1) begins_here.depth;
              in_place = λ _. depth;
              doubled = λ (e : split.depth ≡ split.directory_depth). absurd (omega (arith, e, shallow));
            },
            omega (arith, steps, at_end),
          )
