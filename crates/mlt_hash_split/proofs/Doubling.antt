-- A page of the old directory is rewritten as its first half doubled
use Rattle.std.proofs.Common.{◌≡◌, ℕ, ◌+◌, ◌-◌, ◌*◌, ◌/◌, ◌%◌, ◌<◌, ◌≤◌, ◌^◌, true, cond, List, length, slice_index, slice_set, Option, Some, is_some, refl, sym, ap, subst, ◌∙◌, arith, lt-ltb, le-ltb}
use Rattle.std.specs.FinMap as map
use Rattle.mlt_hash_split.proofs.Names.{Exclusive, first_bits, Page, HeadFields, Modes, page_at, HasForm, buckets_of, bucket_of, depth_of, dirs_of, entry, header_of, Agrees, over, IsDoubled, IsMidway, target_of, bucket_split, page_as_it_was, pages_when_doubled, rewrites_a_page, set_is_longer, MayStep, LocalState, ReadsPage, View, WritesPage, view_over, view_of, SplitTarget, HoldsAmong, IsIn, held_page, most_held, seed_of, Begins, HoldsAmongAt, IsUnderWay, SplitFields, StandsAt, steps_left_at, GoesOn, SplitPhase, agrees_through_write, reads_over}
use Rattle.mlt_hash_form.{specs.Splits.prefix_of, proofs.HeldPages.writes_over, proofs.PageContents.doubled_right}
use Rattle.mlt_hash_split.{proofs.Closing.HasClean, specs.Splits.IsAtDouble, proofs.Among.locked_is_among, proofs.SecondHalf.among_all_made, proofs.SecondHalf.named_among}
use Rattle.mlt_hash_split.proofs.Later.{IsLater, Rewrites, rewrites, agreed_before, begins_now, half_pages, held_over, later_by_rewrite, stands_now, stays_under_way}

-- the pages that are held once the next page of the old directory is locked, and named as the next one of the new
pub among_by_rewrite : (view view' : View) (dirs made : List ℕ) (k count j most q : ℕ) (page : Page) → j < length made → k < count → slice_index dirs k ≡ q → HoldsAmong view dirs made k count j most → Rewrites view view' q page → HoldsAmong view' dirs (slice_set made j q) (k + 1) count (j + 1) most
among_by_rewrite view view' dirs made k count j most q page h more is among rewrites =
    let here : IsIn q among.pages = subst (λ (p : ℕ). IsIn p among.pages) is (among.old_dirs k (omega arith) more) in
    record {
      pages = among.pages;
      few = among.few;
      all = λ p. subst (λ (modes : Modes). is_some (map.get modes p) ≡ true → IsIn p among.pages) (sym rewrites.modes) (locked_is_among view.modes q Exclusive among.pages among.all here p);
      old_dirs = λ i low high. among.old_dirs i (omega arith) high;
      new_dirs = named_among made j q among.pages h among.new_dirs here;
    }

-- over clean pages that agree, the file before the split has the header that is held
module _ (target : SplitTarget) (view : View) (split : SplitFields) (place : ℕ) (under : IsUnderWay target view split) (clean : ℕ → Option Page) (agree : Agrees view.seen clean) (form : HasForm target.bits clean target.root) (stands : IsAtDouble target under.splitters (over clean under.rest) (over clean view.own) split place) where
  abbrev base : ℕ → Option Page
  base = over clean under.rest

  abbrev pages : ℕ → Option Page
  pages = over clean view.own

  begins : Begins target base split under.bucket
  begins = under.begins clean agree form

  head_is : pages target.root ≡ Some (Page.Head under.header)
  head_is = held_over view target.root clean agree under.head_held ∙ under.head

  pub base_dirs : dirs_of base target.root ≡ under.header.dirs
  base_dirs = ap (λ (p : Option Page). (header_of p).dirs) (sym stands.filled.header ∙ head_is)

  bucket_depth : (buckets_of base split.old_page).depth ≡ split.directory_depth
  bucket_depth = ap (λ (p : Option Page). (bucket_of p).depth) begins.was ∙ begins.depth ∙ stands.deep

  pub next_in_base : place < 2 ^ (depth_of base target.root - 8)
  next_in_base = subst (λ (g : ℕ). place < 2 ^ (g - 8)) (sym begins.directory_depth) stands.more

  -- the next page of the old directory is there, as it was
  pub next_page : (dir : List ℕ) × (pages (slice_index (dirs_of base target.root) place) ≡ Some (Page.Dir dir)) × (length dir ≡ 256) × ((r : ℕ) → r < 256 → slice_index dir r ≡ entry base (dirs_of base target.root) (256 * place + r))
  next_page = page_as_it_was target.bits under.splitters base pages target.root split.old_page split.new_page (seed_of target) split.made.depth (2 * place) place place split.made.dirs stands.filled (omega arith) next_in_base

  pub next_is_a_directory_page : (dir : List ℕ) × (pages (slice_index under.header.dirs place) ≡ Some (Page.Dir dir))
  next_is_a_directory_page = (next_page.0, subst (λ (dirs : List ℕ). pages (slice_index dirs place) ≡ Some (Page.Dir next_page.0)) base_dirs next_page.1)

  -- it is not the header's page
  pub next_is_not_the_root : (q : ℕ) → q ≡ slice_index under.header.dirs place → target.root ≡ q → ⊥
  unfolding next_is_a_directory_page
  next_is_not_the_root q is same =
      let e : Some (Page.Head under.header) ≡ Some (Page.Dir next_page.0) = sym head_is ∙ ap pages (same ∙ is) ∙ next_is_a_directory_page.1 in
      cc

  prefix : prefix_of base split.old_page (seed_of target) ≡ 2 * first_bits split.directory_depth split.seed + 1
  prefix = λ i. 2 * first_bits (bucket_depth i) (sym begins.seed i) + 1

  module _ (dir made : List ℕ) (j : ℕ) (half : j / 2 ≡ place) (read : pages (slice_index under.header.dirs place) ≡ Some (Page.Dir dir))
      (others : (r : ℕ) → r < 256 → (256 * j + r ≡ 2 * first_bits split.directory_depth split.seed + 1 → ⊥) → slice_index made r ≡ slice_index dir (128 * (j % 2) + r / 2))
      (here : (r : ℕ) → r < 256 → 256 * j + r ≡ 2 * first_bits split.directory_depth split.seed + 1 → slice_index made r ≡ split.new_page) where
    dir_is : next_page.0 ≡ dir
    unfolding next_is_a_directory_page
    dir_is =
        let e : Some (Page.Dir next_page.0) ≡ Some (Page.Dir dir) = sym next_is_a_directory_page.1 ∙ read in
        cc

    -- a page of the doubled directory that is made of it is right
    pub doubled_is_right : (r : ℕ) → r < 256 → slice_index made r ≡ target_of base target.root split.old_page split.new_page (seed_of target) split.made.depth (256 * j + r)
    doubled_is_right r h =
        let was = subst (λ (d : List ℕ). (r : ℕ) → r < 256 → slice_index d r ≡ entry base (dirs_of base target.root) (256 * place + r)) dir_is next_page.3 in
        let deeper : depth_of base target.root + 1 ≡ split.made.depth = ap (λ g. g + 1) begins.directory_depth ∙ sym stands.deeper in
        doubled_right base target.root split.old_page split.new_page (seed_of target) j dir made (bucket_depth ∙ sym begins.directory_depth)
        (λ r h. was r h ∙ ap (λ k. entry base (dirs_of base target.root) (256 * k + r)) (sym half))
        (λ r h ne. others r h (λ e. ne (e ∙ sym prefix)))
        (λ r h e. here r h (e ∙ prefix)) r h
        ∙ ap (λ g. target_of base target.root split.old_page split.new_page (seed_of target) g (256 * j + r)) deeper

-- how deep the directory is, and how many pages it has, at most
pub depth_of_double : (target : SplitTarget) (m : LocalState) (split : SplitFields) (place : ℕ) → split.phase ≡ SplitPhase.Double place → MayStep m → HasClean target (view_over target.before m) → IsUnderWay target (view_over target.before m) split
    → (split.directory_depth < 16) × (place < 2 ^ (split.directory_depth - 8)) × (split.depth ≡ split.directory_depth)
depth_of_double target m split place phase may file under =
    let begins = begins_now target m split may file under in
    let stands = stands_now target m split (SplitPhase.Double place) phase may file under in
    (omega (arith, begins.deep, under.small, stands.deep), stands.more, stands.deep)

pub place_of_double : (target : SplitTarget) (m : LocalState) (split : SplitFields) (place : ℕ) → split.phase ≡ SplitPhase.Double place → MayStep m → HasClean target (view_over target.before m) → IsUnderWay target (view_over target.before m) split → place < 128
place_of_double target m split place phase may file under =
    let depth = depth_of_double target m split place phase may file under in
    omega (arith, depth.1, half_pages split.directory_depth depth.0)

same_header : (p : Option Page) (header other : HeadFields) → p ≡ Some (Page.Head header) → p ≡ Some (Page.Head other) → header ≡ other
same_header p header other e f = let same : Some (Page.Head header) ≡ Some (Page.Head other) = sym e ∙ f in cc

module _ (target : SplitTarget) (m : LocalState) (split : SplitFields) (place number : ℕ) (header : HeadFields) (phase : split.phase ≡ SplitPhase.Double place) (may : MayStep m) (file : HasClean target (view_over target.before m)) (under : IsUnderWay target (view_over target.before m) split) (read : held_page (view_over target.before m) target.root ≡ Some (Page.Head header)) (is : number ≡ slice_index header.dirs place) where
  listed : number ≡ slice_index under.header.dirs place
  listed = is ∙ ap (λ (h : HeadFields). slice_index h.dirs place) (same_header (held_page (view_over target.before m) target.root) header under.header read under.head)

  now : IsAtDouble target under.splitters (over file.clean under.rest) (over file.clean (view_over target.before m).own) split place
  now = stands_now target m split (SplitPhase.Double place) phase may file under

  pub next_now : (dir : List ℕ) × (over file.clean (view_over target.before m).own number ≡ Some (Page.Dir dir))
  next_now =
      let next = next_is_a_directory_page target (view_over target.before m) split place under file.clean file.agrees file.form now in
      (next.0, ap (over file.clean (view_over target.before m).own) listed ∙ next.1)

  -- the next page of the old directory is there,
  pub next_is_there : ((q : ℕ) → is_some (over file.clean (view_of m).own q) ≡ true → is_some (page_at m.store.pages q) ≡ true) → is_some (page_at m.store.pages number) ≡ true
  next_is_there there = there number (ap is_some next_now.1)

  pub not_the_root : target.root ≡ number → ⊥
  not_the_root = next_is_not_the_root target (view_over target.before m) split place under file.clean file.agrees file.form now number listed

  -- and a page of the directory is read
  pub next_is_read : (mid : LocalState) (read : Option Page) → Agrees (view_over target.before mid).seen file.clean → ReadsPage (view_over target.before m) (view_over target.before mid) number Exclusive read → (dir : List ℕ) × (read ≡ Some (Page.Dir dir))
  next_is_read mid read agrees_mid reads = (next_now.0, sym (reads_over (view_over target.before m) (view_over target.before mid) number Exclusive read file.clean reads agrees_mid) ∙ next_now.1)

-- what the two pages hold that are made of a page of the old directory
pub record IsMadeOf (split : SplitFields) (dir made : List ℕ) (j : ℕ) : Type 0 where
  pub size : length made ≡ 256
  pub entries : IsDoubled dir made j (2 * first_bits split.directory_depth split.seed + 1) split.new_page

module _ (target : SplitTarget) (view mid view' : View) (split : SplitFields) (place number : ℕ) (header : HeadFields) (dir first second : List ℕ) (phase : split.phase ≡ SplitPhase.Double place) (under : IsUnderWay target view split) (read : held_page view target.root ≡ Some (Page.Head header)) (is : number ≡ slice_index header.dirs place)
    (ne : target.root ≡ number → ⊥) (reads : ReadsPage view mid number Exclusive (Some (Page.Dir dir))) (writes : WritesPage mid view' number (Page.Dir first)) (sized : 2 * place < length split.made.dirs) (one : IsMadeOf split dir first (2 * place)) (two : IsMadeOf split dir second (2 * place + 1)) where
  rewritten : Rewrites view view' number (Page.Dir first)
  rewritten = rewrites view mid view' number (Some (Page.Dir dir)) (Page.Dir first) reads writes

  later : IsLater target.root view view'
  later = later_by_rewrite target.root view view' number (Page.Dir first) ne rewritten

  listed_as : number ≡ slice_index under.header.dirs place
  listed_as = is ∙ ap (λ (h : HeadFields). slice_index h.dirs place) (same_header (held_page view target.root) header under.header read under.head)

  module _ (clean : ℕ → Option Page) (agree' : Agrees view'.seen clean) (form : HasForm target.bits clean target.root) where
    agree : Agrees view.seen clean
    agree = agreed_before target.root view view' clean later agree'

    pub stood : IsAtDouble target under.splitters (over clean under.rest) (over clean view.own) split place
    stood = subst (λ (p : SplitPhase). StandsAt p target under.splitters (over clean under.rest) (over clean view.own) split under.bucket) phase (under.stands clean agree form)

    dir_read : over clean view.own (slice_index under.header.dirs place) ≡ Some (Page.Dir dir)
    dir_read = ap (over clean view.own) (sym listed_as) ∙ reads_over view mid number Exclusive (Some (Page.Dir dir)) clean reads ((agrees_through_write mid view' number (Page.Dir first) clean writes).1 agree')

    -- the page was written as the next page of the new directory,
    pub double_filled : IsMidway (bucket_split target.bits under.splitters (over clean under.rest) target.root split.old_page split.new_page (seed_of target)) split.made.depth (over clean view'.own) (slice_set split.made.dirs (2 * place) number) (2 * place + 1) (place + 1)
    double_filled =
        rewrites_a_page target.bits under.splitters (over clean under.rest) target.root (seed_of target) split.old_page split.new_page (under.begins clean agree form).may (over clean view.own) (over clean view'.own) split.made.depth split.made.dirs (slice_set split.made.dirs (2 * place) number) (2 * place) place number first stood.filled
        (record {
          writes = writes_over clean view.own view'.own number (Page.Dir first) rewritten.here rewritten.others;
          longer = set_is_longer split.made.dirs (2 * place) number sized;
          size = one.size;
          right = doubled_is_right target view split place under clean agree form stood dir first (2 * place) (omega arith) dir_read one.entries.others one.entries.here;
        })
        (next_in_base target view split place under clean agree form stood)
        (ap (λ (dirs : List ℕ). slice_index dirs place) (base_dirs target view split place under clean agree form stood) ∙ sym listed_as)

    -- and the page of the second half is right
    pub second_is_right : (r : ℕ) → r < 256 → slice_index second r ≡ target_of (over clean under.rest) target.root split.old_page split.new_page (seed_of target) split.made.depth (256 * (2 * place + 1) + r)
    second_is_right = doubled_is_right target view split place under clean agree form stood dir second (2 * place + 1) (omega arith) dir_read two.entries.others two.entries.here

  abbrev pub renamed : HeadFields
  renamed = record split.made { dirs = slice_set split.made.dirs (2 * place) number }

  -- the pages that are held are those of before, and this one, which was among them
  pub among_rewritten : place < 2 ^ (split.directory_depth - 8)
      → HoldsAmong view' under.header.dirs (slice_set split.made.dirs (2 * place) number) (place + 1) (2 ^ (split.directory_depth - 8)) (2 * place + 1) (most_held target.held_before (split.depth + 1) split.directory_depth + place)
  among_rewritten more =
      among_by_rewrite view view' under.header.dirs split.made.dirs place (2 ^ (split.directory_depth - 8)) (2 * place) (most_held target.held_before (split.depth + 1) split.directory_depth + place) number (Page.Dir first) sized more (sym listed_as)
      (subst (λ (p : SplitPhase). HoldsAmongAt p target.held_before view under.header.dirs split) phase under.among) rewritten

  -- the page of the second half is next,
  pub second_half_stands : 8 ≤ split.directory_depth → place < 2 ^ (split.directory_depth - 8) → IsUnderWay target view' (record split { made = renamed; second = second; phase = SplitPhase.SecondHalf place })
  second_half_stands long more =
      stays_under_way target view view' split renamed second (SplitPhase.SecondHalf place) under later (λ clean agree form. let s = stood clean agree form in record {
        deep = s.deep;
        filled = double_filled clean agree form;
        more = s.more;
        deeper = s.deeper;
        long = long;
        sized = two.size;
        right = second_is_right clean agree form;
      })
      (among_rewritten more)

  -- or the header, while the directory has one page
  pub single_page_stands : split.directory_depth < 8 → place < 2 ^ (split.directory_depth - 8) → split.made.depth ≡ split.directory_depth + 1 → IsUnderWay target view' (record split { made = renamed; second = second; phase = SplitPhase.Header })
  single_page_stands short more deeper =
      let none : split.directory_depth - 8 ≡ 0 = omega arith in
      let one_page : 2 ^ (split.directory_depth - 8) ≡ 1 = ap (λ k. 2 ^ k) none in
      let after : 2 ^ ((split.directory_depth + 1) - 8) ≡ 1 = (pages_when_doubled split.directory_depth).0 short in
      let all : 2 ^ (split.made.depth - 8) ≡ 2 * place + 1 = ap (λ g. 2 ^ (g - 8)) deeper ∙ after ∙ (let only : 1 ≡ 2 * place + 1 = omega arith in only) in
      stays_under_way target view view' split renamed second SplitPhase.Header under later (λ clean agree form. let s = stood clean agree form in record {
        deep = s.deep;
        taken = place + 1;
        filled = subst (λ (j : ℕ). IsMidway (bucket_split target.bits under.splitters (over clean under.rest) target.root split.old_page split.new_page (seed_of target)) split.made.depth (over clean view'.own) (slice_set split.made.dirs (2 * place) number) j (place + 1)) (sym all) (double_filled clean agree form);
        deeper = s.deeper;
      })
      (among_all_made view' under.header.dirs (slice_set split.made.dirs (2 * place) number) (place + 1) (2 ^ (split.directory_depth - 8)) (2 * place + 1) (most_held target.held_before (split.depth + 1) split.directory_depth + place) (2 ^ (split.made.depth - 8)) (most_held target.held_before (split.depth + 1) split.made.depth) all (omega (arith, all, one_page)) (among_rewritten more))

-- what is known where a page of the old directory was read and written
pub record IsRewrite (target : SplitTarget) (old mid new : LocalState) (split : SplitFields) (place number : ℕ) (header : HeadFields) (dir first second : List ℕ) : Type 0 where
  pub read : held_page (view_over target.before old) target.root ≡ Some (Page.Head header)
  pub listed : number ≡ slice_index header.dirs place
  pub reads : ReadsPage (view_over target.before old) (view_over target.before mid) number Exclusive (Some (Page.Dir dir))
  pub writes : WritesPage (view_over target.before mid) (view_over target.before new) number (Page.Dir first)
  pub one : IsMadeOf split dir first (2 * place)
  pub two : IsMadeOf split dir second (2 * place + 1)
  pub sized : length split.made.dirs ≡ 256

-- **The split goes on once a page of the old directory is rewritten.**
pub goes_on_to_the_second_half : (target : SplitTarget) (old mid new : LocalState) (split now : SplitFields) (place number : ℕ) (header made : HeadFields) (dir first second : List ℕ) (next : SplitPhase) → split ≡ now → now.phase ≡ SplitPhase.Double place → MayStep old → HasClean target (view_over target.before old) → IsUnderWay target (view_over target.before old) now
    → IsRewrite target old mid new split place number header dir first second → 8 ≤ split.directory_depth
    → made ≡ record split.made { dirs = slice_set split.made.dirs (2 * place) number } → next ≡ SplitPhase.SecondHalf place → GoesOn target new now (record split { made = made; second = second; phase = next })
goes_on_to_the_second_half target old mid new split now place number header made dir first second next is phase may file under step long named phased =
    subst (λ (s : SplitFields). GoesOn target new now s) (λ i. record split { made = sym named i; second = second; phase = sym phased i })
    (subst (λ (now : SplitFields). now.phase ≡ SplitPhase.Double place → IsUnderWay target (view_over target.before old) now → GoesOn target new now (record split { made = record split.made { dirs = slice_set split.made.dirs (2 * place) number }; second = second; phase = SplitPhase.SecondHalf place })) is
    (λ (phase : split.phase ≡ SplitPhase.Double place) (under : IsUnderWay target (view_over target.before old) split).
    let depth = depth_of_double target old split place phase may file under in
    let g = split.directory_depth in
    let inside : 2 * place < length split.made.dirs = omega (arith, place_of_double target old split place phase may file under, step.sized) in
    let ne = not_the_root target old split place number header phase may file under step.read step.listed in
    record {
      under_way = second_half_stands target (view_over target.before old) (view_over target.before mid) (view_over target.before new) split place number header dir first second phase under step.read step.listed ne step.reads step.writes inside step.one step.two long depth.1;
      fewer = sym (ap (λ b. cond b 2 (2 * (2 ^ (g - 8) - place) + 1)) (le-ltb g 8 long)) ∙ sym (ap (steps_left_at split.depth g) phase);
      depth = refl;
      directory_depth = refl;
    }) phase under)

pub goes_on_to_the_only_header : (target : SplitTarget) (old mid new : LocalState) (split now : SplitFields) (place number : ℕ) (header made : HeadFields) (dir first second : List ℕ) (next : SplitPhase) → split ≡ now → now.phase ≡ SplitPhase.Double place → MayStep old → HasClean target (view_over target.before old) → IsUnderWay target (view_over target.before old) now
    → IsRewrite target old mid new split place number header dir first second → split.directory_depth < 8
    → made ≡ record split.made { dirs = slice_set split.made.dirs (2 * place) number } → next ≡ SplitPhase.Header → GoesOn target new now (record split { made = made; second = second; phase = next })
goes_on_to_the_only_header target old mid new split now place number header made dir first second next is phase may file under step short named phased =
    subst (λ (s : SplitFields). GoesOn target new now s) (λ i. record split { made = sym named i; second = second; phase = sym phased i })
    (subst (λ (now : SplitFields). now.phase ≡ SplitPhase.Double place → IsUnderWay target (view_over target.before old) now → GoesOn target new now (record split { made = record split.made { dirs = slice_set split.made.dirs (2 * place) number }; second = second; phase = SplitPhase.Header })) is
    (λ (phase : split.phase ≡ SplitPhase.Double place) (under : IsUnderWay target (view_over target.before old) split).
    let depth = depth_of_double target old split place phase may file under in
    let stands = stands_now target old split (SplitPhase.Double place) phase may file under in
    let g = split.directory_depth in
    let inside : 2 * place < length split.made.dirs = omega (arith, place_of_double target old split place phase may file under, step.sized) in
    let ne = not_the_root target old split place number header phase may file under step.read step.listed in
    record {
      under_way = single_page_stands target (view_over target.before old) (view_over target.before mid) (view_over target.before new) split place number header dir first second phase under step.read step.listed ne step.reads step.writes inside step.one step.two short depth.1 stands.deeper;
      fewer = sym (ap (λ b. cond b 2 (2 * (2 ^ (g - 8) - place) + 1)) (lt-ltb g 8 short)) ∙ sym (ap (steps_left_at split.depth g) phase);
      depth = refl;
      directory_depth = refl;
    }) phase under)
