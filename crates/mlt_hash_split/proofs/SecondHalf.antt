-- The page of a second half is made
use Rattle.std.proofs.Common.{◌≡◌, ℕ, ◌+◌, ◌-◌, ◌*◌, ◌<◌, ◌≤◌, ◌^◌, true, cond, List, ◌∷◌, length, slice_index, slice_set, Option, None, is_some, refl, sym, ap, subst, ◌∙◌, inl, inr, arith, le-ltb}
use Rattle.std.specs.FinMap as map
use Rattle.mlt_hash_split.proofs.Names.{cases_lt, Exclusive, Page, HeadFields, Modes, HasForm, Agrees, over, own_or_clean, IsMidway, bucket_split, pages_when_doubled, set_is_longer, MayStep, LocalState, MakesPage, View, view_over, SplitTarget, HoldsAmong, IsIn, most_held, seed_of, HoldsAmongAt, IsUnderWay, SplitFields, StandsAt, steps_left_at, GoesOn, SplitPhase, made_is_not_clean, makes_over}
use Rattle.mlt_hash_form.proofs.SplitSteps.{makes_a_page}
use Rattle.mlt_hash_split.{proofs.Closing.HasClean, specs.Splits.IsAtSecondHalf, proofs.Among.first_is_in, proofs.Among.further_is_in, proofs.Among.locked_is_among}
use Rattle.mlt_hash_split.proofs.Later.{IsLater, agreed_before, begins_now, half_pages, later_by_making, stands_now, stays_under_way}

-- a page number at the end of those that are set
pub named_among : (made : List ℕ) (j n : ℕ) (pages : List ℕ) → j < length made → ((i : ℕ) → i < j → IsIn (slice_index made i) pages) → IsIn n pages → (i : ℕ) → i < j + 1 → IsIn (slice_index (slice_set made j n) i) pages
named_among made j n pages h before here i lt =
    let longer = set_is_longer made j n h in
    elim (cases_lt i j) [
      | inl less ↦ subst (λ (p : ℕ). IsIn p pages) (sym (longer.before i less)) (before i less)
      | inr le ↦
          let e : i ≡ j = omega arith in
          subst (λ (p : ℕ). IsIn p pages) (sym (ap (slice_index (slice_set made j n)) e ∙ longer.last)) here
    ]

-- the pages that are held once one more is made, as the next one of the new directory
pub among_with_made : (view view' : View) (dirs made : List ℕ) (k count j most n : ℕ) (page : Page) → j < length made → HoldsAmong view dirs made k count j most → MakesPage view view' n page → HoldsAmong view' dirs (slice_set made j n) k count (j + 1) (most + 1)
among_with_made view view' dirs made k count j most n page h among makes = record {
  pages = n ∷ among.pages;
  few = omega (arith, among.few);
  all = λ q. subst (λ (modes : Modes). is_some (map.get modes q) ≡ true → IsIn q (n ∷ among.pages)) (sym makes.modes) (locked_is_among view.modes n Exclusive (n ∷ among.pages) (λ p some. further_is_in p n among.pages (among.all p some)) (first_is_in n among.pages) q);
  old_dirs = λ i low high. further_is_in (slice_index dirs i) n among.pages (among.old_dirs i low high);
  new_dirs = named_among made j n (n ∷ among.pages) h (λ i lt. further_is_in (slice_index made i) n among.pages (among.new_dirs i lt)) (first_is_in n among.pages);
}

-- with every page of the new directory written no old one is to be locked
pub among_all_made : (view : View) (dirs made : List ℕ) (k count j most j' most' : ℕ) → j' ≡ j → most ≤ most' → HoldsAmong view dirs made k count j most → HoldsAmong view dirs made 0 0 j' most'
among_all_made view dirs made k count j most j' most' e le among = record {
  pages = among.pages;
  few = omega (arith, among.few);
  all = among.all;
  old_dirs = λ i low high. absurd (omega arith);
  new_dirs = λ i lt. among.new_dirs i (omega arith);
}

-- how deep the directory is, and how many pages it has, at most
pub depth_of_second_half : (target : SplitTarget) (m : LocalState) (split : SplitFields) (place : ℕ) → split.phase ≡ SplitPhase.SecondHalf place → MayStep m → HasClean target (view_over target.before m) → IsUnderWay target (view_over target.before m) split
    → (8 ≤ split.directory_depth) × (split.directory_depth < 16) × (place < 2 ^ (split.directory_depth - 8)) × (split.depth ≡ split.directory_depth)
depth_of_second_half target m split place phase may file under =
    let begins = begins_now target m split may file under in
    let stands = stands_now target m split (SplitPhase.SecondHalf place) phase may file under in
    (stands.long, omega (arith, begins.deep, under.small, stands.deep), stands.more, stands.deep)

pub place_of_second_half : (target : SplitTarget) (m : LocalState) (split : SplitFields) (place : ℕ) → split.phase ≡ SplitPhase.SecondHalf place → MayStep m → HasClean target (view_over target.before m) → IsUnderWay target (view_over target.before m) split → place < 128
place_of_second_half target m split place phase may file under =
    let depth = depth_of_second_half target m split place phase may file under in
    omega (arith, depth.2, half_pages split.directory_depth depth.1)

module _ (target : SplitTarget) (view view' : View) (split : SplitFields) (place n : ℕ) (phase : split.phase ≡ SplitPhase.SecondHalf place) (under : IsUnderWay target view split) (makes : MakesPage view view' n (Page.Dir split.second)) (sized : 2 * place + 1 < length split.made.dirs) where
  later : IsLater target.root view view'
  later = later_by_making target.root view view' n (Page.Dir split.second) under.head_held makes

  abbrev pub named : HeadFields
  named = record split.made { dirs = slice_set split.made.dirs (2 * place + 1) n }

  stood : (clean : ℕ → Option Page) → Agrees view'.seen clean → HasForm target.bits clean target.root → IsAtSecondHalf target under.splitters (over clean under.rest) (over clean view.own) split place
  stood clean agree form =
      subst (λ (p : SplitPhase). StandsAt p target under.splitters (over clean under.rest) (over clean view.own) split under.bucket) phase (under.stands clean (agreed_before target.root view view' clean later agree) form)

  -- the page was made as the next page of the new directory
  pub second_half_filled : (clean : ℕ → Option Page) → Agrees view'.seen clean → HasForm target.bits clean target.root
      → IsMidway (bucket_split target.bits under.splitters (over clean under.rest) target.root split.old_page split.new_page (seed_of target)) split.made.depth (over clean view'.own) (slice_set split.made.dirs (2 * place + 1) n) (2 * place + 1 + 1) (place + 1)
  second_half_filled clean agree form =
      let begins = under.begins clean (agreed_before target.root view view' clean later agree) form in
      let s = stood clean agree form in
      let none : over clean view.own n ≡ None = ap (λ (o : Option Page). own_or_clean o (clean n)) makes.own_before ∙ made_is_not_clean view view' n (Page.Dir split.second) clean makes agree in
      makes_a_page target.bits under.splitters (over clean under.rest) target.root (seed_of target) split.old_page split.new_page begins.may (over clean view.own) (over clean view'.own) split.made.depth split.made.dirs (slice_set split.made.dirs (2 * place + 1) n) (2 * place + 1) (place + 1) n split.second s.filled
      (record {
        writes = makes_over view view' n (Page.Dir split.second) clean makes;
        longer = set_is_longer split.made.dirs (2 * place + 1) n sized;
        size = s.sized;
        right = s.right;
      }) none

  -- what is left of the pages that may be held
  among : HoldsAmong view' under.header.dirs (slice_set split.made.dirs (2 * place + 1) n) (place + 1) (2 ^ (split.directory_depth - 8)) (2 * place + 1 + 1) (most_held target.held_before (split.depth + 1) split.directory_depth + place + 1)
  among =
      among_with_made view view' under.header.dirs split.made.dirs (place + 1) (2 ^ (split.directory_depth - 8)) (2 * place + 1) (most_held target.held_before (split.depth + 1) split.directory_depth + place) n (Page.Dir split.second) sized
      (subst (λ (p : SplitPhase). HoldsAmongAt p target.held_before view under.header.dirs split) phase under.among) makes

  -- another page of the old directory is next,
  pub another_page_stands : place + 1 < 2 ^ (split.directory_depth - 8) → IsUnderWay target view' (record split { made = named; phase = SplitPhase.Double (place + 1) })
  another_page_stands more =
      let twice : 2 * place + 1 + 1 ≡ 2 * (place + 1) = omega arith in
      let most : most_held target.held_before (split.depth + 1) split.directory_depth + place + 1 ≡ most_held target.held_before (split.depth + 1) split.directory_depth + (place + 1) = omega arith in
      stays_under_way target view view' split named split.second (SplitPhase.Double (place + 1)) under later (λ clean agree form. let s = stood clean agree form in record {
        deep = s.deep;
        filled = subst (λ (j : ℕ). IsMidway (bucket_split target.bits under.splitters (over clean under.rest) target.root split.old_page split.new_page (seed_of target)) split.made.depth (over clean view'.own) (slice_set split.made.dirs (2 * place + 1) n) j (place + 1)) twice (second_half_filled clean agree form);
        more = more;
        deeper = s.deeper;
      })
      (subst (λ (j : ℕ). HoldsAmong view' under.header.dirs (slice_set split.made.dirs (2 * place + 1) n) (place + 1) (2 ^ (split.directory_depth - 8)) j (most_held target.held_before (split.depth + 1) split.directory_depth + (place + 1))) twice
      (subst (λ (most : ℕ). HoldsAmong view' under.header.dirs (slice_set split.made.dirs (2 * place + 1) n) (place + 1) (2 ^ (split.directory_depth - 8)) (2 * place + 1 + 1) most) most among))

  -- or the header
  pub last_page_stands : 8 ≤ split.directory_depth → split.made.depth ≡ split.directory_depth + 1 → 2 ^ (split.directory_depth - 8) ≡ place + 1 → IsUnderWay target view' (record split { made = named; phase = SplitPhase.Header })
  last_page_stands long deeper last =
      let twice : 2 ^ ((split.directory_depth + 1) - 8) ≡ 2 * 2 ^ (split.directory_depth - 8) = (pages_when_doubled split.directory_depth).1 long in
      let all : 2 ^ (split.made.depth - 8) ≡ 2 * place + 1 + 1 = ap (λ g. 2 ^ (g - 8)) deeper ∙ twice ∙ omega arith in
      stays_under_way target view view' split named split.second SplitPhase.Header under later (λ clean agree form. let s = stood clean agree form in record {
        deep = s.deep;
        taken = place + 1;
        filled = subst (λ (j : ℕ). IsMidway (bucket_split target.bits under.splitters (over clean under.rest) target.root split.old_page split.new_page (seed_of target)) split.made.depth (over clean view'.own) (slice_set split.made.dirs (2 * place + 1) n) j (place + 1)) (sym all) (second_half_filled clean agree form);
        deeper = s.deeper;
      })
      (among_all_made view' under.header.dirs (slice_set split.made.dirs (2 * place + 1) n) (place + 1) (2 ^ (split.directory_depth - 8)) (2 * place + 1 + 1) (most_held target.held_before (split.depth + 1) split.directory_depth + place + 1) (2 ^ (split.made.depth - 8)) (most_held target.held_before (split.depth + 1) split.made.depth) all (omega (arith, all, last)) among)

-- **The split goes on once the page of a second half is made.**
pub goes_on_to_another_page : (target : SplitTarget) (old new : LocalState) (split now : SplitFields) (place n : ℕ) (made : HeadFields) (next : SplitPhase) → split ≡ now → now.phase ≡ SplitPhase.SecondHalf place → MayStep old → HasClean target (view_over target.before old) → IsUnderWay target (view_over target.before old) now
    → MakesPage (view_over target.before old) (view_over target.before new) n (Page.Dir split.second) → length split.made.dirs ≡ 256 → place + 1 < 2 ^ (split.directory_depth - 8)
    → made ≡ record split.made { dirs = slice_set split.made.dirs (2 * place + 1) n } → next ≡ SplitPhase.Double (place + 1) → GoesOn target new now (record split { made = made; phase = next })
goes_on_to_another_page target old new split now place n made next is phase may file under makes sized more named phased =
    subst (λ (s : SplitFields). GoesOn target new now s) (λ i. record split { made = sym named i; phase = sym phased i })
    (subst (λ (now : SplitFields). now.phase ≡ SplitPhase.SecondHalf place → IsUnderWay target (view_over target.before old) now → GoesOn target new now (record split { made = record split.made { dirs = slice_set split.made.dirs (2 * place + 1) n }; phase = SplitPhase.Double (place + 1) })) is
    (λ (phase : split.phase ≡ SplitPhase.SecondHalf place) (under : IsUnderWay target (view_over target.before old) split).
    let depth = depth_of_second_half target old split place phase may file under in
    let g = split.directory_depth in
    let inside : 2 * place + 1 < length split.made.dirs = omega (arith, place_of_second_half target old split place phase may file under) in
    record {
      under_way = another_page_stands target (view_over target.before old) (view_over target.before new) split place n phase under makes inside more;
      fewer =
          ap (λ b. cond b 2 (2 * (2 ^ (g - 8) - (place + 1)) + 1) + 1) (le-ltb g 8 depth.0)
          ∙ let steps : 2 * (2 ^ (g - 8) - (place + 1)) + 1 + 1 ≡ 2 * (2 ^ (g - 8) - place) = omega arith in steps
          ∙ sym (ap (steps_left_at split.depth g) phase);
      depth = refl;
      directory_depth = refl;
    }) phase under)

pub goes_on_to_the_header : (target : SplitTarget) (old new : LocalState) (split now : SplitFields) (place n : ℕ) (made : HeadFields) (next : SplitPhase) → split ≡ now → now.phase ≡ SplitPhase.SecondHalf place → MayStep old → HasClean target (view_over target.before old) → IsUnderWay target (view_over target.before old) now
    → MakesPage (view_over target.before old) (view_over target.before new) n (Page.Dir split.second) → length split.made.dirs ≡ 256 → 2 ^ (split.directory_depth - 8) ≤ place + 1
    → made ≡ record split.made { dirs = slice_set split.made.dirs (2 * place + 1) n } → next ≡ SplitPhase.Header → GoesOn target new now (record split { made = made; phase = next })
goes_on_to_the_header target old new split now place n made next is phase may file under makes sized less named phased =
    subst (λ (s : SplitFields). GoesOn target new now s) (λ i. record split { made = sym named i; phase = sym phased i })
    (subst (λ (now : SplitFields). now.phase ≡ SplitPhase.SecondHalf place → IsUnderWay target (view_over target.before old) now → GoesOn target new now (record split { made = record split.made { dirs = slice_set split.made.dirs (2 * place + 1) n }; phase = SplitPhase.Header })) is
    (λ (phase : split.phase ≡ SplitPhase.SecondHalf place) (under : IsUnderWay target (view_over target.before old) split).
    let depth = depth_of_second_half target old split place phase may file under in
    let stands = stands_now target old split (SplitPhase.SecondHalf place) phase may file under in
    let g = split.directory_depth in
    let inside : 2 * place + 1 < length split.made.dirs = omega (arith, place_of_second_half target old split place phase may file under) in
    let last : 2 ^ (g - 8) ≡ place + 1 = omega (arith, depth.2) in
    record {
      under_way = last_page_stands target (view_over target.before old) (view_over target.before new) split place n phase under makes inside depth.0 stands.deeper last;
      fewer = (let steps : 1 + 1 ≡ 2 * (2 ^ (g - 8) - place) = omega arith in steps) ∙ sym (ap (steps_left_at split.depth g) phase);
      depth = refl;
      directory_depth = refl;
    }) phase under)
