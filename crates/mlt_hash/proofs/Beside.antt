-- The pages that a walk holds on its way stand in a list with those of the directory
use Rattle.std.proofs.Common.{◌≡◌, ℕ, zero, suc, ◌<◌, ◌≤◌, ◌+◌, ◌-◌, ◌/◌, ◌^◌, true, eqb, ◌||◌, List, [], ◌∷◌, length, is_some, refl, sym, ap, subst, ◌∙◌, inl, inr, arith, ◌≢◌, slice_index, nat_cmp, eq-eqb}
use Rattle.std.{specs.List.list_any, proofs.Math.Bool.or-true}
use Rattle.std.specs.FinMap as map
use Rattle.mlt_hash.proofs.Names.{cases_eq, cases_lt, false≢true, Mode, first_bits, HeadFields, Modes, with_page, dir_of, View, mode_of_others, Before, GoesAfter, HoldsBeside, nothing_before, Pass}
use Rattle.mlt_hash_form.proofs.{Bits.first_bits_below, FillEnds.page_listed}
use Rattle.mlt_hash_split.specs.Rests.{HoldsAmong, IsIn}
use Rattle.mlt_hash_split.proofs.Among.{among_after_lock, among_after_make, among_still, few_are_held, few_pages}

-- the first n pages of a directory
dirs_below : List ℕ → ℕ → List ℕ
dirs_below dirs zero = []
dirs_below dirs (suc n) = slice_index dirs n ∷ dirs_below dirs n

dirs_below_count : (dirs : List ℕ) (n : ℕ) → length (dirs_below dirs n) ≡ n
unfolding dirs_below
dirs_below_count dirs zero = refl
dirs_below_count dirs (suc n) = ap suc (dirs_below_count dirs n)

in_head : (q p : ℕ) (pages : List ℕ) → p ≡ q → IsIn q (p ∷ pages)
in_head q p pages e = ap (λ b. b || list_any (λ r. eqb r q) pages) (eq-eqb p q e)

in_tail : (q p : ℕ) (pages : List ℕ) → IsIn q pages → IsIn q (p ∷ pages)
in_tail q p pages h = ap (λ b. eqb p q || b) h ∙ or-true (eqb p q)

dirs_below_have : (dirs : List ℕ) (n i : ℕ) → i < n → IsIn (slice_index dirs i) (dirs_below dirs n)
unfolding dirs_below
dirs_below_have dirs zero i lt = absurd (omega arith)
dirs_below_have dirs (suc n) i lt =
    elim (cases_lt i n) [
      | inl below ↦ in_tail (slice_index dirs i) (slice_index dirs n) (dirs_below dirs n) (dirs_below_have dirs n i below)
      | inr le ↦ let same : n ≡ i = omega arith in in_head (slice_index dirs i) (slice_index dirs n) (dirs_below dirs n) (ap (slice_index dirs) same)
    ]

-- a page that is held is the one that was locked last, or was held before
held_before : (modes : Modes) (n : ℕ) (mode : Mode) (q : ℕ) → q ≢ n → is_some (map.get (with_page modes n mode) q) ≡ true → is_some (map.get modes q) ≡ true
held_before modes n mode q ne held = ap is_some (sym (mode_of_others modes n mode q ne)) ∙ held

only_one : (root : ℕ) (mode : Mode) (pages : List ℕ) (q : ℕ) → is_some (map.get (with_page map.empty root mode) q) ≡ true → IsIn q (root ∷ pages)
only_one root mode pages q held =
    elim (cases_eq q root) [
      | inl here ↦ in_head q root pages (sym here)
      | inr away ↦ absurd (false≢true (sym (ap is_some (map.get-empty {X = Mode} nat_cmp q)) ∙ held_before map.empty root mode q away held))
    ]

-- **The header is one page beside the directory,**
pub header_beside : (view : View) (header : HeadFields) (root : ℕ) (mode : Mode) → view.modes ≡ with_page map.empty root mode → HoldsBeside view header 1
header_beside view header root mode held =
    let count = 2 ^ (header.depth - 8) in
    let dirs : List ℕ = dirs_below header.dirs count in
    let size : length dirs ≡ count = dirs_below_count header.dirs count in
    record {
      pages = root ∷ dirs;
      few = omega (arith, size);
      all = λ q some. only_one root mode dirs q (ap (λ (modes : Modes). is_some (map.get modes q)) (sym held) ∙ some);
      old_dirs = λ i from lt. in_tail (slice_index header.dirs i) root dirs (dirs_below_have header.dirs count i lt);
      new_dirs = λ i lt. absurd (omega arith);
    }

-- **the key's page of it is none more,**
pub directory_beside : (old new : View) (header : HeadFields) (others x q : ℕ) (mode : Mode) → header.depth ≤ 16 → x < 2 ^ 64 → q ≡ dir_of header x → new.modes ≡ with_page old.modes q mode → HoldsBeside old header others → HoldsBeside new header others
directory_beside old new header others x q mode small bounded is modes among =
    let below = page_listed header.depth (first_bits header.depth x) (first_bits_below header.depth x (omega (arith, small)) bounded) in
    among_after_lock old new header.dirs header.dirs 0 (2 ^ (header.depth - 8)) 0 (others + 2 ^ (header.depth - 8)) among q mode (subst (λ p. IsIn p among.pages) (sym is) (among.old_dirs (first_bits header.depth x / 256) (omega arith) below)) modes

one_more : (others count : ℕ) → others + count + 1 ≡ others + 1 + count
one_more others count = omega arith

-- **and its bucket is one.**
pub bucket_beside : (old new : View) (header : HeadFields) (others q : ℕ) (mode : Mode) → new.modes ≡ with_page old.modes q mode → HoldsBeside old header others → HoldsBeside new header (others + 1)
bucket_beside old new header others q mode modes among =
    let count = 2 ^ (header.depth - 8) in
    subst (λ most. HoldsAmong new header.dirs header.dirs 0 count 0 most) (one_more others count) (among_after_make old new header.dirs header.dirs 0 count 0 (others + count) among q mode modes)

-- A write holds no more,
pub still_beside : (old new : View) (header : HeadFields) (others : ℕ) → new.modes ≡ old.modes → HoldsBeside old header others → HoldsBeside new header others
still_beside old new header others modes among = among_still old new header.dirs header.dirs 0 (2 ^ (header.depth - 8)) 0 (others + 2 ^ (header.depth - 8)) among modes

-- and there may be more.
pub more_beside : (view : View) (header : HeadFields) (few others : ℕ) → few ≤ others → HoldsBeside view header few → HoldsBeside view header others
more_beside view header few others le among = record {
  pages = among.pages;
  few = omega (arith, le, among.few);
  all = among.all;
  old_dirs = among.old_dirs;
  new_dirs = among.new_dirs;
}

-- **Few are held beside a directory.**
pub few_beside : (view : View) (header : HeadFields) (others : ℕ) → others ≤ 40 → header.depth ≤ 16 → HoldsBeside view header others → map.len view.modes < 300
few_beside view header others few small among =
    let held = few_are_held view header.dirs header.dirs 0 (2 ^ (header.depth - 8)) 0 (others + 2 ^ (header.depth - 8)) among in
    omega (arith, held, few, few_pages header.depth small)

-- what a walk did before holds 17 buckets at most
pub few_before : (on : Pass) (before : Before) → GoesAfter on before → before.buckets ≤ 17
few_before Pass.First before anew = omega (arith, ap (λ (b : Before). b.buckets) anew)
few_before Pass.Narrow before anew = omega (arith, ap (λ (b : Before). b.buckets) anew)
few_before Pass.Wide before few = few

-- each pass may be the first one to a key
pub goes_after_nothing : (on : Pass) → GoesAfter on nothing_before
goes_after_nothing Pass.First = refl
goes_after_nothing Pass.Narrow = refl
goes_after_nothing Pass.Wide = omega arith

-- and one that is not wide is
pub anew_unless_wide : (on : Pass) (before : Before) → GoesAfter on before → (on ≡ Pass.Wide → ⊥) → before ≡ nothing_before
anew_unless_wide Pass.First before anew narrow = anew
anew_unless_wide Pass.Narrow before anew narrow = anew
anew_unless_wide Pass.Wide before few narrow = absurd (narrow refl)
