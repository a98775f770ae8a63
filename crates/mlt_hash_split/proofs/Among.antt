-- The pages that a walk holds stand in a list
use Rattle.std.proofs.Common.{ℕ, ◌≡◌, ◌<◌, ◌≤◌, ◌+◌, ◌-◌, ◌^◌, true, is_some, List, ◌∷◌, sym, ◌∙◌, ap, subst, inl, inr, arith}
use Rattle.std.specs.FinMap as map
use Rattle.mlt_hash_split.proofs.Names.{cases_eq, nat_tests, pow-le-pow_right, Modes, page_count, with_page, FilePages, LocalState, View, view_over, HoldsAmong, IsIn, most_held, mode_of_others}
use Rattle.mlt_types.specs.declared.mode.Mode.{Mode}
use Rattle.mlt_page_locks.proofs.LockLaws.{keys_within}
use Rattle.mlt_hash_access.proofs.Views.{page_count_of_view}

-- a walk holds no more pages than the list has
pub few_are_held : (view : View) (dirs made : List ℕ) (k count j most : ℕ) → HoldsAmong view dirs made k count j most → map.len view.modes ≤ most
few_are_held view dirs made k count j most among = let within = keys_within among.pages view.modes among.all in omega (arith, within, among.few)

pub count_is_few : (before : FilePages) (m : LocalState) (dirs made : List ℕ) (k count j most : ℕ) → HoldsAmong (view_over before m) dirs made k count j most → most < 300 → page_count m.locks m.running.tx < 300
count_is_few before m dirs made k count j most among small = let few = few_are_held (view_over before m) dirs made k count j most among in omega (arith, few, page_count_of_view m)

-- the directory of a file has at most 256 pages
pub few_pages : (g : ℕ) → g ≤ 16 → 2 ^ (g - 8) ≤ 256
few_pages g small = let le : g - 8 ≤ 8 = omega arith in pow-le-pow_right {n = 2} (omega arith) le

-- a walk's splits hold fewer than 300 pages
pub most_is_small : (before l g : ℕ) → before ≤ 17 → l ≤ 17 → g ≤ 16 → most_held before l g < 300
most_is_small before l g few shallow small = let pages = few_pages g small in omega (arith, pages)

-- a page that stands in front of a list is in it, and so are those behind
pub first_is_in : (q : ℕ) (pages : List ℕ) → IsIn q (q ∷ pages)
first_is_in q pages = grind (arith, nat_tests)

pub further_is_in : (p q : ℕ) (pages : List ℕ) → IsIn p pages → IsIn p (q ∷ pages)
further_is_in p q pages at = grind (arith, nat_tests)

-- the pages that are held once page q is locked
pub locked_is_among : (modes : Modes) (q : ℕ) (mode : Mode) (pages : List ℕ) → ((p : ℕ) → is_some (map.get modes p) ≡ true → IsIn p pages) → IsIn q pages → (p : ℕ) → is_some (map.get (with_page modes q mode) p) ≡ true → IsIn p pages
locked_is_among modes q mode pages all here p some =
    elim (cases_eq p q) [
      | inl e ↦ subst (λ (p : ℕ). IsIn p pages) (sym e) here
      | inr elsewhere ↦ all p (ap is_some (sym (mode_of_others modes q mode p elsewhere)) ∙ some)
    ]

module _ (old new : View) (dirs made : List ℕ) (k count j most : ℕ) (among : HoldsAmong old dirs made k count j most) where
  -- a page of the list is locked
  pub among_after_lock : (q : ℕ) (mode : Mode) → IsIn q among.pages → new.modes ≡ with_page old.modes q mode → HoldsAmong new dirs made k count j most
  among_after_lock q mode at modes = record {
    pages = among.pages;
    few = among.few;
    all = λ p held. locked_is_among old.modes q mode among.pages among.all at p (ap (λ modes. is_some (map.get modes p)) (sym modes) ∙ held);
    old_dirs = among.old_dirs;
    new_dirs = among.new_dirs;
  }

  -- no page is locked
  pub among_still : new.modes ≡ old.modes → HoldsAmong new dirs made k count j most
  among_still modes = record {
    pages = among.pages;
    few = among.few;
    all = λ p held. among.all p (ap (λ modes. is_some (map.get modes p)) (sym modes) ∙ held);
    old_dirs = among.old_dirs;
    new_dirs = among.new_dirs;
  }

  -- a page is made
  pub among_after_make : (q : ℕ) (mode : Mode) → new.modes ≡ with_page old.modes q mode → HoldsAmong new dirs made k count j (most + 1)
  among_after_make q mode modes = record {
    pages = q ∷ among.pages;
    few = omega (arith, among.few);
    all = λ p held. locked_is_among old.modes q mode (q ∷ among.pages) (λ p held. further_is_in p q among.pages (among.all p held)) (first_is_in q among.pages) p (ap (λ modes. is_some (map.get modes p)) (sym modes) ∙ held);
    old_dirs = λ i le lt. further_is_in _ q among.pages (among.old_dirs i le lt);
    new_dirs = λ i lt. further_is_in _ q among.pages (among.new_dirs i lt);
  }
