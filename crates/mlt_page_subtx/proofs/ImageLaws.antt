-- Laws of first images: what the pages have once they are put back. Other crates cite them.
use Rattle.std.proofs.Common.{◌≡◌, ℕ, eqb, Bool, true, false, cond, Option, None, Some, is_some, List, [], ◌∷◌, refl, sym, ap, subst, ◌∙◌, arith, nat_cmp, eqb-true}
use Rattle.std.specs.{Cmp.unsigned_tied, FinMap.Entries.find}
use Rattle.std.specs.FinMap as map
use Rattle.mlt_page_subtx.proofs.Names.{false≢true, nat_tests, Page, Pages, page_at, same_pages, get_inserted, Images, image_of, with_first, put_back, AreThere}
use Rattle.mlt_page_locks.proofs.Maps.{get_removed}
use Rattle.mlt_page_subtx.specs.Images.{or_image, with_firsts, with_new, with_image}

pub page_at-with_first : (pages : Pages) (k : ℕ) (first : Option Page) (q : ℕ) → page_at (with_first pages k first) q ≡ cond (eqb q k) first (page_at pages q)
page_at-with_first pages k None q = get_removed pages k q
page_at-with_first pages k (Some page) q = get_inserted pages k page q

page_at-with_firsts : (es : List (ℕ × Option Page)) (pages : Pages) (q : ℕ) → page_at (with_firsts es pages) q ≡ or_image (find nat_cmp q es) (page_at pages q)
page_at-with_firsts [] pages q = refl
page_at-with_firsts (e ∷ es) pages q =
    page_at-with_first (with_firsts es pages) e.0 e.1 q ∙ ap (cond (eqb q e.0) e.1) (page_at-with_firsts es pages q) ∙ inside (eqb q e.0)
    ∙ ap (λ b. or_image (cond b (Some e.1) (find nat_cmp q es)) (page_at pages q)) (sym (unsigned_tied q e.0))
  where
    inside : (b : Bool) → cond b e.1 (or_image (find nat_cmp q es) (page_at pages q)) ≡ or_image (cond b (Some e.1) (find nat_cmp q es)) (page_at pages q)
    inside true = refl
    inside false = refl

-- a page with an image has its image, and any other what it had
pub page_at-put_back : (images : Images) (pages : Pages) (q : ℕ) → page_at (put_back images pages) q ≡ or_image (image_of images q) (page_at pages q)
page_at-put_back images pages q = page_at-with_firsts (map.entries images) pages q ∙ ap (λ o. or_image o (page_at pages q)) (sym (map.get-entries images q))

-- without images nothing is put back
pub put_back-none : (pages : Pages) → put_back map.empty pages ≡ pages
put_back-none pages = same_pages _ _ (λ q. page_at-put_back map.empty pages q ∙ ap (λ o. or_image o (page_at pages q)) (map.get-empty {X = Option Page} nat_cmp q))

-- the first image stays, and a page that has none gets this one
pub image_of-with_image : (images : Images) (k : ℕ) (first : Option Page) (q : ℕ) → image_of (with_image images k first) q ≡ cond (eqb q k) (Some (or_image (image_of images k) first)) (image_of images q)
image_of-with_image images k first q =
    elim (map.get images k) as (λ o. map.get images k ≡ o → image_of (with_new images k first o) q ≡ cond (eqb q k) (Some (or_image o first)) (image_of images q)) [
      | None ↦ λ none. get_inserted images k first q
      | Some image ↦ λ there. elim (eqb q k) as (λ b. eqb q k ≡ b → image_of images q ≡ cond b (Some image) (image_of images q)) [ true ↦ λ same. subst (λ q. image_of images q ≡ Some image) (sym (eqb-true q k same)) there | false ↦ λ differ. refl ] refl
    ] refl

-- a write, with the page's first image kept, changes nothing of what is put back
pub put_back-write : (images : Images) (pages : Pages) (k : ℕ) (page : Page) → put_back (with_image images k (page_at pages k)) (map.insert pages k page) ≡ put_back images pages
put_back-write images pages k page = same_pages _ _ (λ q.
    grind (arith, nat_tests, page_at-put_back (with_image images k (page_at pages k)) (map.insert pages k page) q, page_at-put_back images pages q, image_of-with_image images k (page_at pages k) q, get_inserted pages k page q))

-- nor does a page that is made
pub put_back-made : (images : Images) (pages : Pages) (k : ℕ) (page : Page) → page_at pages k ≡ None → image_of images k ≡ None → put_back (map.insert images k None) (map.insert pages k page) ≡ put_back images pages
put_back-made images pages k page fresh none = same_pages _ _ (λ q.
    grind (arith, nat_tests, page_at-put_back (map.insert images k None) (map.insert pages k page) q, page_at-put_back images pages q, get_inserted images k None q, get_inserted pages k page q))

-- pages with images stay there through the subtransaction's own writes
pub there_written : (images : Images) (pages : Pages) (k : ℕ) (page : Page) → AreThere images pages → AreThere (with_image images k (page_at pages k)) (map.insert pages k page)
there_written images pages k page there q some = grind (arith, nat_tests, image_of-with_image images k (page_at pages k) q, get_inserted pages k page q, there q)

pub there_made : (images : Images) (pages : Pages) (k : ℕ) (page : Page) → AreThere images pages → AreThere (map.insert images k None) (map.insert pages k page)
there_made images pages k page there q some = grind (arith, nat_tests, get_inserted images k None q, get_inserted pages k page q, there q)

-- the first image of a page that has none yet
pub with_image-absent : (images : Images) (k : ℕ) (first : Option Page) → image_of images k ≡ None → with_image images k first ≡ map.insert images k first
with_image-absent images k first none = ap (with_new images k first) none

-- a page that has one keeps it
pub with_image-present : (images : Images) (k : ℕ) (first : Option Page) → is_some (image_of images k) ≡ true → with_image images k first ≡ images
with_image-present images k first there = present (image_of images k) there
  where
    present : (o : Option (Option Page)) → is_some o ≡ true → with_new images k first o ≡ images
    present None there = cc
    present (Some image) there = refl

-- a page that is made and dropped again leaves the pages as they were
pub dropped_again : (pages : Pages) (k : ℕ) (page : Page) → page_at pages k ≡ None → map.remove (map.insert pages k page) k ≡ pages
dropped_again pages k page fresh = same_pages _ _ (λ q. grind (arith, nat_tests, get_removed (map.insert pages k page) k q, get_inserted pages k page q))

pub not_there : {X : Type 0} (o : Option X) → is_some o ≡ false → o ≡ None
not_there None none = refl
not_there (Some x) none = cc

pub not_true : (b : Bool) → (b ≡ true → ⊥) → b ≡ false
not_true false h = refl
not_true true h = absurd (h refl)

-- a page that is not there has no image
pub fresh_has_no_image : (images : Images) (pages : Pages) (k : ℕ) → AreThere images pages → page_at pages k ≡ None → image_of images k ≡ None
fresh_has_no_image images pages k there fresh =
    elim (is_some (image_of images k)) as (λ b. is_some (image_of images k) ≡ b → image_of images k ≡ None) [
      | true ↦ λ some. absurd (false≢true (sym (ap is_some fresh) ∙ there k some))
      | false ↦ λ none. not_there (image_of images k) none
    ] refl

pub there_none : (pages : Pages) → AreThere map.empty pages
there_none pages q some = absurd (false≢true (sym (ap is_some (map.get-empty {X = Option Page} nat_cmp q)) ∙ some))
