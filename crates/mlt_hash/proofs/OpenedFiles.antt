-- The pages of a file as it is opened, one made after another
use Rattle.std.proofs.Common.{◌≡◌, ℕ, ◌<◌, ◌+◌, ◌⊎◌, None, Some, Result, Ok, Err, IfErr, replicate, sym, ap, ◌∙◌, inl, inr, arith, nat_cmp, IsErrAnd}
use Rattle.mlt_hash.proofs.Names.{nat_cmp_total, nat_tests, Refusal, Page, Free, page_at}
use Rattle.std.specs.FinMap as map
use Rattle.mlt_page.specs.Stores.{PageStore, Pages}
use Rattle.mlt_page_locks.proofs.Maps.{get_inserted}
use Rattle.mlt_hash_form.specs.Changes.{IsOpening}

-- where a page is made that was not there, there is one more
pub fresh_is_one_more : (pages : Pages) (q : ℕ) (p : Page) → page_at pages q ≡ None → map.len (map.insert pages q p) ≡ map.len pages + 1
fresh_is_one_more pages q p fresh = grind (arith, fresh, map.len-insert nat_cmp_total pages q p)

-- a page is made that was not there
pub record IsMade (old new : PageStore) (n : ℕ) (p : Page) : Type 0 where
  pub fresh : page_at old.pages n ≡ None
  pub made : new ≡ record old { pages = map.insert old.pages n p }

module _ (old new : PageStore) (n : ℕ) (p : Page) (makes : IsMade old new n p) where
  pages_are : new.pages ≡ map.insert old.pages n p
  pages_are = ap (λ (s : PageStore). s.pages) makes.made

  -- it is there then,
  here : page_at new.pages n ≡ Some p
  here = ap (λ (pages : Pages). page_at pages n) pages_are ∙ grind (arith, nat_tests, get_inserted old.pages n p n)

  -- others are as they were,
  elsewhere : (q : ℕ) → (q ≡ n → ⊥) → page_at new.pages q ≡ page_at old.pages q
  elsewhere q other = ap (λ (pages : Pages). page_at pages q) pages_are ∙ grind (arith, nat_tests, get_inserted old.pages n p q)

  stays : (q : ℕ) (was : Page) → page_at old.pages q ≡ Some was → page_at new.pages q ≡ Some was
  stays q was there = elsewhere q (λ same. (let both : Some was ≡ None = sym there ∙ ap (page_at old.pages) same ∙ makes.fresh in cc)) ∙ there

  -- and there is one more.
  pub one_more : map.len new.pages ≡ map.len old.pages + 1
  one_more = ap map.len pages_are ∙ fresh_is_one_more old.pages n p makes.fresh

  pub same_limit : new.max_pages ≡ old.max_pages
  same_limit = ap (λ (s : PageStore). s.max_pages) makes.made

-- **A bucket, a page of the directory and the header, made one after another where there was no page, are a file as it is
-- opened,**
module _ (empty one two three : PageStore) (b d r : ℕ) (bucket dir head : Page) (none : empty.pages ≡ map.empty) (first : IsMade empty one b bucket) (second : IsMade one two d dir) (third : IsMade two three r head) where
  nothing_else : (q : ℕ) → (q ≡ r → ⊥) → (q ≡ d → ⊥) → (q ≡ b → ⊥) → page_at three.pages q ≡ None
  nothing_else q no_r no_d no_b =
      elsewhere two three r head third q no_r ∙ elsewhere one two d dir second q no_d ∙ elsewhere empty one b bucket first q no_b ∙ ap (λ (pages : Pages). page_at pages q) none ∙ map.get-empty {X = Page} nat_cmp q

  pub active : head ≡ Page.Head (record { depth = 0; dirs = replicate 256 d }) → dir ≡ Page.Dir (replicate 256 b) → bucket ≡ Page.Bucket (record { depth = 0; slots = replicate 8 Free }) → IsOpening (page_at three.pages) r d b
  active head_is dir_is bucket_is = record {
    head = here two three r head third ∙ ap Some head_is;
    listed = stays two three r head third d dir (here one two d dir second) ∙ ap Some dir_is;
    bucket = stays two three r head third b bucket (stays one two d dir second b bucket (here empty one b bucket first)) ∙ ap Some bucket_is;
    others = nothing_else;
  }

-- a store without pages has none
pub no_pages : (empty : PageStore) → empty.pages ≡ map.empty → map.len empty.pages ≡ 0
no_pages empty none = ap map.len none ∙ map.len-empty nat_cmp Page

-- where there may be more pages, only memory is refused
pub only_memory : {T : Type 0} (result : Result T Refusal) (reason : Refusal) (len max : ℕ) → IsErrAnd result (λ e. e ≡ reason) → (reason ≡ Refusal.NoRoom) ⊎ (reason ≡ Refusal.OutOfMemory) → (reason ≡ Refusal.NoRoom → len ≡ max) → len < max → IfErr result (λ e. e ≡ Refusal.OutOfMemory)
only_memory (Ok x) reason len max is which full fewer = tt
only_memory (Err e) reason len max is (inr memory) full fewer = is ∙ memory
only_memory (Err e) reason len max is (inl room) full fewer = absurd (let same = full room in omega (arith, same, fewer))
