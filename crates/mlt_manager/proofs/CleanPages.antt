-- The clean pages of a manager are those of the invariant, and no others are
use Rattle.mlt_manager.proofs.Names.{false≢true, nat_cmp_total, nat_tests, Base, Page, Pages, page_at, Images, image_of, RunningImages, clean_pages, Transaction, KeepsImage, KeepsNoImage, Table, IsSound, images_kept, HasCleanPages, ManagerFields, state_of}
use Rattle.std.{proofs.lemmas.Bool.or_cases, specs.Ordering.eq_by_cmp, specs.Cmp.unsigned_tied, specs.List.list_any}
use Rattle.std.proofs.Common.{◌≡◌, ℕ, eqb, true, ◌⊎◌, Option, None, Some, List, [], ◌∷◌, is_some, unwrap_or, refl, sym, ap, ◌∙◌, inl, inr, arith, nat_cmp}
use Rattle.std.specs.FinMap as map
use Rattle.mlt_page_locks.proofs.LockLaws.{writer_reads}
use Rattle.mlt_page_subtx.specs.Images.{or_image}
use Rattle.mlt_hash_access.{specs.CleanPages.image_at, proofs.CleanLaws.clean_page_of, proofs.CleanLaws.clean_page_unwritten, proofs.CleanLaws.others_have_none}

-- the image of a page that an open transaction keeps, of its images
abbrev kept_in : Option Images → ℕ → Option (Option Page)
kept_in None q = None
kept_in (Some images) q = image_of images q

module _ (table : Table) (q : ℕ) where
  abbrev kept_at : ℕ → Option (Option Page)
  kept_at i = kept_in (images_kept (map.get table i)) q

  kept_of : (first : Option Page) (k : KeepsImage table q first) → kept_at k.tx ≡ Some first
  kept_of first k = ap (λ o. kept_in (images_kept o) q) k.there ∙ k.keeps

  keeps_of : (tx : ℕ) (first : Option Page) → kept_at tx ≡ Some first → KeepsImage table q first
  keeps_of tx first = by (map.get table tx) refl
    where
      by : (o : Option Transaction) → map.get table tx ≡ o → kept_in (images_kept o) q ≡ Some first → KeepsImage table q first
      by None is some = (let none : None ≡ Some first = some in cc)
      by (Some one) is some = record { tx = tx; one = one; there = is; keeps = some }

  none_of : KeepsNoImage table q → (tx : ℕ) → kept_at tx ≡ None
  none_of none tx = by (map.get table tx) refl
    where
      by : (o : Option Transaction) → map.get table tx ≡ o → kept_in (images_kept o) q ≡ None
      by None is = refl
      by (Some one) is = none tx one is

  keeps_none_of : ((tx : ℕ) → kept_at tx ≡ None) → KeepsNoImage table q
  keeps_none_of none tx one there = sym (ap (λ o. kept_in (images_kept o) q) there) ∙ none tx

tied : (i k : ℕ) → eq_by_cmp nat_cmp i k ≡ true → i ≡ k
tied i k same = (let equal : eqb i k ≡ true = sym (unsigned_tied i k) ∙ same in grind (arith, nat_tests))

-- some key of a list has an image, or none has one
search : (f : ℕ → Option (Option Page)) (keys : List ℕ) → ((i : ℕ) × (first : Option Page) × (f i ≡ Some first)) ⊎ ((i : ℕ) → list_any (eq_by_cmp nat_cmp i) keys ≡ true → f i ≡ None)
search f [] = inr (λ i listed. absurd (false≢true listed))
search f (k ∷ keys) =
    elim (f k) as (λ o. f k ≡ o → ((i : ℕ) × (first : Option Page) × (f i ≡ Some first)) ⊎ ((i : ℕ) → list_any (eq_by_cmp nat_cmp i) (k ∷ keys) ≡ true → f i ≡ None)) [
      | Some first ↦ λ is. inl (k, first, is)
      | None ↦ λ is. elim (search f keys) [
        | inl found ↦ inl found
        | inr none ↦ inr (λ i listed. elim (or_cases (eq_by_cmp nat_cmp i k) (list_any (eq_by_cmp nat_cmp i) keys) listed) [
          | inl same ↦ ap f (tied i k same) ∙ is
          | inr later ↦ none i later
        ])
      ]
    ] refl

-- an open transaction keeps an image of the page, or none does
someone_or_nobody : (table : Table) (q : ℕ) → ((first : Option Page) × KeepsImage table q first) ⊎ KeepsNoImage table q
someone_or_nobody table q =
    elim (search (kept_at table q) (map.keys table)) [
      | inl found ↦ inl (found.1, keeps_of table q found.0 found.1 found.2)
      | inr none ↦ inr (λ tx one there. sym (ap (λ o. kept_in (images_kept o) q) there) ∙ none tx (sym (map.contains_key-keys table tx) ∙ ap is_some there))
    ]

-- pages that are the same everywhere are clean alike
pub clean_alike : {P : Type 0} (m : ManagerFields P) (clean other : map.FinMap nat_cmp Page) → ((q : ℕ) → map.get other q ≡ map.get clean q) → HasCleanPages m clean → HasCleanPages m other
clean_alike m clean other same is = record {
  put_back = λ q first keeps. same q ∙ is.put_back q first keeps;
  as_stored = λ q none. same q ∙ is.as_stored q none;
}

-- so they are where the store and all first images are as they were
pub still_clean : {P : Type 0} (m m' : ManagerFields P) (clean : map.FinMap nat_cmp Page) → ((i : ℕ) → images_kept (map.get m'.txs i) ≡ images_kept (map.get m.txs i))
    → ((q : ℕ) → map.get m'.shared.pages.store.pages q ≡ map.get m.shared.pages.store.pages q) → HasCleanPages m clean → HasCleanPages m' clean
still_clean m m' clean images pages is = record {
  put_back = λ q first k. is.put_back q first (keeps_of m.txs q k.tx first (sym (ap (λ o. kept_in o q) (images k.tx)) ∙ kept_of m'.txs q first k));
  as_stored = λ q none. is.as_stored q (keeps_none_of m.txs q (λ i. sym (ap (λ o. kept_in o q) (images i)) ∙ none_of m'.txs q none i)) ∙ sym (pages q);
}

-- and those that are clean are the same everywhere
pub same_clean : {P : Type 0} (m : ManagerFields P) (clean other : map.FinMap nat_cmp Page) (q : ℕ) → HasCleanPages m clean → HasCleanPages m other → map.get clean q ≡ map.get other q
same_clean m clean other q one two =
    elim (someone_or_nobody m.txs q) [
      | inl kept ↦ one.put_back q kept.0 kept.1 ∙ sym (two.put_back q kept.0 kept.1)
      | inr none ↦ one.as_stored q none ∙ sym (two.as_stored q none)
    ]

module _ {P : Type 0} (bits_of : P → ℕ → ℕ) (m : ManagerFields P) (images : RunningImages) (base : Base) (sound : IsSound (state_of bits_of m images base)) where
  abbrev stored : Pages
  stored = m.shared.pages.store.pages

  -- the images that an open transaction keeps
  image_of_one : (tx : ℕ) (one : Transaction) (q : ℕ) → map.get m.txs tx ≡ Some one → image_at images tx q ≡ image_of one.subtx.images q
  image_of_one tx one q there = ap (λ o. image_of (unwrap_or o map.empty) q) (sound.kept tx ∙ ap images_kept there)

  -- a page of which an open transaction keeps the first image was that before,
  by_image : (q : ℕ) (first : Option Page) → KeepsImage m.txs q first → page_at (clean_pages images stored) q ≡ first
  by_image q first k =
      let running = sound.running in
      let mine : image_at images k.tx q ≡ Some first = image_of_one k.tx k.one q k.there ∙ k.keeps in
      let reads = writer_reads m.shared.pages.locks k.tx q (running.images_locked k.tx q (ap is_some mine)) in
      clean_page_of images stored k.tx q (others_have_none images m.shared.pages.locks k.tx q running.compatible running.images_locked reads) ∙ ap (λ o. or_image o (page_at stored q)) mine

  -- and one of which none does is clean
  by_store : (q : ℕ) → KeepsNoImage m.txs q → page_at (clean_pages images stored) q ≡ page_at stored q
  by_store q none = clean_page_unwritten images stored q none_at
    where
      none_at : (tx : ℕ) → image_at images tx q ≡ None
      none_at tx =
          elim (map.get m.txs tx) as (λ o. map.get m.txs tx ≡ o → image_at images tx q ≡ None) [
            | None ↦ λ absent. ap (λ o. image_of (unwrap_or o map.empty) q) (sound.kept tx ∙ ap images_kept absent) ∙ map.get-empty {X = Option Page} nat_cmp q
            | Some one ↦ λ there. image_of_one tx one q there ∙ none tx one there
          ] refl

  -- **The clean pages of the invariant are clean pages.**
  pub pages_clean : HasCleanPages m (clean_pages images stored)
  pages_clean = record { put_back = by_image; as_stored = by_store }

-- The clean pages as they were defined before: the first images of all open transactions put back, one after another. The
-- two say the same of each manager.
record IsPutBack {P : Type 0} (m : ManagerFields P) (clean : map.FinMap nat_cmp Page) : Type 0 where
  images : RunningImages
  kept : (i : ℕ) → map.get images i ≡ images_kept (map.get m.txs i)
  put_back : (q : ℕ) → map.get clean q ≡ map.get (clean_pages images m.shared.pages.store.pages) q

module _ {P : Type 0} (bits_of : P → ℕ → ℕ) (m : ManagerFields P) (images : RunningImages) (base : Base) (sound : IsSound (state_of bits_of m images base)) (clean : map.FinMap nat_cmp Page) where
  new_to_old : HasCleanPages m clean → IsPutBack m clean
  new_to_old is = record {
    images = images;
    kept = sound.kept;
    put_back = λ q. same_clean m clean (clean_pages images m.shared.pages.store.pages) q is (pages_clean bits_of m images base sound);
  }

  old_to_new : IsPutBack m clean → HasCleanPages m clean
  old_to_new is =
      let same : is.images ≡ images = map.same_map nat_cmp_total map.nat_cmp-IsAntisymmetric is.images images (λ i. is.kept i ∙ sym (sound.kept i)) in
      clean_alike m (clean_pages images m.shared.pages.store.pages) clean
      (λ q. is.put_back q ∙ ap (λ (r : RunningImages). map.get (clean_pages r m.shared.pages.store.pages) q) same)
      (pages_clean bits_of m images base sound)
