-- What a page is on the clean pages, and the depth of the directory
use Rattle.std.proofs.Common.{◌≡◌, ◌≤◌, ℕ, Option, Some, sym, ap, subst, ◌∙◌}
use Rattle.mlt_manager.proofs.Names.{HeadFields, Page, Pages, page_at, header_of, clean_pages, KeepsImage, KeepsNoImage, HasCleanPage, HasCleanPages, HasDepth, IsManager, ManagerFields}
use Rattle.mlt_manager.{specs.CleanBuckets.IsCleanHead, proofs.CleanPages.pages_clean, proofs.CleanPages.same_clean}

module _ {P : Type 0} (bits_of : P → ℕ → ℕ) (m : ManagerFields P) (h : IsManager bits_of m) where
  abbrev pub stored : Pages
  stored = m.shared.pages.store.pages

  all_clean : HasCleanPages m (clean_pages h.images stored)
  all_clean = pages_clean bits_of m h.images h.base h.sound

  is_clean_page : (q : ℕ) (p : Option Page) → page_at (clean_pages h.images stored) q ≡ p → HasCleanPage m q p
  is_clean_page q p is = record { clean = clean_pages h.images stored; is_clean = all_clean; has = is }

  -- a page of which an open transaction keeps the first image was that before,
  pub clean_by_image : (q : ℕ) (first : Option Page) → KeepsImage m.txs q first → HasCleanPage m q first
  clean_by_image q first keeps = is_clean_page q first (all_clean.put_back q first keeps)

  -- and one of which none does is clean
  pub clean_as_stored : (q : ℕ) → KeepsNoImage m.txs q → HasCleanPage m q (page_at stored q)
  clean_as_stored q none = is_clean_page q (page_at stored q) (all_clean.as_stored q none)

  -- so their header is there,
  pub clean_header : (p : Option Page) → HasCleanPage m m.root.page p → p ≡ Some (Page.Head (header_of p))
  clean_header p is =
      let same = sym is.has ∙ same_clean m is.clean (clean_pages h.images stored) m.root.page is.is_clean all_clean in
      subst (λ p. p ≡ Some (Page.Head (header_of p))) (sym same) h.sound.match.file.form.head

  -- with the depth of the directory, which is at most 16
  pub has_depth : (head : HeadFields) → IsCleanHead m head → HasDepth m head.depth × (head.depth ≤ 16)
  has_depth head is =
      let depth : (header_of (page_at (clean_pages h.images stored) m.root.page)).depth ≡ head.depth = ap (λ p. (header_of p).depth) (is _ all_clean) in
      (record { clean = clean_pages h.images stored; is_clean = all_clean; header = h.sound.match.file.form.head; is_depth = depth }, subst (λ n. n ≤ 16) depth h.sound.match.file.form.listed.small)
