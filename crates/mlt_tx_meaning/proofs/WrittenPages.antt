-- Clean pages with what was written on some of them in place, as a finite map.
use Rattle.std.proofs.Common.{◌≡◌, ◌≢◌, ℕ, ◌||◌, false, true, List, [], ◌∷◌, None, Option, Some, is_some, refl, sym, ap, ◌∙◌, inl, inr, ne_eqb, nat_cmp}
use Rattle.mlt_tx_meaning.proofs.Names.{cases_eq, false≢true, nat_cmp_total, unsigned_tied, Page, FilePages, over, own_or_clean}
use Rattle.std.specs.FinMap as map
use Rattle.std.specs.{List.list_any, Ordering.eq_by_cmp}
use Rattle.mlt_object_kinds.proofs.BaseLaws.{entry_beside, entry_here}

-- the map with what is written on this page, if it is
abbrev with_page : Option Page → ℕ → map.FinMap nat_cmp Page → map.FinMap nat_cmp Page
with_page None n pages = pages
with_page (Some page) n pages = map.insert pages n page

-- and on these pages
abbrev with_pages : FilePages → map.FinMap nat_cmp Page → List ℕ → map.FinMap nat_cmp Page
with_pages written pages [] = pages
with_pages written pages (n ∷ ns) = with_page (written n) n (with_pages written pages ns)

with_page_here : (n : ℕ) (pages : map.FinMap nat_cmp Page) (page : Page) (wrote : Option Page) → wrote ≡ Some page → map.get (with_page wrote n pages) n ≡ Some page
with_page_here n pages page None is = absurd (cc is)
with_page_here n pages page (Some own) is = entry_here nat_cmp_total pages n (Some own) ∙ is

with_page_beside : (n q : ℕ) (pages : map.FinMap nat_cmp Page) (wrote : Option Page) → q ≢ n → map.get (with_page wrote n pages) q ≡ map.get pages q
with_page_beside n q pages None differs = refl
with_page_beside n q pages (Some own) differs = entry_beside nat_cmp_total map.nat_cmp-IsAntisymmetric pages n (Some own) q differs

with_page_of_none : (n q : ℕ) (pages : map.FinMap nat_cmp Page) (written : FilePages) (wrote : Option Page) → written n ≡ wrote → written q ≡ None → map.get (with_page wrote n pages) q ≡ map.get pages q
with_page_of_none n q pages written None is none = refl
with_page_of_none n q pages written (Some own) is none =
    with_page_beside n q pages (Some own) (λ same. let both : Some own ≡ None = sym is ∙ ap written (sym same) ∙ none in cc both)

module _ (pages : map.FinMap nat_cmp Page) (written : FilePages) (q : ℕ) where
  -- a page that is not written stays,
  unwritten_stays : (ns : List ℕ) → written q ≡ None → map.get (with_pages written pages ns) q ≡ map.get pages q
  unwritten_stays [] none = refl
  unwritten_stays (n ∷ ns) none = with_page_of_none n q (with_pages written pages ns) written (written n) refl none ∙ unwritten_stays ns none

  -- and one that is, and is listed, is there
  written_is_there : (ns : List ℕ) (page : Page) → written q ≡ Some page → list_any (eq_by_cmp nat_cmp q) ns ≡ true → map.get (with_pages written pages ns) q ≡ Some page
  written_is_there [] page wrote listed = absurd (false≢true listed)
  written_is_there (n ∷ ns) page wrote listed =
      elim (cases_eq q n) [
        | inl here ↦ ap (map.get (with_pages written pages (n ∷ ns))) here ∙ with_page_here n (with_pages written pages ns) page (written n) (ap written (sym here) ∙ wrote)
        | inr differs ↦
            let other : eq_by_cmp nat_cmp q n ≡ false = unsigned_tied q n ∙ ne_eqb q n differs in
            with_page_beside n q (with_pages written pages ns) (written n) differs
            ∙ written_is_there ns page wrote (sym (ap (λ b. b || list_any (eq_by_cmp nat_cmp q) ns) other) ∙ listed)
      ]

-- **What is written on pages of a finite map, over clean pages, is a finite map of pages.**
pub written_over : {X : Type 0} (pages : map.FinMap nat_cmp Page) (written : FilePages) (held : map.FinMap nat_cmp X) → ((q : ℕ) → map.get held q ≡ None → written q ≡ None)
    → (between : map.FinMap nat_cmp Page) × ((q : ℕ) → map.get between q ≡ over (map.get pages) written q)
written_over {X} pages written held only = (with_pages written pages (map.keys held), λ q. at q (written q) refl)
  where
    listed : (q : ℕ) (there : Option X) → map.get held q ≡ there → (page : Page) → written q ≡ Some page → map.contains_key held q ≡ true
    listed q None is page wrote = absurd (let both : None ≡ Some page = sym (only q is) ∙ wrote in cc both)
    listed q (Some x) is page wrote = ap is_some is

    at : (q : ℕ) (wrote : Option Page) → written q ≡ wrote → map.get (with_pages written pages (map.keys held)) q ≡ own_or_clean (written q) (map.get pages q)
    at q None is = unwritten_stays pages written q (map.keys held) is ∙ sym (ap (λ own. own_or_clean own (map.get pages q)) is)
    at q (Some page) is =
        written_is_there pages written q (map.keys held) page is (sym (map.contains_key-keys held q) ∙ listed q (map.get held q) refl page is)
        ∙ sym (ap (λ own. own_or_clean own (map.get pages q)) is)
