-- Laws of clean pages: who may write a page, and what writes, ends and roll backs change. Other crates cite them.
use Rattle.std.proofs.Common.{◌≡◌, ◌≢◌, ℕ, eqb, Bool, true, false, cond, ◌&&◌, ◌⊎◌, T, Option, None, Some, is_some, unwrap_or, List, [], ◌∷◌, refl, sym, ap, subst, ◌∙◌, inl, inr, arith, nat_cmp, is_lt}
use Rattle.mlt_hash_access.proofs.Names.{unsigned_tied, find, false≢true, cases_eq, nat_tests, Page, Pages, page_at, get_inserted, get_removed, LockTable, can_read, can_write, AreCompatible, writer_reads, Images, image_of, or_image, put_back, with_image, not_there, not_true, page_at-put_back, RunningImages, image_at, clean_pages, ImagesAreLocked, ImagesAreApart, ImagesAreThere, DropsImages}
use Rattle.std.specs.FinMap as map
use Rattle.std.specs.FinMap.Entries.{is_sorted, below_all}
use Rattle.mlt_page.proofs.Numbered.{same_pages}
use Rattle.mlt_page_subtx.proofs.ImageLaws.{image_of-with_image}
use Rattle.mlt_hash_access.specs.CleanPages.{all_put_back}

-- images of different subtransactions are of different pages
pub images_are_apart : (running : RunningImages) (locks : LockTable) → AreCompatible locks → ImagesAreLocked running locks → ImagesAreApart running
images_are_apart running locks ok locked t u q has has' = ok t u q (locked t q has) (writer_reads locks u q (locked u q has'))

abbrev or_else : Option (Option Page) → Option (Option Page) → Option (Option Page)
or_else None b = b
or_else (Some a) b = Some a

-- the first image of page q in a list
abbrev image_in : List (ℕ × Images) → ℕ → Option (Option Page)
image_in [] q = None
image_in (e ∷ es) q = or_else (image_of e.1 q) (image_in es q)

or_or : (a b : Option (Option Page)) (page : Option Page) → or_image a (or_image b page) ≡ or_image (or_else a b) page
or_or None b page = refl
or_or (Some first) b page = refl

page_at-all_put_back : (es : List (ℕ × Images)) (pages : Pages) (q : ℕ) → page_at (all_put_back es pages) q ≡ or_image (image_in es q) (page_at pages q)
page_at-all_put_back [] pages q = refl
page_at-all_put_back (e ∷ es) pages q =
    page_at-put_back e.1 (all_put_back es pages) q ∙ ap (or_image (image_of e.1 q)) (page_at-all_put_back es pages q) ∙ or_or (image_of e.1 q) (image_in es q) (page_at pages q)

-- the images that tx keeps, in a list by rising numbers
abbrev image_by : List (ℕ × Images) → ℕ → ℕ → Option (Option Page)
image_by es tx q = image_of (unwrap_or (find nat_cmp tx es) map.empty) q

first_below : (a b : Bool) → T (a && b) → (a ≡ true) × T b
first_below true b below = (refl, below)
first_below false b below = absurd below

no_entry : (k : ℕ) (es : List (ℕ × Images)) → T (below_all nat_cmp k es) → find nat_cmp k es ≡ None
no_entry k [] below = refl
no_entry k (e ∷ es) below =
    let parts = first_below (is_lt (nat_cmp k e.0)) (below_all nat_cmp k es) below in
    let lower : is_lt (nat_cmp k e.0) ≡ true = parts.0 in
    let differ : eqb k e.0 ≡ false = grind (arith, nat_tests) in
    ap (λ b. cond b (Some e.1) (find nat_cmp k es)) (unsigned_tied k e.0 ∙ differ) ∙ no_entry k es parts.1

image_by-cons : (e : ℕ × Images) (es : List (ℕ × Images)) (tx q : ℕ) → image_by (e ∷ es) tx q ≡ cond (eqb tx e.0) (image_of e.1 q) (image_by es tx q)
image_by-cons e es tx q = ap (λ b. image_of (unwrap_or (cond b (Some e.1) (find nat_cmp tx es)) map.empty) q) (unsigned_tied tx e.0) ∙ inside (eqb tx e.0)
  where
    inside : (b : Bool) → image_of (unwrap_or (cond b (Some e.1) (find nat_cmp tx es)) map.empty) q ≡ cond b (image_of e.1 q) (image_by es tx q)
    inside true = refl
    inside false = refl

none_later : (e : ℕ × Images) (es : List (ℕ × Images)) (u q : ℕ) → T (below_all nat_cmp e.0 es) → image_by (e ∷ es) u q ≡ None → image_by es u q ≡ None
none_later e es u q below none =
    elim (cases_eq u e.0) [
      | inl same ↦ ap (λ o. image_of (unwrap_or o map.empty) q) (ap (λ k. find nat_cmp k es) same ∙ no_entry e.0 es below) ∙ map.get-empty {X = Option Page} nat_cmp q
      | inr differ ↦ grind (arith, nat_tests, image_by-cons e es u q)
    ]

-- where nobody keeps an image of page q, there is none in the list
no_image : (es : List (ℕ × Images)) (q : ℕ) → T (is_sorted nat_cmp es) → ((tx : ℕ) → image_by es tx q ≡ None) → image_in es q ≡ None
no_image [] q sorted none = refl
no_image (e ∷ es) q sorted none =
    let parts = first_below (below_all nat_cmp e.0 es) (is_sorted nat_cmp es) sorted in
    let below : T (below_all nat_cmp e.0 es) = subst T (sym parts.0) tt in
    let own : image_of e.1 q ≡ None = grind (arith, nat_tests, image_by-cons e es e.0 q, none e.0) in
    ap (λ o. or_else o (image_in es q)) own ∙ no_image es q parts.1 (λ tx. none_later e es tx q below (none tx))

or_none : (a : Option (Option Page)) → or_else a None ≡ a
or_none None = refl
or_none (Some first) = refl

-- where nobody but tx does, it is that of tx
one_image : (es : List (ℕ × Images)) (tx q : ℕ) → T (is_sorted nat_cmp es) → ((u : ℕ) → u ≢ tx → image_by es u q ≡ None) → image_in es q ≡ image_by es tx q
one_image [] tx q sorted others = sym (map.get-empty {X = Option Page} nat_cmp q)
one_image (e ∷ es) tx q sorted others =
    let parts = first_below (below_all nat_cmp e.0 es) (is_sorted nat_cmp es) sorted in
    let below : T (below_all nat_cmp e.0 es) = subst T (sym parts.0) tt in
    elim (cases_eq e.0 tx) [
      | inl same ↦
          let absent : image_by es tx q ≡ None = ap (λ o. image_of (unwrap_or o map.empty) q) (ap (λ k. find nat_cmp k es) (sym same) ∙ no_entry e.0 es below) ∙ map.get-empty {X = Option Page} nat_cmp q in
          let rest : image_in es q ≡ None = no_image es q parts.1 (λ u. elim (cases_eq u tx) [ inl is ↦ ap (λ u. image_by es u q) is ∙ absent | inr ne ↦ none_later e es u q below (others u ne) ]) in
          let mine : image_by (e ∷ es) tx q ≡ image_of e.1 q = grind (arith, nat_tests, image_by-cons e es tx q) in
          ap (or_else (image_of e.1 q)) rest ∙ or_none (image_of e.1 q) ∙ sym mine
      | inr differ ↦
          let own : image_of e.1 q ≡ None = grind (arith, nat_tests, image_by-cons e es e.0 q, others e.0 differ) in
          let later : image_by (e ∷ es) tx q ≡ image_by es tx q = grind (arith, nat_tests, image_by-cons e es tx q) in
          ap (λ o. or_else o (image_in es q)) own ∙ one_image es tx q parts.1 (λ u ne. none_later e es u q below (others u ne)) ∙ sym later
    ]

by : (running : RunningImages) (tx q : ℕ) → image_at running tx q ≡ image_by (map.entries running) tx q
by running tx q = ap (λ o. image_of (unwrap_or o map.empty) q) (map.get-entries running tx)

page_at-clean : (running : RunningImages) (pages : Pages) (q : ℕ) → page_at (clean_pages running pages) q ≡ or_image (image_in (map.entries running) q) (page_at pages q)
page_at-clean running pages q = page_at-all_put_back (map.entries running) pages q

-- where nobody but tx keeps an image of a page, its clean page is that image, or else the page
pub clean_page_of : (running : RunningImages) (pages : Pages) (tx q : ℕ) → ((u : ℕ) → u ≢ tx → image_at running u q ≡ None) → page_at (clean_pages running pages) q ≡ or_image (image_at running tx q) (page_at pages q)
clean_page_of running pages tx q others =
    page_at-clean running pages q
    ∙ ap (λ o. or_image o (page_at pages q)) (one_image (map.entries running) tx q (map.entries_sorted running) (λ u ne. sym (by running u q) ∙ others u ne) ∙ sym (by running tx q))

-- a page of which nobody keeps an image is clean
pub clean_page_unwritten : (running : RunningImages) (pages : Pages) (q : ℕ) → ((tx : ℕ) → image_at running tx q ≡ None) → page_at (clean_pages running pages) q ≡ page_at pages q
clean_page_unwritten running pages q none =
    page_at-clean running pages q ∙ ap (λ o. or_image o (page_at pages q)) (no_image (map.entries running) q (map.entries_sorted running) (λ tx. sym (by running tx q) ∙ none tx))

-- nobody else keeps an image of a page that tx may write
pub others_have_none : (running : RunningImages) (locks : LockTable) (tx q : ℕ) → AreCompatible locks → ImagesAreLocked running locks → can_read locks tx q ≡ true → (u : ℕ) → u ≢ tx → image_at running u q ≡ None
others_have_none running locks tx q ok locked reads u ne =
    not_there (image_at running u q) (not_true _ (λ some. ne (ok u tx q (locked u q some) reads)))

-- each subtransaction's view: wherever no other may write, its own images put back give the clean pages
pub clean_view : (running : RunningImages) (locks : LockTable) (pages : Pages) (tx q : ℕ) → ImagesAreLocked running locks → ((u : ℕ) → u ≢ tx → can_write locks u q ≡ false)
    → page_at (clean_pages running pages) q ≡ page_at (put_back (unwrap_or (map.get running tx) map.empty) pages) q
clean_view running locks pages tx q locked free =
    clean_page_of running pages tx q (λ u ne. not_there (image_at running u q) (not_true _ (λ some. false≢true (sym (free u ne) ∙ locked u q some))))
    ∙ sym (page_at-put_back (unwrap_or (map.get running tx) map.empty) pages q)

-- who keeps the image that a list has
record Owner (es : List (ℕ × Images)) (q : ℕ) : Type 0 where
  who : ℕ
  has : is_some (image_by es who q) ≡ true

both_none : (a b : Option (Option Page)) → or_else a b ≡ None → (a ≡ None) × (b ≡ None)
both_none None b none = (refl, none)
both_none (Some first) b none = cc

all_none : (es : List (ℕ × Images)) (q : ℕ) → image_in es q ≡ None → (u : ℕ) → image_by es u q ≡ None
all_none [] q none u = map.get-empty {X = Option Page} nat_cmp q
all_none (e ∷ es) q none u =
    let parts = both_none (image_of e.1 q) (image_in es q) none in
    grind (arith, image_by-cons e es u q, parts.0, all_none es q parts.1 u)

later_owner : (e : ℕ × Images) (es : List (ℕ × Images)) (q : ℕ) → T (below_all nat_cmp e.0 es) → Owner es q → Owner (e ∷ es) q
later_owner e es q below owner =
    elim (cases_eq owner.who e.0) [
      | inl same ↦
          let none : image_by es owner.who q ≡ None = ap (λ o. image_of (unwrap_or o map.empty) q) (ap (λ k. find nat_cmp k es) same ∙ no_entry e.0 es below) ∙ map.get-empty {X = Option Page} nat_cmp q in
          absurd (false≢true (sym (ap is_some none) ∙ owner.has))
      | inr differ ↦ (let its : image_by (e ∷ es) owner.who q ≡ image_by es owner.who q = grind (arith, nat_tests, image_by-cons e es owner.who q) in record { who = owner.who; has = ap is_some its ∙ owner.has })
    ]

first_owner : (e : ℕ × Images) (es : List (ℕ × Images)) (q : ℕ) → is_some (image_of e.1 q) ≡ true → Owner (e ∷ es) q
first_owner e es q some = (let its : image_by (e ∷ es) e.0 q ≡ image_of e.1 q = grind (arith, nat_tests, image_by-cons e es e.0 q) in record { who = e.0; has = ap is_some its ∙ some })

owner_or_none : (es : List (ℕ × Images)) (q : ℕ) → T (is_sorted nat_cmp es) → (image_in es q ≡ None) ⊎ Owner es q
owner_or_none [] q sorted = inl refl
owner_or_none (e ∷ es) q sorted =
    let parts = first_below (below_all nat_cmp e.0 es) (is_sorted nat_cmp es) sorted in
    let below : T (below_all nat_cmp e.0 es) = subst T (sym parts.0) tt in
    elim (is_some (image_of e.1 q)) as (λ b. is_some (image_of e.1 q) ≡ b → (image_in (e ∷ es) q ≡ None) ⊎ Owner (e ∷ es) q) [
      | true ↦ λ some. inr (first_owner e es q some)
      | false ↦ λ none. elim (owner_or_none es q parts.1) [
        | inl rest ↦ inl (ap (λ o. or_else o (image_in es q)) (not_there (image_of e.1 q) none) ∙ rest)
        | inr owner ↦ inr (later_owner e es q below owner)
      ]
    ] refl

-- the image of a page is fixed by who keeps which
same_image : (running running' : RunningImages) (q : ℕ) → ImagesAreApart running → ((u : ℕ) → image_at running' u q ≡ image_at running u q) → image_in (map.entries running') q ≡ image_in (map.entries running) q
same_image running running' q apart same =
    elim (owner_or_none (map.entries running) q (map.entries_sorted running)) [
      | inl none ↦ no_image (map.entries running') q (map.entries_sorted running') (λ u. sym (by running' u q) ∙ same u ∙ by running u q ∙ all_none (map.entries running) q none u) ∙ sym none
      | inr owner ↦
          let others : (u : ℕ) → u ≢ owner.who → image_at running u q ≡ None =
          λ u ne. not_there (image_at running u q) (not_true _ (λ some. ne (apart u owner.who q some (ap is_some (by running owner.who q) ∙ owner.has)))) in
          one_image (map.entries running') owner.who q (map.entries_sorted running') (λ u ne. sym (by running' u q) ∙ same u ∙ others u ne)
          ∙ sym (by running' owner.who q) ∙ same owner.who ∙ by running owner.who q
          ∙ sym (one_image (map.entries running) owner.who q (map.entries_sorted running) (λ u ne. sym (by running u q) ∙ others u ne))
    ]

-- A page's clean page is fixed by what it has and by who keeps which image of it.
pub same_clean_page : (running running' : RunningImages) (pages pages' : Pages) (q : ℕ) → ImagesAreApart running → ((u : ℕ) → image_at running' u q ≡ image_at running u q) → page_at pages' q ≡ page_at pages q
    → page_at (clean_pages running' pages') q ≡ page_at (clean_pages running pages) q
same_clean_page running running' pages pages' q apart same is =
    page_at-clean running' pages' q ∙ (λ i. or_image (same_image running running' q apart same i) (is i)) ∙ sym (page_at-clean running pages q)

-- so where all images are as they were, all clean pages are
pub same_clean_pages : (running running' : RunningImages) (pages : Pages) → ImagesAreApart running → ((u q : ℕ) → image_at running' u q ≡ image_at running u q) → clean_pages running' pages ≡ clean_pages running pages
same_clean_pages running running' pages apart same = same_pages _ _ (λ q. same_clean_page running running' pages pages q apart (λ u. same u q) refl)

-- a clean page is there, perhaps overwritten
pub clean_page_there : (running : RunningImages) (pages : Pages) (q : ℕ) → ImagesAreThere running pages → is_some (page_at (clean_pages running pages) q) ≡ true → is_some (page_at pages q) ≡ true
clean_page_there running pages q there some =
    elim (owner_or_none (map.entries running) q (map.entries_sorted running)) [
      | inl none ↦ sym (ap is_some (page_at-clean running pages q ∙ ap (λ o. or_image o (page_at pages q)) none)) ∙ some
      | inr owner ↦ there owner.who q (ap is_some (by running owner.who q) ∙ owner.has)
    ]

-- the images once those of tx are these
pub image_at-insert : (running : RunningImages) (tx : ℕ) (images : Images) (u q : ℕ) → image_at (map.insert running tx images) u q ≡ cond (eqb u tx) (image_of images q) (image_at running u q)
image_at-insert running tx images u q = grind (arith, get_inserted running tx images u)

-- a transaction may leave with its images, or stay with none
pub drops_removed : (running : RunningImages) (tx : ℕ) → DropsImages tx running (map.remove running tx)
drops_removed running tx u q = grind (arith, get_removed running tx u, map.get-empty {X = Option Page} nat_cmp q)

pub drops_cleared : (running : RunningImages) (tx : ℕ) → DropsImages tx running (map.insert running tx map.empty)
drops_cleared running tx u q = grind (arith, image_at-insert running tx map.empty u q, map.get-empty {X = Option Page} nat_cmp q)

-- **A write under an exclusive lock, with the page's first image kept, changes no clean page.**
pub clean_pages-write : (running : RunningImages) (locks : LockTable) (pages : Pages) (tx q : ℕ) (images : Images) (page : Page) → AreCompatible locks → ImagesAreLocked running locks → map.get running tx ≡ Some images → can_write locks tx q ≡ true
    → clean_pages (map.insert running tx (with_image images q (page_at pages q))) (map.insert pages q page) ≡ clean_pages running pages
clean_pages-write running locks pages tx q images page ok locked there writes = same_pages _ _ (λ r.
    elim (cases_eq r q) [
      | inl here ↦ subst (λ r. page_at (clean_pages running' pages') r ≡ page_at (clean_pages running pages) r) (sym here) written
      | inr elsewhere ↦ same_clean_page running running' pages pages' r (images_are_apart running locks ok locked)
          (λ u. grind (arith, nat_tests, image_at-insert running tx (with_image images q (page_at pages q)) u r, image_of-with_image images q (page_at pages q) r, there))
          (grind (arith, nat_tests, get_inserted pages q page r))
    ])
  where
    running' : RunningImages
    running' = map.insert running tx (with_image images q (page_at pages q))

    pages' : Pages
    pages' = map.insert pages q page

    written : page_at (clean_pages running' pages') q ≡ page_at (clean_pages running pages) q
    written =
        clean_page_of running' pages' tx q (λ u ne. image_at-insert running tx (with_image images q (page_at pages q)) u q ∙ grind (arith, nat_tests, others_have_none running locks tx q ok locked (writer_reads locks tx q writes) u))
        ∙ ap (λ o. or_image o (page_at pages' q)) image
        ∙ ap (λ o. or_image (image_of (unwrap_or o map.empty) q) (page_at pages q)) (sym there)
        ∙ sym (clean_page_of running pages tx q (others_have_none running locks tx q ok locked (writer_reads locks tx q writes)))
      where
        image : image_at running' tx q ≡ Some (or_image (image_of images q) (page_at pages q))
        image = grind (arith, nat_tests, image_at-insert running tx (with_image images q (page_at pages q)) tx q, image_of-with_image images q (page_at pages q) q)

-- a page that tx has written is nobody's once tx keeps no images
nobody_left : (running running' : RunningImages) (tx q : ℕ) → ImagesAreApart running → DropsImages tx running running' → is_some (image_at running tx q) ≡ true → (u : ℕ) → image_at running' u q ≡ None
nobody_left running running' tx q apart drops mine u =
    elim (cases_eq u tx) [
      | inl same ↦ grind (arith, nat_tests, drops u q)
      | inr differ ↦ drops u q ∙ grind (arith, nat_tests, not_there (image_at running u q) (not_true _ (λ some. differ (apart u tx q some mine))))
    ]

-- and the images of a page that tx has not written stay
pub others_stay : (running running' : RunningImages) (tx q : ℕ) → DropsImages tx running running' → image_at running tx q ≡ None → (u : ℕ) → image_at running' u q ≡ image_at running u q
others_stay running running' tx q drops none u =
    elim (cases_eq u tx) [
      | inl same ↦ grind (arith, nat_tests, drops u q, ap (λ u. image_at running u q) same)
      | inr differ ↦ grind (arith, nat_tests, drops u q)
    ]

-- **The end of tx makes just the pages clean that tx has written.**
pub clean_page-end : (running running' : RunningImages) (pages : Pages) (tx q : ℕ) → ImagesAreApart running → DropsImages tx running running'
    → page_at (clean_pages running' pages) q ≡ cond (is_some (image_at running tx q)) (page_at pages q) (page_at (clean_pages running pages) q)
clean_page-end running running' pages tx q apart drops =
    elim (is_some (image_at running tx q)) as (λ b. is_some (image_at running tx q) ≡ b → page_at (clean_pages running' pages) q ≡ cond b (page_at pages q) (page_at (clean_pages running pages) q)) [
      | true ↦ λ mine. clean_page_unwritten running' pages q (nobody_left running running' tx q apart drops mine)
      | false ↦ λ none. same_clean_page running running' pages pages q apart (others_stay running running' tx q drops (not_there _ none)) refl
    ] refl

-- **A roll back of tx changes no clean page.**
pub clean_pages-roll_back : (running running' : RunningImages) (pages : Pages) (tx : ℕ) → ImagesAreApart running → DropsImages tx running running'
    → clean_pages running' (put_back (unwrap_or (map.get running tx) map.empty) pages) ≡ clean_pages running pages
clean_pages-roll_back running running' pages tx apart drops = same_pages _ _ (λ q.
    elim (is_some (image_at running tx q)) as (λ b. is_some (image_at running tx q) ≡ b → page_at (clean_pages running' pages') q ≡ page_at (clean_pages running pages) q) [
      | true ↦ λ mine.
          clean_page_unwritten running' pages' q (nobody_left running running' tx q apart drops mine)
          ∙ page_at-put_back (unwrap_or (map.get running tx) map.empty) pages q
          ∙ sym (clean_page_of running pages tx q (λ u ne. not_there (image_at running u q) (not_true _ (λ some. ne (apart u tx q some mine)))))
      | false ↦ λ none. same_clean_page running running' pages pages' q apart (others_stay running running' tx q drops (not_there _ none))
          (page_at-put_back (unwrap_or (map.get running tx) map.empty) pages q ∙ ap (λ o. or_image o (page_at pages q)) (not_there (image_at running tx q) none))
    ] refl)
  where
    pages' : Pages
    pages' = put_back (unwrap_or (map.get running tx) map.empty) pages
