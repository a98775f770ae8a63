-- Images in a list: each page has one, and the last is put back first.
use Prim.Native.Nat.{zero}
use Rattle.std.proofs.Common.{◌≡◌, ℕ, suc, ◌+◌, ◌<◌, ◌≤◌, eqb, nat_eq, Bool, true, false, cond, Option, None, Some, is_some, option_map, List, [], ◌∷◌, ◌++◌, length, refl, sym, ap, subst, ◌∙◌, append_assoc, length-append, arith, find, nat_cmp}
use Rattle.std.specs.{Map.lookup, Option.option_or, Cmp.nat_cmp_total}
use Rattle.std.specs.FinMap as map
use Rattle.mlt_page_subtx.proofs.Names.{false≢true, nat_tests, Page, PageStore, Pages, page_at, same_pages, get_inserted, Image, image_of, with_first, put_back, AreThere, images_in, images_of}
use Rattle.mlt_page_locks.proofs.Maps.{same_entries}
use Rattle.mlt_page_subtx.{proofs.ImageLaws.not_there, proofs.ImageLaws.page_at-put_back, proofs.ImageLaws.page_at-with_first, proofs.ImageLaws.put_back-none, specs.ImageLists.IsKept}

-- whether an image is of page q
abbrev pub is_of : ℕ → Image → Bool
is_of q image = eqb image.page q

-- a map has the first image of a page that a list finds first
pub find-images_of : (images : List Image) (q : ℕ) → option_map (λ (image : Image). image.first) (find (is_of q) images) ≡ image_of (images_of images) q
find-images_of [] q = grind (arith, map.get-empty {X = Option Page} nat_cmp q)
find-images_of (image ∷ images) q = grind (arith, nat_tests, find-images_of images q, get_inserted (images_of images) image.page image.first q)

-- as it has what is looked up in entries
pub lookup-images_in : (entries : List (ℕ × Option Page)) (q : ℕ) → lookup (nat_eq q) entries ≡ image_of (images_of (images_in entries)) q
lookup-images_in [] q = grind (arith, map.get-empty {X = Option Page} nat_cmp q)
lookup-images_in (e ∷ entries) q = grind (arith, nat_tests, lookup-images_in entries q, get_inserted (images_of (images_in entries)) e.0 e.1 q)

-- an entry more is an image more
pub images_in-append : (entries more : List (ℕ × Option Page)) → images_in (entries ++ more) ≡ images_in entries ++ images_in more
images_in-append [] more = refl
images_in-append (e ∷ entries) more = ap (λ xs. record { page = e.0; first = e.1 } ∷ xs) (images_in-append entries more)

-- of two lists, the first that has an image of the page has its first image
image_of-near_far : (near far : List Image) (q : ℕ) → image_of (images_of (near ++ far)) q ≡ option_or (image_of (images_of near) q) (image_of (images_of far) q)
image_of-near_far [] far q = grind (arith, map.get-empty {X = Option Page} nat_cmp q)
image_of-near_far (image ∷ near) far q =
    grind (arith, nat_tests, image_of-near_far near far q, get_inserted (images_of near) image.page image.first q, get_inserted (images_of (near ++ far)) image.page image.first q)

-- the first image of a page that is found among the first images,
pub image_of-near : (near far : List Image) (q : ℕ) (image : Image) → find (is_of q) near ≡ Some image → image_of (images_of (near ++ far)) q ≡ Some image.first
image_of-near near far q image found =
    image_of-near_far near far q ∙ ap (λ o. option_or o (image_of (images_of far) q)) (sym (find-images_of near q) ∙ ap (option_map (λ (image : Image). image.first)) found)

-- and of one that is not
pub image_of-far : (near : List Image) (entries : List (ℕ × Option Page)) (q : ℕ) → find (is_of q) near ≡ None → image_of (images_of (near ++ images_in entries)) q ≡ lookup (nat_eq q) entries
image_of-far near entries q none =
    image_of-near_far near (images_in entries) q
    ∙ ap (λ o. option_or o (image_of (images_of (images_in entries)) q)) (sym (find-images_of near q) ∙ ap (option_map (λ (image : Image). image.first)) none)
    ∙ sym (lookup-images_in entries q)

second_none : (a b : Option (Option Page)) → option_or a b ≡ None → b ≡ None
second_none None b none = none
second_none (Some first) b none = cc

-- a page without an image has no entry
pub no_entry : (near : List Image) (entries : List (ℕ × Option Page)) (q : ℕ) → image_of (images_of (near ++ images_in entries)) q ≡ None → lookup (nat_eq q) entries ≡ None
no_entry near entries q none =
    lookup-images_in entries q ∙ second_none (image_of (images_of near) q) (image_of (images_of (images_in entries)) q) (sym (image_of-near_far near (images_in entries) q) ∙ none)

-- the last entry is the last image
pub entry_is_last : (near : List Image) (entries left : List (ℕ × Option Page)) (page : ℕ) (first : Option Page) → entries ≡ left ++ (page, first) ∷ []
    → near ++ images_in entries ≡ (near ++ images_in left) ++ record { page = page; first = first } ∷ []
entry_is_last near entries left page first is =
    ap (λ es. near ++ images_in es) is ∙ ap (λ xs. near ++ xs) (images_in-append left ((page, first) ∷ [])) ∙ sym (append_assoc near (images_in left) (record { page = page; first = first } ∷ []))

-- the pages of the images are no more than the images
len-images_of : (images : List Image) → map.len (images_of images) ≤ length images
len-images_of [] = grind (arith, map.len-empty nat_cmp (Option Page))
len-images_of (image ∷ images) = grind (arith, len-images_of images, map.len-insert nat_cmp_total (images_of images) image.page image.first)

image_of-append : (images : List Image) (image : Image) (q : ℕ) → image_of (images_of (images ++ image ∷ [])) q ≡ cond (is_some (image_of (images_of images) q)) (image_of (images_of images) q) (cond (eqb q image.page) (Some image.first) None)
image_of-append [] image q = grind (arith, nat_tests, get_inserted map.empty image.page image.first q, map.get-empty {X = Option Page} nat_cmp q)
image_of-append (first ∷ images) image q =
    grind (arith, nat_tests, image_of-append images image q, get_inserted (images_of images) first.page first.first q, get_inserted (images_of (images ++ image ∷ [])) first.page first.first q)

-- one image more, of a page that has none
pub images_of-append : (images : List Image) (image : Image) → image_of (images_of images) image.page ≡ None → images_of (images ++ image ∷ []) ≡ map.insert (images_of images) image.page image.first
images_of-append images image none = same_entries _ _ (λ q. grind (arith, nat_tests, image_of-append images image q, get_inserted (images_of images) image.page image.first q))

-- the list without its last image: that page has no other image
pub record LastOnce (images : List Image) (image : Image) : Type 0 where
  pub once : map.len (images_of images) ≡ length images
  pub apart : image_of (images_of images) image.page ≡ None

length_append_one : (images : List Image) (image : Image) → length (images ++ image ∷ []) ≡ length images + 1
length_append_one images image = grind (arith, length-append images (image ∷ []))

images_of-append_present : (images : List Image) (image : Image) → is_some (image_of (images_of images) image.page) ≡ true → images_of (images ++ image ∷ []) ≡ images_of images
images_of-append_present images image there = same_entries _ _ (λ q. grind (arith, nat_tests, image_of-append images image q))

pub last_once : (images : List Image) (image : Image) → map.len (images_of (images ++ image ∷ [])) ≡ length (images ++ image ∷ []) → LastOnce images image
last_once images image once =
    elim (is_some (image_of (images_of images) image.page)) as (λ b. is_some (image_of (images_of images) image.page) ≡ b → LastOnce images image) [
      | true ↦ λ there. absurd (omega (arith, once, ap map.len (images_of-append_present images image there), len-images_of images, length_append_one images image))
      | false ↦ λ none.
          let apart = not_there (image_of (images_of images) image.page) none in
          record {
            once = grind (arith, once, ap map.len (images_of-append images image apart), map.len-insert nat_cmp_total (images_of images) image.page image.first, length_append_one images image);
            apart = apart;
          }
    ] refl

-- the last image is put back first
pub put_back-last : (images : List Image) (image : Image) (pages : Pages) → LastOnce images image → put_back (images_of (images ++ image ∷ [])) pages ≡ put_back (images_of images) (with_first pages image.page image.first)
put_back-last images image pages last = same_pages _ _ (λ q.
    grind (arith, nat_tests, last.apart, page_at-put_back (images_of (images ++ image ∷ [])) pages q, page_at-put_back (images_of images) (with_first pages image.page image.first) q, image_of-append images image q, page_at-with_first pages image.page image.first q))

-- and its page is there
pub last_is_there : (images : List Image) (image : Image) (pages : Pages) → AreThere (images_of (images ++ image ∷ [])) pages → is_some (page_at pages image.page) ≡ true
last_is_there images image pages there = there image.page (grind (arith, nat_tests, image_of-append images image image.page))

-- the others' pages stay there
pub others_are_there : (images : List Image) (image : Image) (pages : Pages) → LastOnce images image → AreThere (images_of (images ++ image ∷ [])) pages → AreThere (images_of images) (with_first pages image.page image.first)
others_are_there images image pages last there q some =
    grind (arith, nat_tests, last.apart, some, page_at-with_first pages image.page image.first q, there q, image_of-append images image q)

pub put_back-no_images : (pages : Pages) → put_back (images_of []) pages ≡ pages
put_back-no_images pages = put_back-none pages

-- Some images are put back, from the last one on: the store so far, and the images that are left.
pub record PutBackSoFar (images : List Image) (store : PageStore) (all : List Image) (before : PageStore) : Type 0 where
  pub once : map.len (images_of images) ≡ length images
  pub there : AreThere (images_of images) store.pages
  pub same : put_back (images_of images) store.pages ≡ put_back (images_of all) before.pages
  pub limit : store.max_pages ≡ before.max_pages

-- one image more is put back
pub put_back_more : (images left : List Image) (image : Image) (store store' : PageStore) (all : List Image) (before : PageStore) → images ≡ left ++ image ∷ [] → PutBackSoFar images store all before
    → store' ≡ record { pages = with_first store.pages image.page image.first; max_pages = store.max_pages } → PutBackSoFar left store' all before
put_back_more images left image store store' all before split so_far is =
    let once : map.len (images_of (left ++ image ∷ [])) ≡ length (left ++ image ∷ []) = subst (λ xs. map.len (images_of xs) ≡ length xs) split so_far.once in
    let last = last_once left image once in
    let there : AreThere (images_of (left ++ image ∷ [])) store.pages = subst (λ xs. AreThere (images_of xs) store.pages) split so_far.there in
    let pages : store'.pages ≡ with_first store.pages image.page image.first = ap (λ (s : PageStore). s.pages) is in
    record {
      once = last.once;
      there = subst (λ pages. AreThere (images_of left) pages) (sym pages) (others_are_there left image store.pages last there);
      same = ap (put_back (images_of left)) pages ∙ sym (put_back-last left image store.pages last) ∙ sym (ap (λ xs. put_back (images_of xs) store.pages) split) ∙ so_far.same;
      limit = ap (λ (s : PageStore). s.max_pages) is ∙ so_far.limit;
    }

pub kept_none : (near far : List Image) → near ≡ [] → far ≡ [] → IsKept near far
kept_none near far n f =
    let long : length near ≡ 0 = ap length n in
    let long' : length far ≡ 0 = ap length f in
    let all : near ++ far ≡ [] = ap (λ xs. xs ++ far) n ∙ f in
    record {
      once = grind (arith, ap (λ xs. map.len (images_of xs)) all, map.len-empty nat_cmp (Option Page));
      few = omega (arith, long);
      near_first = λ some. absurd (omega arith);
    }

-- an image of a page that has none is put behind the others
pub record KeptOneMore (near far near' far' : List Image) (image : Image) : Type 0 where
  pub kept : IsKept near' far'
  pub images : images_of (near' ++ far') ≡ map.insert (images_of (near ++ far)) image.page image.first

len_one_more : (images : List Image) (image : Image) → image_of (images_of images) image.page ≡ None → map.len (images_of (images ++ image ∷ [])) ≡ map.len (images_of images) + 1
len_one_more images image none = ap map.len (images_of-append images image none) ∙ grind (arith, map.len-insert nat_cmp_total (images_of images) image.page image.first)

pub kept_far : (near far far' : List Image) (image : Image) → IsKept near far → image_of (images_of (near ++ far)) image.page ≡ None → length near ≡ 2 → far' ≡ far ++ image ∷ [] → KeptOneMore near far near far' image
kept_far near far far' image kept none full is =
    let all : near ++ far' ≡ (near ++ far) ++ image ∷ [] = ap (λ xs. near ++ xs) is ∙ sym (append_assoc near far (image ∷ [])) in
    let long : length far' ≡ length far + 1 = ap length is ∙ length_append_one far image in
    record {
      kept = record {
        once = grind (arith, kept.once, ap (λ xs. map.len (images_of xs)) all, len_one_more (near ++ far) image none);
        few = omega (arith, full);
        near_first = λ some. full;
      };
      images = ap images_of all ∙ images_of-append (near ++ far) image none;
    }

-- and so is an entry where there are two images
pub kept_entry : (near : List Image) (entries entries' : List (ℕ × Option Page)) (page : ℕ) (first : Option Page) → IsKept near (images_in entries) → image_of (images_of (near ++ images_in entries)) page ≡ None → 2 ≤ map.len (images_of (near ++ images_in entries))
    → entries' ≡ entries ++ (page, first) ∷ [] → KeptOneMore near (images_in entries) near (images_in entries') (record { page = page; first = first })
kept_entry near entries entries' page first kept none two is =
    let full : length near ≡ 2 = grind (arith, nat_tests, kept.once, kept.few, kept.near_first, two) in
    kept_far near (images_in entries) (images_in entries') (record { page = page; first = first }) kept none full (ap images_in is ∙ images_in-append entries ((page, first) ∷ []))

no_far : (near far : List Image) → IsKept near far → length near < 2 → far ≡ []
no_far near [] kept room = refl
no_far near (image ∷ far) kept room = absurd (omega (arith, kept.near_first (omega arith)))

append_none : (images : List Image) → images ++ [] ≡ images
append_none [] = refl
append_none (image ∷ images) = ap (λ xs. image ∷ xs) (append_none images)

pub kept_near : (near far near' : List Image) (image : Image) → IsKept near far → image_of (images_of (near ++ far)) image.page ≡ None → length near < 2 → near' ≡ near ++ image ∷ [] → KeptOneMore near far near' far image
kept_near near far near' image kept none room is =
    let empty : far ≡ [] = no_far near far kept room in
    let all : near' ++ far ≡ (near ++ far) ++ image ∷ [] =
    ap (λ xs. near' ++ xs) empty ∙ append_none near' ∙ is ∙ sym (ap (λ xs. (near ++ xs) ++ image ∷ []) empty ∙ ap (λ xs. xs ++ image ∷ []) (append_none near)) in
    let long : length near' ≡ length near + 1 = ap length is ∙ length_append_one near image in
    let long' : length far ≡ 0 = ap length empty in
    record {
      kept = record {
        once = grind (arith, kept.once, ap (λ xs. map.len (images_of xs)) all, len_one_more (near ++ far) image none);
        few = omega (arith, long, room);
        near_first = λ some. absurd (omega arith);
      };
      images = ap images_of all ∙ images_of-append (near ++ far) image none;
    }

pub none_left : {X : Type 0} (xs : List X) → length xs ≡ 0 → xs ≡ []
none_left [] none = refl
none_left (x ∷ xs) none = absurd (omega arith)

-- first the images behind are put back, then those in front
pub behind_and_front : (near far left all : List Image) (middle store before : PageStore) → far ≡ [] → left ≡ [] → PutBackSoFar (near ++ far) middle all before → PutBackSoFar left store near middle
    → store ≡ record { pages = put_back (images_of all) before.pages; max_pages = before.max_pages }
behind_and_front near far left all middle store before none none' behind front =
    let half : put_back (images_of near) middle.pages ≡ put_back (images_of all) before.pages =
    ap (λ xs. put_back (images_of xs) middle.pages) (sym (ap (λ xs. near ++ xs) none ∙ append_none near)) ∙ behind.same in
    let pages : store.pages ≡ put_back (images_of all) before.pages = sym (ap (λ xs. put_back (images_of xs) store.pages) none' ∙ put_back-no_images store.pages) ∙ front.same ∙ half in
    λ i. record { pages = pages i; max_pages = (front.limit ∙ behind.limit) i }

pub none_popped : (n : ℕ) → (0 < n → false ≡ true) → n ≡ 0
none_popped zero none = refl
none_popped (suc n) none = absurd (false≢true (none (omega arith)))
