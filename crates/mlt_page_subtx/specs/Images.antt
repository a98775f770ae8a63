-- First images of pages, and the pages with these put back.
use Rattle.std.specs.Prelude.{◌≡◌, ℕ, true, Option, None, Some, List, [], ◌∷◌, is_some, refl}
use Rattle.std.specs.Ordering.{nat_cmp}
use Rattle.std.specs.Coded.{Coded, code_by, coded×, coded_ℕ, coded_option}
use Rattle.std.specs.FinMap as map
use Rattle.mlt_page.specs.{declared.page.Page.Page, contracts.page.Page.the_row, Stores.Pages, Stores.page_at}

-- what each page that was written or made had at first; a page that was made had nothing
abbrev pub Images : Type 0
Images = map.FinMap nat_cmp (Option Page)

-- the first image of page q, if there is one
abbrev pub image_of : Images → ℕ → Option (Option Page)
image_of images q = map.get images q

-- what a page has once its image is put back
abbrev pub or_image : Option (Option Page) → Option Page → Option Page
or_image None page = page
or_image (Some first) page = first

-- the pages where page q has this, or is not there
abbrev pub with_first : Pages → ℕ → Option Page → Pages
with_first pages q None = map.remove pages q
with_first pages q (Some page) = map.insert pages q page

abbrev pub with_firsts : List (ℕ × Option Page) → Pages → Pages
with_firsts [] pages = pages
with_firsts (e ∷ es) pages = with_first (with_firsts es pages) e.0 e.1

-- the pages with the first images put back
abbrev pub put_back : Images → Pages → Pages
put_back images pages = with_firsts (map.entries images) pages

abbrev pub with_new : Images → ℕ → Option Page → Option (Option Page) → Images
with_new images q first None = map.insert images q first
with_new images q first (Some image) = images

-- the images, with that of page q if it has none yet
abbrev pub with_image : Images → ℕ → Option Page → Images
with_image images q first = with_new images q first (image_of images q)

-- each page with an image is there
abbrev pub AreThere : Images → Pages → Type 0
AreThere images pages =
    (q : ℕ) → is_some (image_of images q) ≡ true → is_some (page_at pages q) ≡ true

-- a running subtransaction: whose it is, and the images that it keeps
pub record Running : Type 0 where
  pub tx : ℕ
  pub images : Images

-- one that has written nothing
abbrev pub started : ℕ → Running
started tx = record { tx = tx; images = map.empty }

abbrev pub coded_images : Coded Images
coded_images = map.code coded_ℕ (coded_option the_row.coded)

abbrev pub coded_running : Coded Running
coded_running =
    code_by (ℕ × Images) (coded× coded_ℕ coded_images)
    (λ r. (r.tx, r.images)) (λ p. record { tx = p.0; images = p.1 }) (λ _. refl)
