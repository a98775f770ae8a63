-- Clean pages: the pages as they were before the running subtransactions.
use Rattle.std.specs.Prelude.{◌≡◌, ℕ, ◌==◌, true, cond, Option, None, List, [], ◌∷◌, is_some, unwrap_or}
use Rattle.std.specs.Ordering.{nat_cmp}
use Rattle.std.specs.FinMap as map
use Rattle.mlt_page.specs.{declared.page.Page.Page, Stores.Pages, Stores.page_at}
use Rattle.mlt_page_locks.specs.LockTables.{LockTable, can_write}
use Rattle.mlt_page_subtx.specs.Images.{Images, image_of, put_back}

-- the first images that each running subtransaction keeps, by the number of its transaction
abbrev pub RunningImages : Type 0
RunningImages = map.FinMap nat_cmp Images

-- the image of page q that the transaction tx keeps, if it does
abbrev pub image_at : RunningImages → ℕ → ℕ → Option (Option Page)
image_at running tx q = image_of (unwrap_or (map.get running tx) map.empty) q

abbrev pub all_put_back : List (ℕ × Images) → Pages → Pages
all_put_back [] pages = pages
all_put_back (e ∷ es) pages = put_back e.1 (all_put_back es pages)

-- the pages with the first images of all running subtransactions put back, and the pages that they made taken out
abbrev pub clean_pages : RunningImages → Pages → Pages
clean_pages running pages = all_put_back (map.entries running) pages

-- who keeps an image of a page has it locked exclusively
abbrev pub ImagesAreLocked : RunningImages → LockTable → Type 0
ImagesAreLocked running locks =
    (tx q : ℕ) → is_some (image_at running tx q) ≡ true → can_write locks tx q ≡ true

-- no two transactions keep images of one page
abbrev pub ImagesAreApart : RunningImages → Type 0
ImagesAreApart running =
    (t u q : ℕ) → is_some (image_at running t q) ≡ true → is_some (image_at running u q) ≡ true
    → t ≡ u

-- each page of which somebody keeps an image is there
abbrev pub ImagesAreThere : RunningImages → Pages → Type 0
ImagesAreThere running pages =
    (tx q : ℕ) → is_some (image_at running tx q) ≡ true → is_some (page_at pages q) ≡ true

-- tx keeps no images any more, and all others keep theirs
abbrev pub DropsImages : ℕ → RunningImages → RunningImages → Type 0
DropsImages tx old new = (u q : ℕ) → image_at new u q ≡ cond (u == tx) None (image_at old u q)
