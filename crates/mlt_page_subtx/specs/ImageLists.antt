-- The images that a list makes.
use Rattle.std.specs.Prelude.{◌≡◌, ◌+◌, ◌<◌, ◌≤◌, ℕ, Option, List, [], ◌∷◌, ◌++◌, length}
use Rattle.std.specs.FinMap as map
use Rattle.mlt_page.specs.declared.page.Page.{Page}
use Rattle.mlt_page_subtx.specs.{declared.image.Image.Image, Images.Images}

-- each image under its page
abbrev pub images_of : List Image → Images
images_of [] = map.empty
images_of (image ∷ images) = map.insert (images_of images) image.page image.first

-- the images that the entries of a map are, in their order
abbrev pub images_in : List (ℕ × Option Page) → List Image
images_in [] = []
images_in (e ∷ es) = record { page = e.0; first = e.1 } ∷ images_in es

-- each page has one image, and images are put behind the first two only once there are two, which are all that there is room for
pub record IsKept (near far : List Image) : Type 0 where
  pub once : map.len (images_of (near ++ far)) ≡ length near + length far
  pub few : length near ≤ 2
  pub near_first : 0 < length far → length near ≡ 2
