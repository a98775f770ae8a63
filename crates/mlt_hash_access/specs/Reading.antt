-- What is read on the way of a key to its bucket. Each fact is about the pages that are held alone, so that what other
-- transactions do can't touch it.
use Rattle.std.specs.Prelude.{ℕ, ◌≡◌, List, slice_index, Option, Some}
use Rattle.mlt_page.specs.{declared.page.Page.Page, Values.BucketFields, Values.HeadFields}
use Rattle.mlt_hash_form.specs.{File.dir_of, File.row_of, Form.value_in}
use Rattle.mlt_hash_access.specs.Views.{View}

-- the header is read, and the directory page of the key's place
pub record HasReadPlace (bits : ℕ → ℕ) (root key : ℕ) (view : View) (dir bucket : ℕ) : Type 0 where
  pub header : HeadFields
  pub head : view.seen root ≡ Some (Some (Page.Head header))
  pub dir_is : dir ≡ dir_of header (bits key)
  pub entries : List ℕ
  pub listed : view.seen dir ≡ Some (Some (Page.Dir entries))
  pub bucket_is : bucket ≡ slice_index entries (row_of header (bits key))

-- so is the bucket that the key leads to, and what it has of the key is known
pub record HasReadBucket (bits : ℕ → ℕ) (root key : ℕ) (view : View) (dir bucket : ℕ)
    (found : Option ℕ) : Type 0 where
  pub placed : HasReadPlace bits root key view dir bucket
  pub fields : BucketFields
  pub at : view.seen bucket ≡ Some (Some (Page.Bucket fields))
  pub found_is : found ≡ value_in key fields.slots
