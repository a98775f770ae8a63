-- What is read on the way of a key stays so as more is seen, and is on the clean pages. Other crates cite this module.
use Rattle.std.proofs.Common.{◌≡◌, ℕ, Option, Some, sym, ap, ◌∙◌}
use Rattle.mlt_hash_access.proofs.Names.{BucketFields, Page, Agrees, View}
use Rattle.mlt_hash_form.{specs.File.IsPath, specs.File.buckets_of, specs.File.look_up, specs.Form.value_in, proofs.InPages.led_at}
use Rattle.mlt_hash_access.specs.Reading.{HasReadBucket, HasReadPlace}

-- what a view sees the later one sees
abbrev pub SeesMore : View → View → Type 0
SeesMore old new = (q : ℕ) (first : Option Page) → old.seen q ≡ Some first → new.seen q ≡ Some first

-- **What was read stays so as more is seen.**
abbrev pub place_still : (bits : ℕ → ℕ) (root key : ℕ) (old new : View) (dir bucket : ℕ) → SeesMore old new → HasReadPlace bits root key old dir bucket → HasReadPlace bits root key new dir bucket
place_still bits root key old new dir bucket more read = record { header = read.header; head = more root (Some (Page.Head read.header)) read.head; dir_is = read.dir_is; entries = read.entries; listed = more dir (Some (Page.Dir read.entries)) read.listed; bucket_is = read.bucket_is }

abbrev pub bucket_still : (bits : ℕ → ℕ) (root key : ℕ) (old new : View) (dir bucket : ℕ) (found : Option ℕ) → SeesMore old new → HasReadBucket bits root key old dir bucket found → HasReadBucket bits root key new dir bucket found
bucket_still bits root key old new dir bucket found more read = record { placed = place_still bits root key old new dir bucket more read.placed; fields = read.fields; at = more bucket (Some (Page.Bucket read.fields)) read.at; found_is = read.found_is }

-- the path of the key, once it is read
pub path_read : (bits : ℕ → ℕ) (root key : ℕ) (view : View) (dir bucket : ℕ) (found : Option ℕ) (clean : ℕ → Option Page) (read : HasReadBucket bits root key view dir bucket found) → Agrees view.seen clean → IsPath clean root (bits key) read.placed.header read.placed.entries bucket read.fields
path_read bits root key view dir bucket found clean read agree = record {
  head = agree root (Some (Page.Head read.placed.header)) read.placed.head;
  listed = sym (ap clean read.placed.dir_is) ∙ agree dir (Some (Page.Dir read.placed.entries)) read.placed.listed;
  at = sym read.placed.bucket_is;
  found = agree bucket (Some (Page.Bucket read.fields)) read.at;
}

-- **What was found of the key is on the clean pages.**
pub read_is_there : (bits : ℕ → ℕ) (root key : ℕ) (view : View) (dir bucket : ℕ) (found : Option ℕ) (clean : ℕ → Option Page) → HasReadBucket bits root key view dir bucket found → Agrees view.seen clean → found ≡ look_up bits clean root key
read_is_there bits root key view dir bucket found clean read agree =
    let led = led_at clean root (bits key) read.placed.header read.placed.entries bucket read.fields (path_read bits root key view dir bucket found clean read agree) in
    sym (ap (λ n. value_in key (buckets_of clean n).slots) led.0 ∙ ap (λ (b : BucketFields). value_in key b.slots) led.1 ∙ sym read.found_is)
