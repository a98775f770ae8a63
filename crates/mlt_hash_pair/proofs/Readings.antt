-- What a descent has read, as more pages are read
use Rattle.std.proofs.Common.{◌≡◌, ℕ, Some, slice_index, refl, sym, ap, ◌∙◌, ◌==◌, eqb-true}
use Rattle.mlt_hash_pair.proofs.Names.{cond_both, Page, View, SeesMore, next_page, descent_after, descent_by, HasRead, Descent}
use Rattle.mlt_hash_access.proofs.Reading.{bucket_still, place_still}
use Rattle.mlt_hash_pair.specs.Descents.{IsHeaded}

-- what the header says stays read as more is seen
headed_still : (bits : ℕ → ℕ) (root key : ℕ) (old new : View) (place dir row : ℕ) → SeesMore old new → IsHeaded bits root key old place dir row → IsHeaded bits root key new place dir row
headed_still bits root key old new place dir row more read = record { header = read.header; head = more root (Some (Page.Head read.header)) read.head; place_is = read.place_is; dir_is = read.dir_is; row_is = read.row_is }

-- **What a descent has read stays so as more is seen.**
pub read_still : (bits : ℕ → ℕ) (root key : ℕ) (old new : View) (descent : Descent) → SeesMore old new → HasRead bits root key old descent → HasRead bits root key new descent
read_still bits root key old new Descent.Start more read = tt
read_still bits root key old new (Descent.Headed place dir row) more read = headed_still bits root key old new place dir row more read
read_still bits root key old new (Descent.Placed dir bucket) more read = place_still bits root key old new dir bucket more read
read_still bits root key old new (Descent.AtBucket dir bucket found) more read = bucket_still bits root key old new dir bucket found more read

module _ (bits : ℕ → ℕ) (root key : ℕ) (old new : View) (more : SeesMore old new) where
  -- a descent that reads its next page has read it
  read_by : (descent : Descent) (read : Page) → new.seen (next_page root descent) ≡ Some (Some read) → HasRead bits root key old descent → HasRead bits root key new (descent_by bits key descent read)
  read_by Descent.Start (Page.Head header) sees was = record { header = header; head = sees; place_is = refl; dir_is = refl; row_is = refl }
  read_by Descent.Start (Page.Dir entries) sees was = tt
  read_by Descent.Start (Page.Bucket fields) sees was = tt
  read_by (Descent.Headed place dir row) (Page.Dir entries) sees was = record { header = was.header; head = more root (Some (Page.Head was.header)) was.head; dir_is = was.dir_is; entries = entries; listed = sees; bucket_is = ap (slice_index entries) was.row_is }
  read_by (Descent.Headed place dir row) (Page.Head header) sees was = headed_still bits root key old new place dir row more was
  read_by (Descent.Headed place dir row) (Page.Bucket fields) sees was = headed_still bits root key old new place dir row more was
  read_by (Descent.Placed dir bucket) (Page.Bucket fields) sees was = record { placed = place_still bits root key old new dir bucket more was; fields = fields; at = sees; found_is = refl }
  read_by (Descent.Placed dir bucket) (Page.Head header) sees was = place_still bits root key old new dir bucket more was
  read_by (Descent.Placed dir bucket) (Page.Dir entries) sees was = place_still bits root key old new dir bucket more was
  read_by (Descent.AtBucket dir bucket found) read sees was = done read
    where
      done : (read : Page) → HasRead bits root key new (descent_by bits key (Descent.AtBucket dir bucket found) read)
      done (Page.Head header) = read_still bits root key old new (Descent.AtBucket dir bucket found) more was
      done (Page.Dir entries) = read_still bits root key old new (Descent.AtBucket dir bucket found) more was
      done (Page.Bucket fields) = read_still bits root key old new (Descent.AtBucket dir bucket found) more was

  -- **Once a page is read, a descent has read what it says.**
  pub read_after : (descent : Descent) (q : ℕ) (read : Page) → new.seen q ≡ Some (Some read) → HasRead bits root key old descent → HasRead bits root key new (descent_after bits root key descent q read)
  read_after descent q read sees was =
      cond_both (q == next_page root descent) (descent_by bits key descent read) descent (HasRead bits root key new)
      (λ here. read_by descent read (ap new.seen (sym (eqb-true q (next_page root descent) here)) ∙ sees) was)
      (λ elsewhere. read_still bits root key old new descent more was)
