-- What a descent reads: its next page, the mode of that page, and where it is once the page is read
use Rattle.std.specs.Prelude.{ℕ, ◌==◌, nat_le, Bool, true, false, if◌then◌else◌, slice_index}
use Rattle.mlt_types.specs.declared.mode.Mode.{Mode, TheVariants.Exclusive, TheVariants.Shared}
use Rattle.mlt_page.specs.{declared.page.Page.Page, Values.HeadFields}
use Rattle.mlt_hash_form.specs.{File.dir_of, File.place_of, File.row_of, Form.value_in}
use Rattle.mlt_hash_pair.specs.declared.descent.Descent.{Descent}

-- the page that a descent reads next, and its mode; at its bucket it is done
abbrev pub next_page : ℕ → Descent → ℕ
next_page root Descent.Start = root
next_page root (Descent.Headed place dir row) = dir
next_page root (Descent.Placed dir bucket) = bucket
next_page root (Descent.AtBucket dir bucket found) = bucket

abbrev pub next_mode : Descent → Mode
next_mode Descent.Start = Shared
next_mode (Descent.Headed place dir row) = Shared
next_mode (Descent.Placed dir bucket) = Exclusive
next_mode (Descent.AtBucket dir bucket found) = Exclusive

-- whether the first descent's next page is locked before the other's: the header, then the pages of the directory by their
-- places, then the buckets by their pages
abbrev pub is_before : Descent → Descent → Bool
is_before Descent.Start other = true
is_before (Descent.Headed place dir row) Descent.Start = false
is_before (Descent.Headed place dir row) (Descent.Headed place' dir' row') = nat_le place place'
is_before (Descent.Headed place dir row) (Descent.Placed dir' bucket') = true
is_before (Descent.Headed place dir row) (Descent.AtBucket dir' bucket' found') = true
is_before (Descent.Placed dir bucket) Descent.Start = false
is_before (Descent.Placed dir bucket) (Descent.Headed place' dir' row') = false
is_before (Descent.Placed dir bucket) (Descent.Placed dir' bucket') = nat_le bucket bucket'
is_before (Descent.Placed dir bucket) (Descent.AtBucket dir' bucket' found') = true
is_before (Descent.AtBucket dir bucket found) other = false

-- where the descent of a key is once it has read its next page
abbrev pub descent_by_header : (ℕ → ℕ) → ℕ → HeadFields → Descent
descent_by_header bits key header =
    Descent.Headed (place_of header (bits key)) (dir_of header (bits key)) (row_of header (bits key))

abbrev pub descent_by : (ℕ → ℕ) → ℕ → Descent → Page → Descent
descent_by bits key Descent.Start (Page.Head header) = descent_by_header bits key header
descent_by bits key (Descent.Headed place dir row) (Page.Dir entries) =
    Descent.Placed dir (slice_index entries row)
descent_by bits key (Descent.Placed dir bucket) (Page.Bucket fields) =
    Descent.AtBucket dir bucket (value_in key fields.slots)
descent_by bits key descent page = descent

-- and once page `number` is read, which may be its next one
abbrev pub descent_after : (ℕ → ℕ) → ℕ → ℕ → Descent → ℕ → Page → Descent
descent_after bits root key descent number page =
    if number == next_page root descent then descent_by bits key descent page else descent

-- the descent whose next page is locked first
abbrev pub next_descent : Descent → Descent → Descent
next_descent left right = if is_before left right then left else right
