-- What a contract sees of a hash file
use Rattle.std.specs.Prelude.{ℕ, Option, None, Some, refl}
use Rattle.std.specs.{Ordering.nat_cmp, Coded.Coded, Coded.code_by, Coded.coded×, Coded.coded_ℕ}
use Rattle.std.specs.FinMap as map
use Rattle.mlt_page.specs.{contracts.page.Page.the_row, Stores.Pages, Stores.page_at}
use Rattle.mlt_types.specs.declared.refusal.Refusal.{Refusal}
use Rattle.mlt_hash_file.specs.{AloneWalks.IsHashFile, AloneWalks.RefusesFor, SplitPages.BoundedFile}

-- the pages of a hash file, the page of its header, how deep its directory may get and how many pages there may be, and
-- the function from keys to pseudokeys
pub record HashFileFields (P : Type 0) : Type 0 where
  pub pages : Pages
  pub root : ℕ
  pub max_depth : ℕ
  pub max_pages : ℕ
  pub pseudo : P

-- the pages of this file are a hash file, whose directory is no deeper than it may get
abbrev pub IsFileOf : {P : Type 0} → (P → ℕ → ℕ) → HashFileFields P → Type 0
IsFileOf bits_of file = IsHashFile (bits_of file.pseudo) (page_at file.pages) file.root file.max_depth

-- the file with its bounds: how deep its directory may get, and how many pages there may be
abbrev pub bounded_by : {P : Type 0} → (P → ℕ → ℕ) → HashFileFields P → BoundedFile
bounded_by bits_of file = record {
  bits = bits_of file.pseudo;
  has = page_at file.pages;
  pages = file.pages;
  root = file.root;
  max_depth = file.max_depth;
  max_pages = file.max_pages;
}

-- the records once a key has this value, or none
abbrev pub records_after : map.FinMap nat_cmp ℕ → ℕ → Option ℕ → map.FinMap nat_cmp ℕ
records_after records key (Some value) = map.insert records key value
records_after records key None = map.remove records key

-- why an addition of the key's record is refused: its bucket is full, and no split makes room, or
-- there may not be as many pages as that takes, or a growth was refused
abbrev pub Refuses : {P : Type 0} → (P → ℕ → ℕ) → HashFileFields P → ℕ → Refusal → Type 0
Refuses bits_of file key refusal = RefusesFor (bounded_by bits_of file) key refusal

-- a hash file is stored as the tuple of its fields
abbrev pub hash_file_code : {P : Type 0} → Coded P → Coded (HashFileFields P)
hash_file_code {P = P} pseudo =
    code_by (Pages × (ℕ × (ℕ × (ℕ × P))))
    (coded× (map.code coded_ℕ the_row.coded)
    (coded× coded_ℕ (coded× coded_ℕ (coded× coded_ℕ pseudo))))
    (λ f. (f.pages, (f.root, (f.max_depth, (f.max_pages, f.pseudo)))))
    (λ p. record {
      pages = p.0;
      root = p.1.0;
      max_depth = p.1.1.0;
      max_pages = p.1.1.1.0;
      pseudo = p.1.1.1.1;
    })
    (λ _. refl)
