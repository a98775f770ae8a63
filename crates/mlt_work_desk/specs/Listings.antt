-- A list of the records of a manager, which is read bit by bit while its transactions go on
use Rattle.std.specs.Prelude.{ℕ, ◌≡◌, ◌≤◌, ◌+◌, ◌-◌, ◌%◌, ◌^◌, ◌==◌, nat_lt, if◌then◌else◌, List, [], ◌∷◌, ◌++◌, flat_map, map, Contains, Option, None, Some, option_to_list}
use Rattle.mlt_page.specs.{Bits.first_bits, declared.slot.Slot.Slot, declared.slot.Slot.TheVariants.Free, declared.slot.Slot.TheVariants.Live, declared.slot.Slot.TheVariants.Ghost}
use Rattle.mlt_manager.specs.{CleanBuckets.Finds, Managers.ManagerFields}
use Rattle.mlt_work_desk.specs.declared.listing.ListedRecord.{ListedRecord}

-- the place of a pseudokey: its first 32 bits
abbrev pub place_of : ℕ → ℕ
place_of x = first_bits 32 x

-- where a list goes on, which is behind all places where it does not
abbrev pub start_of : Option ℕ → ℕ
start_of None = 2 ^ 32
start_of (Some place) = place

-- the place behind those of the pseudokeys of a bucket, by its depth and one of these
abbrev pub place_behind : ℕ → ℕ → Option ℕ
place_behind place depth =
    let count = 2 ^ (32 - depth) in
    let behind = place - place % count + count in
    if nat_lt behind (2 ^ 32) then Some behind else None

-- the records of slots from this place on
abbrev pub record_in : (ℕ → ℕ) → ℕ → Slot → List ListedRecord
record_in bits place Free = []
record_in bits place (Live key value) =
    if nat_lt (place_of (bits key)) place then []
    else (record { key = key; value = value }) ∷ []
record_in bits place (Ghost key value owner) = []

abbrev pub records_in : (ℕ → ℕ) → ℕ → List Slot → List ListedRecord
records_in bits place slots = flat_map (record_in bits place) slots

-- the values that are told of a key
abbrev pub told_value : ℕ → ListedRecord → List ℕ
told_value key told = if told.key == key then told.value ∷ [] else []

abbrev pub told_values : ℕ → List ListedRecord → List ℕ
told_values key told = flat_map (told_value key) told

-- of each key whose place is from here on and before that, what is found is told, once; of others nothing
abbrev pub TellsFound : (ℕ → ℕ) → (ℕ → Option ℕ) → Option ℕ → Option ℕ → List ListedRecord → Type 0
TellsFound place found from next told = (key : ℕ) →
    told_values key told
    ≡ (if nat_lt (place key) (start_of from) then []
    else if nat_lt (place key) (start_of next) then option_to_list (found key) else [])

-- the records are added that operations find from here on up to there
pub record AddsRecords {P : Type 0} (bits_of : P → ℕ → ℕ) (m : ManagerFields P) (from : Option ℕ)
    (old new : List ListedRecord) (next : Option ℕ) : Type 0 where
  pub added : List ListedRecord
  pub list : new ≡ old ++ added
  pub tells : (found : ℕ → Option ℕ) → Finds bits_of m found
      → TellsFound (λ key. place_of (bits_of m.root.pseudo key)) found from next added
  pub goes_on : start_of from ≤ start_of next

-- one reading of a list: what was found of each key at that moment, from which place it went on, up to which, and what it told
pub record Reading : Type 0 where
  pub found : ℕ → Option ℕ
  pub from : Option ℕ
  pub next : Option ℕ
  pub told : List ListedRecord

-- the readings follow one another from here on up to there
abbrev pub AreReadings : (ℕ → ℕ) → Option ℕ → List Reading → Option ℕ → Type 0
AreReadings place from [] next = from ≡ next
AreReadings place from (reading ∷ rest) next =
    (from ≡ reading.from)
    × TellsFound place reading.found reading.from reading.next reading.told
    × (start_of reading.from ≤ start_of reading.next)
    × AreReadings place reading.next rest next

abbrev pub all_told : List Reading → List ListedRecord
all_told readings = flat_map (λ reading. reading.told) readings

-- the key is found at each of them
abbrev pub AreFound : ℕ → List Reading → Type 0
AreFound key [] = Unit {0}
AreFound key (reading ∷ rest) = ((value : ℕ) × (reading.found key ≡ Some value)) × AreFound key rest

-- the key is found at none of them
abbrev pub AreNotFound : ℕ → List Reading → Type 0
AreNotFound key [] = Unit {0}
AreNotFound key (reading ∷ rest) = (reading.found key ≡ None) × AreNotFound key rest

-- the key is told once, with a value that was found at one of them
abbrev pub TellsOne : ℕ → List Reading → Type 0
TellsOne key readings = (value : ℕ) × (told_values key (all_told readings) ≡ value ∷ [])
    × Contains (map (λ reading. reading.found key) readings) (Some value)
