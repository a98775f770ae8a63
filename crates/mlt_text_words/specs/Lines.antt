-- The lines of a text.
use Rattle.std.specs.Prelude.{ℕ, ◌-◌, List, [], ◌∷◌, length, nat_lt, nat_le, ◌==◌, Bool, true, false, ◌&&◌, ◌||◌, slice_index, take, not, if◌then◌else◌}
use Rattle.mlt_text_words.specs.Words.{is_blank}

-- the bytes before the LF, a CR among them, and whether an LF ends them
pub record Raw : Type 0 where
  pub bytes : List ℕ
  pub ended : Bool

-- one more byte before the first line
abbrev pub onto : ℕ → List Raw → List Raw
onto b [] = record { bytes = b ∷ []; ended = false } ∷ []
onto b (raw ∷ raws) = record { bytes = b ∷ raw.bytes; ended = raw.ended } ∷ raws

abbrev pub is_lf : ℕ → Bool
is_lf byte = byte == 10

-- a line goes up to its LF; bytes after the last LF are a line too
unfoldable pub lines : List ℕ → List Raw
lines [] = []
lines (b ∷ bs) = if is_lf b then record { bytes = []; ended = true } ∷ lines bs else onto b (lines bs)

-- the line without a CR at its end
abbrev pub without_cr : List ℕ → List ℕ
without_cr bytes = if nat_lt 0 (length bytes) && (slice_index bytes (length bytes - 1) == 13) then take (length bytes - 1) bytes else bytes

-- the line without a CR just before its LF
abbrev pub content : Raw → List ℕ
content raw = if raw.ended then without_cr raw.bytes else raw.bytes

-- whether the first byte after spaces and tabs is a #
abbrev pub is_comment : List ℕ → Bool
is_comment [] = false
is_comment (b ∷ bs) = if is_blank b then is_comment bs else b == 35

-- a tab, or 0x20 to 0x7E
abbrev pub is_allowed : ℕ → Bool
is_allowed byte = byte == 9 || (nat_le 32 byte && nat_le byte 126)

-- any other byte than 0x20 to 0x7E
abbrev pub is_unprintable : ℕ → Bool
is_unprintable byte = not (nat_le 32 byte && nat_le byte 126)
