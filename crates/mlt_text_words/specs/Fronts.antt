-- What stands at the front of a text.
use Rattle.std.specs.Prelude.{◌≡◌, ◌<◌, ◌≤◌, ℕ, List, [], ◌∷◌, ◌++◌, length, nat_le, not, take_while, Some, Bool, true, false, ◌&&◌}
use Rattle.std.specs.List.{list_all}
use Rattle.mlt_text_words.specs.{declared.keyword.Word.Word, Numbers.is_digit, Numbers.number_of, Words.words_of}

-- 0x20 to 0x7E
abbrev pub is_printable : ℕ → Bool
is_printable byte = nat_le 32 byte && nat_le byte 126

-- what is known of a piece of a line: its words, that it is printable, and at most how long it is
abbrev pub TextIs : List ℕ → List Word → ℕ → Type 0
TextIs t ws n = (words_of t ≡ ws) × (list_all is_printable t ≡ true) × (length t ≤ n)

-- whether the text begins with a digit
abbrev pub begins_with_digit : List ℕ → Bool
begins_with_digit [] = false
begins_with_digit (b ∷ bs) = is_digit b

-- The text begins with 1 to 19 digits that write the number, and then comes the rest. They are all the digits that stand
-- there, or 19.
abbrev pub BeginsWithNumber : List ℕ → ℕ → List ℕ → Type 0
BeginsWithNumber text number rest =
    (digits : List ℕ)
    × (text ≡ digits ++ rest)
    × (list_all is_digit digits ≡ true)
    × (number_of digits ≡ Some number)
    × ((0 < length digits) × (length digits ≤ 19))
    × (begins_with_digit rest ≡ true → length digits ≡ 19)

-- the text begins with a piece of these words, at most so long, and then comes the rest
abbrev pub BeginsWithWords : List ℕ → List Word → ℕ → List ℕ → Type 0
BeginsWithWords text words n rest = (t : List ℕ) × (text ≡ t ++ rest) × TextIs t words n

-- a to z
abbrev pub is_letter : ℕ → Bool
is_letter byte = nat_le 97 byte && nat_le byte 122

-- any other byte
abbrev pub is_no_letter : ℕ → Bool
is_no_letter byte = not (nat_le 97 byte && nat_le byte 122)

-- the small letters at the front of a text, up to any other byte
abbrev pub front_letters : List ℕ → List ℕ
front_letters text = take_while is_letter text
