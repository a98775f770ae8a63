-- Numbers: 1 to 20 decimal digits, leading zeros among them, of a number below 2 ^ 64.
use Rattle.std.specs.Prelude.{ℕ, ◌^◌, List, length, Option, Some, None, nat_lt, nat_le, Bool, ◌&&◌, if◌then◌else◌}
use Rattle.std.specs.{List.list_all, Str.Parse.digits_value}

abbrev pub is_digit : ℕ → Bool
is_digit byte = nat_le 48 byte && nat_le byte 57

abbrev pub is_number : List ℕ → Bool
is_number word = (nat_lt 0 (length word) && nat_le (length word) 20) && (list_all is_digit word && nat_lt (digits_value 10 word) (2 ^ 64))

-- the number that the word writes, if it is one
unfoldable pub number_of : List ℕ → Option ℕ
number_of word = if is_number word then Some (digits_value 10 word) else None
