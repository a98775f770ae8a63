-- Cells, and the numbers of their keys.
use Rattle.std.specs.Prelude.{ℕ, ◌+◌, ◌*◌, ◌^◌, ◌<◌}
use Rattle.mlt_types.specs.declared.cell.Cell.{Cell, TheVariants.Account, TheVariants.Element, TheVariants.Counter, TheVariants.Size}

-- the number of a cell's key, which no other cell has
abbrev pub key_number : Cell → ℕ
key_number (Account a) = 2 ^ 48 + a
key_number (Counter c) = 2 * 2 ^ 48 + c
key_number (Element s e) = 3 * 2 ^ 48 + s * 2 ^ 32 + e
key_number (Size s) = 4 * 2 ^ 48 + s

-- what a cell of the program can be: accounts, counters and elements have 32 bits, and sets 16
abbrev pub IsInRange : Cell → Type 0
IsInRange (Account a) = a < 2 ^ 32
IsInRange (Counter c) = c < 2 ^ 32
IsInRange (Element s e) = (s < 2 ^ 16) × (e < 2 ^ 32)
IsInRange (Size s) = s < 2 ^ 16
