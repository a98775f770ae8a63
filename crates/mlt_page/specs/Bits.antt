-- The bits of a pseudokey. It has 64 of them, and the first is its highest.
use Rattle.std.specs.Prelude.{ℕ, ◌+◌, ◌-◌, ◌/◌, ◌%◌, ◌^◌}

-- the first n bits, as a number
abbrev pub first_bits : ℕ → ℕ → ℕ
first_bits n x = x / 2 ^ (64 - n)

-- the bit at a place, counted from 0: the one behind the first n
abbrev pub bit_at : ℕ → ℕ → ℕ
bit_at n x = first_bits (n + 1) x % 2
