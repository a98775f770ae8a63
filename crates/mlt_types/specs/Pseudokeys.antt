-- The two functions from a key's number to a pseudokey.
use Rattle.std.specs.Prelude.{ℕ, ◌*◌, ◌%◌, ◌^◌}

-- the number times an odd constant, modulo 2^64
abbrev pub mult_bits : ℕ → ℕ
mult_bits number = number * 0x9E3779B97F4A7C15 % 2 ^ 64

-- the lowest 16 bits of the number, as the highest ones; keys that agree in them collide
abbrev pub low_bits : ℕ → ℕ
low_bits number = number % 2 ^ 16 * 2 ^ 48
