-- Inputs that a reader gives whole.
use Rattle.std.specs.Prelude.{ℕ, ◌≤◌, List, length, Option}
use Rattle.std.specs.Io.KnownBytes.{Consumes, IsAtEnd}

-- From what a reader had before and has after: it gave the input, of at most 16,777,216 bytes, and
-- is at its end.
abbrev pub GivesWhole : Option (List ℕ) → Option (List ℕ) → List ℕ → Type 0
GivesWhole before after input = Consumes before after input × IsAtEnd after × (length input ≤ 16777216)
