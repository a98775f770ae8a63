-- What a write that may stop early adds to the bytes that a writer holds.
use Rattle.std.specs.Prelude.{◌≡◌, ℕ, List, ◌++◌}
use Rattle.std.specs.{Io.KnownBytes.Appends, declared.option.Option.Option}

-- The writer holds what it held before and then a prefix of the text, where its bytes are known.
abbrev pub AppendsFront : Option (List ℕ) → Option (List ℕ) → List ℕ → Type 0
AppendsFront old new text = (front : List ℕ) × (rest : List ℕ) × (text ≡ front ++ rest) × Appends old new front
