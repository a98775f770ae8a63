-- Lines of HTTP.
use Rattle.std.specs.Prelude.{ℕ, List, Bool, ◌==◌, ◌||◌, codes}
use Rattle.std.specs.List.{ends_with}
use Rattle.mlt_text_words.specs.Lines.{without_cr}

abbrev pub ends_in : List ℕ → List ℕ → Bool
ends_in end line = ends_with (λ x y. x == y) (without_cr line) end

-- the line ends in the version of HTTP 1, and a space stands before that
abbrev pub ends_as_http : List ℕ → Bool
ends_as_http line = ends_in (codes " HTTP/1.0") line || ends_in (codes " HTTP/1.1") line
