-- The lines of an input.
use Rattle.std.specs.Prelude.{◌≡◌, ◌<◌, ◌≤◌, ℕ, List, [], ◌∷◌, ◌++◌, length, take, Option, Some, None, nat_lt, if◌then◌else◌, flat_map}
use Rattle.mlt_event_text.specs.{Commands.command_of, declared.session_line.SessionLine.SessionLine, declared.session_line.SessionLine.TheVariants.Says, declared.session_line.SessionLine.TheVariants.TooLong}
use Rattle.mlt_text_words.specs.Lines.{Raw, lines, without_cr}

-- a line of more than 200 bytes is too long, whether an LF ends it or not; bytes after the last LF are else no line
abbrev pub heard : Raw → List SessionLine
heard raw = if nat_lt 200 (length raw.bytes) then TooLong ∷ [] else (if raw.ended then Says (command_of (without_cr raw.bytes)) ∷ [] else [])

-- what the lines of an input ask
unfoldable pub lines_of : List ℕ → List SessionLine
lines_of bytes = flat_map heard (lines bytes)

-- the lines of an input that begins so are those of this prefix, and then those of the rest
abbrev pub Splits : List ℕ → Type 0
Splits prefix = (more : List ℕ) → lines_of (prefix ++ more) ≡ lines_of prefix ++ lines_of more

-- these are the first lines of the input
abbrev pub Begins : List ℕ → List SessionLine → Type 0
Begins bytes first = (rest : List SessionLine) × (lines_of bytes ≡ first ++ rest)

-- the line takes so many bytes, or it is too long
abbrev pub IsNext : List ℕ → SessionLine → ℕ → Type 0
IsNext text (Says command) count = (lines_of (take count text) ≡ Says command ∷ []) × Splits (take count text)
IsNext text TooLong count = Begins text (TooLong ∷ [])

-- the next line of the text, and how many bytes it takes; none where the line goes on behind the text
abbrev pub NextLine : List ℕ → Option (SessionLine × ℕ) → Type 0
NextLine text None = (lines_of text ≡ []) × (length text ≤ 200)
NextLine text (Some found) = (0 < found.1) × (found.1 ≤ length text) × IsNext text found.0 found.1
