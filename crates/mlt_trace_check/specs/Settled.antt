-- Lines of which more of the input changes nothing.
use Rattle.std.specs.Prelude.{◌≡◌, ◌⊎◌, ◌<◌, length, true}
use Rattle.mlt_text_words.specs.Lines.{Raw}

-- an LF ends the line, or it is too long already
abbrev pub IsSettled : Raw → Type 0
IsSettled raw = (raw.ended ≡ true) ⊎ (200 < length raw.bytes)
