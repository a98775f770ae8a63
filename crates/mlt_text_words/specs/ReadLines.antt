-- What is said of a line that is read.
use Rattle.std.specs.Prelude.{◌≡◌, ◌<◌, ◌≤◌, length, true, false}
use Rattle.std.specs.List.{list_all}
use Rattle.mlt_text_words.specs.{declared.line.LineText.LineText, declared.line.LineText.TheVariants.TooLong, declared.line.LineText.TheVariants.Faulty, declared.line.LineText.TheVariants.Allowed, Lines.Raw, Lines.content, Lines.is_allowed}

-- the line is too long, or else one of its bytes is not allowed, or else all are
abbrev pub Tells : LineText → Raw → Type 0
Tells TooLong raw = 200 < length raw.bytes
Tells (Faulty line) raw = (length raw.bytes ≤ 200) × (line.now ≡ content raw) × (list_all is_allowed (content raw) ≡ false)
Tells (Allowed line ended) raw =
    (length raw.bytes ≤ 200) × (line.now ≡ content raw) × (list_all is_allowed (content raw) ≡ true) × (ended ≡ raw.ended)
