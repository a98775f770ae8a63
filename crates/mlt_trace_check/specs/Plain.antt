-- Lines of a trace of a plain form.
use Rattle.std.specs.Prelude.{◌≡◌, ◌<◌, ◌≤◌, ℕ, List, ◌∷◌, ◌++◌, length, true, Some}
use Rattle.std.specs.List.{list_all}
use Rattle.mlt_object_kinds.specs.declared.operation.{ObjOp.ObjOp, ObjReply.ObjReply}
use Rattle.mlt_text_words.specs.{Fronts.BeginsWithNumber, Fronts.is_printable, Lines.Raw, Lines.lines, Words.raw_words, Words.words_of}
use Rattle.mlt_trace.specs.declared.item.TraceItem.{TraceItem}
use Rattle.mlt_trace_check.specs.{declared.reading.TraceReading.TheVariants.Says, Readings.reading, Words.done_at}

-- what is known of a piece of a line: its words as their bytes, that it is printable, and at most how long it is
abbrev pub PieceIs : List ℕ → List (List ℕ) → ℕ → Type 0
PieceIs t ws n = (raw_words t ≡ ws) × (list_all is_printable t ≡ true) × (length t ≤ n)

-- the text begins with these bytes and a number from 1 on, and then comes the rest
abbrev pub BeginsWithNumbered : List ℕ → List ℕ → ℕ → List ℕ → Type 0
BeginsWithNumbered text bytes number rest =
    (middle : List ℕ) × (text ≡ bytes ++ middle) × BeginsWithNumber middle number rest × (0 < number)

-- the text begins with an operation and its reply, at most 90 printable bytes, and then comes the rest
abbrev pub BeginsWithDone : List ℕ → ObjOp × ObjReply → List ℕ → Type 0
BeginsWithDone text done rest =
    (t : List ℕ) × (text ≡ t ++ rest) × PieceIs t (raw_words t) 90 × (done_at (words_of t) ≡ Some done)

-- the first line of the text says the item, and then comes the rest
abbrev pub BeginsWithItem : List ℕ → TraceItem → List ℕ → Type 0
BeginsWithItem text item rest = (raw : Raw) × (lines text ≡ raw ∷ lines rest) × (Says item ≡ reading raw) × (length rest < length text)
