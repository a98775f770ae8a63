-- What the trace of a server gets.
use Rattle.std.specs.Prelude.{List, ℕ, Option}
use Rattle.std.specs.Io.KnownBytes.{Appends}
use Rattle.mlt_trace.specs.{Lines.AreLinesOf, declared.item.TraceItem.TraceItem}

-- a file gets lines of just these items
abbrev pub WritesLines : List TraceItem → Option (List ℕ) → Option (List ℕ) → Type 0
WritesLines items old new = (text : List ℕ) × AreLinesOf items text × Appends old new text
