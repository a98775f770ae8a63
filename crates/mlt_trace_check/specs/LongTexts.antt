-- What is said of a trace that is checked as it is read.
use Rattle.std.specs.Prelude.{◌⊎◌, ℕ, List, ◌++◌, Option, IfSome}
use Rattle.std.specs.Io.KnownBytes.{Consumes, IsAtEnd}
use Rattle.mlt_types.specs.declared.refusal.TraceCause.{TraceCause}
use Rattle.mlt_text.specs.Texts.{AppendsFront}
use Rattle.mlt_object_kinds.specs.Bases.{Base}
use Rattle.mlt_trace_check.specs.{OrderTexts.IsCheckText, OrderTexts.serial_lines, Traces.IsAcceptedTrace, Traces.IsFirstFault}

-- the bytes that a reader has left, or that a writer took, where these are known
abbrev pub KnownBytes : Type 0
KnownBytes = Option (List ℕ)

-- a reader gave all its input, of any length, and is at its end
abbrev pub GivesAll : KnownBytes → KnownBytes → List ℕ → Type 0
GivesAll before after input = Consumes before after input × IsAtEnd after

-- a reader gave all its input, and the text is what is said of it
abbrev pub IsLongCheckOf : KnownBytes → KnownBytes → List ℕ → List ℕ → Type 0
IsLongCheckOf before after input text = GivesAll before after input × IsCheckText input text

-- the fault is the first one of what was read, and also of that and what the reader has left, where this is known
abbrev pub IsFirstFaultRead : KnownBytes → KnownBytes → ℕ → TraceCause → Type 0
IsFirstFaultRead before after line cause =
    (taken : List ℕ) × Consumes before after taken × IsFirstFault taken line cause
    × IfSome after (λ left. IsFirstFault (taken ++ left) line cause)

-- a front of what was read is a trace, and the writer got a prefix of its `serial` lines
abbrev pub WritesOfFront : KnownBytes → KnownBytes → KnownBytes → KnownBytes → Type 0
WritesOfFront before after old new =
    (front : List ℕ) × (rest : List ℕ) × (txs : List ℕ) × (base : Base)
    × Consumes before after (front ++ rest)
    × IsAcceptedTrace front txs base × AppendsFront old new (serial_lines txs)

-- all that was read is a trace, and the writer got a prefix of what is said of it
abbrev pub WritesOfAll : KnownBytes → KnownBytes → KnownBytes → KnownBytes → Type 0
WritesOfAll before after old new =
    (input : List ℕ) × (text : List ℕ)
    × IsLongCheckOf before after input text × AppendsFront old new text

-- what was written is of a front of the input, or of all of it
abbrev pub StopsEarly : KnownBytes → KnownBytes → KnownBytes → KnownBytes → Type 0
StopsEarly before after old new =
    WritesOfFront before after old new ⊎ WritesOfAll before after old new
