-- What is said of an accepted trace.
use Rattle.std.specs.Prelude.{◌≡◌, ℕ, List, [], ◌∷◌, ◌++◌, Option, codes, flat_map}
use Rattle.mlt_text.specs.Inputs.{GivesWhole}
use Rattle.mlt_object_kinds.specs.{Bases.Base, Texts.with_number}
use Rattle.mlt_object_base.specs.BaseText.{base_text}
use Rattle.mlt_trace_check.specs.Traces.{IsAcceptedTrace}

-- the line of a committed transaction
abbrev pub serial_line : ℕ → List ℕ
serial_line tx = with_number (codes "serial") tx ++ 10 ∷ []

-- a line for each committed transaction, in the order of the commits
abbrev pub serial_lines : List ℕ → List ℕ
serial_lines txs = flat_map serial_line txs

-- the lines of the committed transactions, and then the text of the base
abbrev pub order_text : List ℕ → Base → List ℕ
order_text txs base = serial_lines txs ++ base_text base

-- the input is an accepted trace, and the text is that of its order and its base
abbrev pub IsCheckText : List ℕ → List ℕ → Type 0
IsCheckText input text = (txs : List ℕ) × (base : Base) × IsAcceptedTrace input txs base × (text ≡ order_text txs base)

-- a reader gave the input whole, and the text is what is said of it
abbrev pub IsCheckOf : Option (List ℕ) → Option (List ℕ) → List ℕ → List ℕ → Type 0
IsCheckOf before after input text = GivesWhole before after input × IsCheckText input text
