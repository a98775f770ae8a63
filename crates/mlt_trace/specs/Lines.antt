-- Lines of a trace, with spaces before their ends, that keep to the blocks of a file
use Rattle.std.specs.Prelude.{ℕ, ◌≡◌, ◌<◌, ◌≤◌, ◌⊎◌, ◌+◌, ◌-◌, ◌%◌, List, [], ◌∷◌, ◌++◌, length, replicate}
use Rattle.std.specs.{Io.KnownBytes.Appends, declared.option.Option.Option}
use Rattle.mlt_trace.specs.{declared.item.TraceItem.TraceItem, Items.item_text}

-- the line of an item, with so many spaces before its end
abbrev pub spaced_line : TraceItem → ℕ → List ℕ
spaced_line item spaces = item_text item ++ (replicate spaces 32 ++ 10 ∷ [])

-- a line for each item, in order, each with fewer than 96 spaces before its end
abbrev pub AreLinesOf : List TraceItem → List ℕ → Type 0
AreLinesOf [] text = text ≡ []
AreLinesOf (item ∷ items) text =
    (spaces : ℕ) × (spaces < 96) × (rest : List ℕ) × (text ≡ spaced_line item spaces ++ rest)
    × AreLinesOf items rest

-- how many bytes are left in the block in which a file of so many bytes goes on
abbrev pub left_in_block : ℕ → ℕ
left_in_block bytes = 4096 - bytes % 4096

-- of what is left of a block so many bytes are used: all, or so few that any line has room behind them
abbrev pub KeepsToBlock : ℕ → ℕ → Type 0
KeepsToBlock left used = (used ≡ left) ⊎ (used + 96 ≤ left)

-- A file of so many bytes gets lines of these items. Where any line had room in its block, none goes over the end of that, and so it is
-- for the next ones.
pub record AddsLines (bytes : ℕ) (items : List TraceItem) (old new : Option (List ℕ)) : Type 0 where
  pub text : List ℕ
  pub lines : AreLinesOf items text
  pub keeps : 96 ≤ left_in_block bytes → KeepsToBlock (left_in_block bytes) (length text)
  pub adds : Appends old new text
