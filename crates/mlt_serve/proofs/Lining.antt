-- Lines of items, one list after another.
use Rattle.std.proofs.Common.{◌≡◌, ◌∙◌, ℕ, List, [], ◌∷◌, ◌++◌, Option, ap, subst, sym, append_assoc, append-nil, length, take, drop, take-append-drop}
use Rattle.std.proofs.{lemmas.List.nil_from_length, KnownBytes.Appends-trans}
use Rattle.mlt_trace.specs.{declared.item.TraceItem.TraceItem, Lines.AddsLines, Lines.AreLinesOf, Lines.spaced_line}
use Rattle.mlt_serve.specs.TraceLines.{WritesLines}

lines_append : (items more : List TraceItem) (text rest : List ℕ) → AreLinesOf items text → AreLinesOf more rest → AreLinesOf (items ++ more) (text ++ rest)
lines_append [] more text rest none lines = subst (λ t. AreLinesOf more (t ++ rest)) (sym none) lines
lines_append (item ∷ items) more text rest (spaces, few, later, is, lines) others =
    (spaces, few, later ++ rest, (ap (λ t. t ++ rest) is ∙ append_assoc (spaced_line item spaces) later rest), lines_append items more later rest lines others)

-- after a block more lines were written
pub one_block : (all done rest : List TraceItem) (count bytes : ℕ) (a b c : Option (List ℕ)) → all ≡ done ++ rest → WritesLines done a b → AddsLines bytes (take count rest) b c
    → (more : List TraceItem) × (all ≡ more ++ drop count rest) × WritesLines more a c
one_block all done rest count bytes a b c is (text, lines, adds) block = (
  done ++ take count rest,
  (is ∙ ap (λ xs. done ++ xs) (sym (take-append-drop count rest)) ∙ sym (append_assoc done (take count rest) (drop count rest))),
  (text ++ block.text, lines_append done (take count rest) text block.text lines block.lines, Appends-trans a b c text block.text adds block.adds),
)

-- where none are left lines of all were written
pub all_written : (all done rest : List TraceItem) (a b : Option (List ℕ)) → all ≡ done ++ rest → length rest ≡ 0 → WritesLines done a b → WritesLines all a b
all_written all done rest a b is none written =
    subst (λ items. WritesLines items a b) (sym (is ∙ ap (λ xs. done ++ xs) (nil_from_length rest none) ∙ append-nil done)) written
