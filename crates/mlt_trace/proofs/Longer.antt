-- One more line
use Rattle.std.proofs.Common.{◌≡◌, ◌<◌, ◌∙◌, ◌++◌, ◌∷◌, [], ℕ, List, ap, refl, sym, append-nil, append_assoc}
use Rattle.mlt_trace.specs.{declared.item.TraceItem.TraceItem, Lines.AreLinesOf, Lines.spaced_line}

-- the line of one more item comes behind the others
pub lines_longer : (items : List TraceItem) (text : List ℕ) (item : TraceItem) (spaces : ℕ) → spaces < 96 → (new : List ℕ) → AreLinesOf items text → new ≡ text ++ spaced_line item spaces
    → AreLinesOf (items ++ item ∷ []) new
lines_longer [] text item spaces few new none is =
    (spaces, few, [], is ∙ ap (λ (t : List ℕ). t ++ spaced_line item spaces) none ∙ sym (append-nil (spaced_line item spaces)), refl)
lines_longer (first ∷ items) text item spaces few new (before, fits, rest, whole, more) is =
    let line = spaced_line item spaces in (
      before,
      fits,
      rest ++ line,
      is ∙ ap (λ (t : List ℕ). t ++ line) whole ∙ append_assoc (spaced_line first before) rest line,
      lines_longer items rest item spaces few (rest ++ line) more refl,
    )
