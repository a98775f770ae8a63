-- The table of elements is exact.
use Rattle.std.proofs.Common.{◌≡◌, true, false, refl, MatchBool}
use Rattle.mlt_object_conflicts.proofs.Names.{ElementStep, IsLegalOnElement, element_after, ElementClass, Added, element_class, element_marks, element_item, element_before, paired, IsOfClass, BreaksAt, ClassesConflict, ClassesCommute}
use Rattle.mlt_object_conflicts.proofs.ElementPairs.{Legal, after, Fits, amount, element_has_rows, element_rows_commute, element_rows_break}
use Rattle.mlt_object_conflicts.proofs.Rows.{classes_commute, classes_break}

pub element_classes_commute : (p q : ElementClass) → element_marks p q ≡ false → ClassesCommute ElementStep element_class p q
element_classes_commute p q free =
    classes_commute element_class IsLegalOnElement element_after amount Fits Legal after element_has_rows p q (element_rows_commute p q free)

item_class : (c : ElementClass) → IsOfClass element_class (element_item c) c
item_class c = elim c as (λ c. IsOfClass element_class (element_item c) c) [ Added ↦ refl | _ ↦ refl ]

abbrev pub BreachBreaks : ElementClass → ElementClass → Type 0
BreachBreaks p q =
    IsOfClass element_class (element_item p) p × IsOfClass element_class (element_item q) q ×
    BreaksAt (paired ElementStep) (element_before p) (element_item p) (element_item q)

pub element_breach_breaks : (p q : ElementClass) → element_marks p q ≡ true → BreachBreaks p q
element_breach_breaks p q marked = (
  item_class p,
  item_class q,
  classes_break element_class IsLegalOnElement element_after amount Fits Legal after element_has_rows p q (element_item p) (element_item q) (element_before p)
      (item_class p) (item_class q) tt tt (element_rows_break p q marked),
)

pub element_exact : (p q : ElementClass) → MatchBool (element_marks p q) (ClassesConflict ElementStep element_class p q) (ClassesCommute ElementStep element_class p q)
element_exact p q =
    elim (element_marks p q) as (λ b. element_marks p q ≡ b → MatchBool b (ClassesConflict ElementStep element_class p q) (ClassesCommute ElementStep element_class p q)) [
      | true ↦ λ marked. let t = element_breach_breaks p q marked in (element_before p, element_item p, element_item q, t.0, t.1, t.2)
      | false ↦ element_classes_commute p q
    ] refl
