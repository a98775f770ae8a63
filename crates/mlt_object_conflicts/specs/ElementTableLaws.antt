-- Each class of elements has an operation that is told its reply in some state.
use Rattle.std.specs.Prelude.{true, false, refl}
use Rattle.mlt_object_kinds.specs.Elements.{ElementStep}
use Rattle.mlt_object_conflicts.specs.{declared.elements.ElementClass.ElementClass, ElementTable.element_class, ElementTable.element_item, Tables.HasLegalItem}
use Rattle.mlt_object_conflicts.specs.declared.elements.ElementClass.TheVariants.{Added, Present, Removed, Absent, Yes, No}

pub element_legal_item : (class : ElementClass) → HasLegalItem ElementStep element_class class
element_legal_item Added = (false, element_item Added, true, refl, (tt, refl))
element_legal_item Present = (true, element_item Present, true, refl, (tt, refl))
element_legal_item Removed = (true, element_item Removed, false, refl, (tt, refl))
element_legal_item Absent = (false, element_item Absent, false, refl, (tt, refl))
element_legal_item Yes = (true, element_item Yes, true, refl, (tt, refl))
element_legal_item No = (false, element_item No, false, refl, (tt, refl))
