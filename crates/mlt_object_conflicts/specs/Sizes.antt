-- Which operations on elements change the size of their set, and what that means for those that ask for it.
use Rattle.std.specs.Prelude.{ℕ, Bool, true, false, Option, Some}
use Rattle.mlt_order.specs.Runs.{RightCommutesBackward}
use Rattle.mlt_types.specs.declared.cell.Cell.{Cell}
use Rattle.mlt_object_kinds.specs.{declared.element.ElementOp.ElementOp, declared.operation.ObjOp.ObjOp, declared.operation.ObjOp.TheVariants.Element, declared.operation.ObjOp.TheVariants.Size, declared.operation.ObjReply.ObjReply, declared.operation.ObjReply.TheVariants.Is, Bases.Base, Bases.Step, Bases.empty_base, Bases.with_state, Cells.CellState.ElementState}
use Rattle.mlt_object_conflicts.specs.{declared.elements.ElementClass.ElementClass, declared.elements.ElementClass.TheVariants.Added, declared.elements.ElementClass.TheVariants.Removed, declared.sizes.SizeExample.SizeExample, ElementTable.element_class, Tables.BreaksAt, Tables.IsOfClass}

-- an operation of the class changes the size of its set
abbrev pub counts : ElementClass → Bool
counts Added = true
counts Removed = true
counts _ = false

-- the reply tells a size
abbrev pub tells_size : ObjReply → Bool
tells_size (Is n) = true
tells_size _ = false

-- an operation of the class changes the size that the reply tells
abbrev pub changes_told : Option ElementClass → ObjReply → Bool
changes_told (Some class) (Is n) = counts class
changes_told _ _ = false

-- an operation on an element, and one that asks for the size of a set
abbrev pub on_element : ℕ → ℕ → ElementOp × ObjReply → ObjOp × ObjReply
on_element set element item = (Element set element item.0, item.1)

abbrev pub told_size : ℕ → ℕ → ObjOp × ObjReply
told_size set n = (Size set, Is n)

-- an operation of the class right commutes backward with each size that is told, and each size with it
abbrev pub CommutesWithSizes : ElementClass → Type 0
CommutesWithSizes class =
    (set element other n : ℕ) (item : ElementOp × ObjReply) → IsOfClass element_class item class →
    RightCommutesBackward Step (on_element set element item) (told_size other n) ×
    RightCommutesBackward Step (told_size other n) (on_element set element item)

-- From this base an operation on the element that takes the size of its set from one number to another does not right commute
-- backward with the one size, behind it, and the other size does not so with it.
abbrev pub BreaksSizes : Base → ℕ → ℕ → ElementOp × ObjReply → ℕ → ℕ → Type 0
BreaksSizes base set element item before after =
    BreaksAt Step base (on_element set element item) (told_size set after) ×
    BreaksAt Step base (told_size set before) (on_element set element item)

-- some operation of the class and sizes of its set break at some base
abbrev pub ConflictsWithSizes : ElementClass → Type 0
ConflictsWithSizes class =
    (base : Base) × (set : ℕ) × (element : ℕ) × (item : ElementOp × ObjReply) ×
    (before : ℕ) × (after : ℕ) ×
    IsOfClass element_class item class × BreaksSizes base set element item before after

-- the base that has this one element, or none
abbrev pub base_of_one : ℕ → ℕ → Bool → Base
base_of_one set element present =
    with_state empty_base (Cell.Element set element) (ElementState present)

-- the example's operation is of the class, and breaks with its sizes in each set that has no other element, at each element
abbrev pub IsSizeExample : ElementClass → SizeExample → Type 0
IsSizeExample class x =
    IsOfClass element_class (x.op, x.reply) class ×
    ((set element : ℕ) →
    BreaksSizes (base_of_one set element x.present) set element (x.op, x.reply) x.before x.after)
