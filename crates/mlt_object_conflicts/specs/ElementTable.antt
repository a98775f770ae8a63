-- The conflict table of elements of sets.
use Rattle.std.specs.Prelude.{Bool, true, false, Option, Some, None}
use Rattle.mlt_object_kinds.specs.declared.{element.ElementOp.ElementOp, element.ElementOp.TheVariants.Add, element.ElementOp.TheVariants.Remove, element.ElementOp.TheVariants.Has, operation.ObjReply.ObjReply}
use Rattle.mlt_object_conflicts.specs.declared.elements.ElementClass.{ElementClass}

-- the class of an operation with a reply, None where the table has no such row
abbrev pub element_class : ElementOp → ObjReply → Option ElementClass
element_class Add ObjReply.Added = Some ElementClass.Added
element_class Add ObjReply.Present = Some ElementClass.Present
element_class Remove ObjReply.Removed = Some ElementClass.Removed
element_class Remove ObjReply.Absent = Some ElementClass.Absent
element_class Has ObjReply.Yes = Some ElementClass.Yes
element_class Has ObjReply.No = Some ElementClass.No
element_class _ _ = None

-- the marked pairs, held first and then requested
abbrev pub element_marks : ElementClass → ElementClass → Bool
element_marks ElementClass.Added ElementClass.Present = true
element_marks ElementClass.Added ElementClass.Removed = true
element_marks ElementClass.Added ElementClass.Yes = true
element_marks ElementClass.Present ElementClass.Removed = true
element_marks ElementClass.Yes ElementClass.Removed = true
element_marks ElementClass.Removed ElementClass.Added = true
element_marks ElementClass.Removed ElementClass.Absent = true
element_marks ElementClass.Removed ElementClass.No = true
element_marks ElementClass.Absent ElementClass.Added = true
element_marks ElementClass.No ElementClass.Added = true
element_marks _ _ = false

-- the one operation of the class, with its reply
abbrev pub element_item : ElementClass → ElementOp × ObjReply
element_item ElementClass.Added = (Add, ObjReply.Added)
element_item ElementClass.Present = (Add, ObjReply.Present)
element_item ElementClass.Removed = (Remove, ObjReply.Removed)
element_item ElementClass.Absent = (Remove, ObjReply.Absent)
element_item ElementClass.Yes = (Has, ObjReply.Yes)
element_item ElementClass.No = (Has, ObjReply.No)

-- the one state in which the class is legal
abbrev pub element_before : ElementClass → Bool
element_before ElementClass.Added = false
element_before ElementClass.Present = true
element_before ElementClass.Removed = true
element_before ElementClass.Absent = false
element_before ElementClass.Yes = true
element_before ElementClass.No = false
