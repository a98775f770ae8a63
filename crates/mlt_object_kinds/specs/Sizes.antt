-- What operations do to the sizes of sets.
use Rattle.std.specs.Prelude.{ℕ, if◌then◌else◌, ◌==◌}
use Rattle.mlt_object_kinds.specs.declared.{element.ElementOp.TheVariants.Add, element.ElementOp.TheVariants.Remove, operation.ObjOp.ObjOp, operation.ObjOp.TheVariants.Element, operation.ObjReply.ObjReply, operation.ObjReply.TheVariants.Added, operation.ObjReply.TheVariants.Removed}

-- how many elements an operation with its reply puts into a set
abbrev pub put_into : ℕ → ObjOp × ObjReply → ℕ
put_into set (Element s e Add, Added) = if s == set then 1 else 0
put_into set _ = 0

-- how many elements an operation with its reply takes out of a set
abbrev pub taken_from : ℕ → ObjOp × ObjReply → ℕ
taken_from set (Element s e Remove, Removed) = if s == set then 1 else 0
taken_from set _ = 0
