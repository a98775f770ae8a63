-- Whether an operation with its reply, requested later, clashes with one that is held.
use Rattle.std.specs.Prelude.{Bool, false, Option, Some, ◌==◌, ◌&&◌}
use Rattle.mlt_object_kinds.specs.declared.operation.{ObjOp.ObjOp, ObjOp.TheVariants.Account, ObjOp.TheVariants.Element, ObjOp.TheVariants.Counter, ObjOp.TheVariants.Size, ObjReply.ObjReply}
use Rattle.mlt_object_conflicts.specs.{AccountTable.account_class, AccountTable.account_marks, CounterTable.counter_class, CounterTable.counter_marks, ElementTable.element_class, ElementTable.element_marks, Sizes.changes_told}

-- both have a class, and the classes are marked
abbrev pub marked_classes : {C : Type 0} → (C → C → Bool) → Option C → Option C → Bool
marked_classes marks (Some held) (Some requested) = marks held requested
marked_classes marks _ _ = false

-- They are on one cell, and their classes are marked; or the one tells the size of a set, and the other changes it.
abbrev pub clashes : ObjOp × ObjReply → ObjOp × ObjReply → Bool
clashes (Account a op, reply) (Account b other, answer) =
    a == b && marked_classes account_marks (account_class op reply) (account_class other answer)
clashes (Element s e op, reply) (Element t f other, answer) =
    s == t && e == f
    && marked_classes element_marks (element_class op reply) (element_class other answer)
clashes (Counter c op, reply) (Counter d other, answer) =
    c == d && marked_classes counter_marks (counter_class op reply) (counter_class other answer)
clashes (Element s e op, reply) (Size t, answer) =
    s == t && changes_told (element_class op reply) answer
clashes (Size s, reply) (Element t f op, answer) =
    s == t && changes_told (element_class op answer) reply
clashes _ _ = false
