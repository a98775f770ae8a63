-- Conflicts over whole bases.
use Rattle.std.specs.Prelude.{◌≡◌}
use Rattle.mlt_object_kinds.specs.{declared.operation.ObjOp.ObjOp, declared.operation.ObjOp.TheVariants.Account, declared.operation.ObjOp.TheVariants.Element, declared.operation.ObjOp.TheVariants.Counter, declared.operation.ObjOp.TheVariants.Size, declared.operation.ObjReply.ObjReply, Bases.Base, Bases.Step, Operations.cell_of}
use Rattle.mlt_object_conflicts.specs.{AccountTable.account_class, CounterTable.counter_class, ElementTable.element_class, Sizes.tells_size, Tables.BreaksAt}

-- they are of one kind, and of one class or of none; of sizes, both tell one or none does
abbrev pub SameClass : ObjOp × ObjReply → ObjOp × ObjReply → Type 0
SameClass (Account a op, reply) (Account b other, answer) =
    account_class op reply ≡ account_class other answer
SameClass (Element s e op, reply) (Element t f other, answer) =
    element_class op reply ≡ element_class other answer
SameClass (Counter c op, reply) (Counter d other, answer) =
    counter_class op reply ≡ counter_class other answer
SameClass (Size s, reply) (Size t, answer) = tells_size reply ≡ tells_size answer
SameClass _ _ = ⊥

-- they are on one cell, and of one class or of none
abbrev pub IsLike : ObjOp × ObjReply → ObjOp × ObjReply → Type 0
IsLike one other = (cell_of one.0 ≡ cell_of other.0) × SameClass one other

-- in some base operations like these, one held and one requested, do not right commute backward
abbrev pub SomeLikeThemBreak : ObjOp × ObjReply → ObjOp × ObjReply → Type 0
SomeLikeThemBreak held requested =
    (base : Base) × (first : ObjOp × ObjReply) × (second : ObjOp × ObjReply) ×
    IsLike first held × IsLike second requested × BreaksAt Step base first second
