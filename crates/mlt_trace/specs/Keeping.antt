-- Items as a history keeps them.
use Rattle.std.specs.Prelude.{ℕ}
use Rattle.mlt_object_kinds.specs.Packing.{op_of, reply_of}
use Rattle.mlt_trace.specs.declared.{item.TraceItem.TraceItem, kept.PackedForm.PackedForm}
use Rattle.mlt_trace.specs.declared.kept.PackedForm.TheVariants.{Begin, Op, OfSet, Back, Commit, Abort}

-- the item of a transaction that is kept in this form
abbrev pub item_in : ℕ → PackedForm → TraceItem
item_in tx Begin = TraceItem.Begin tx
item_in tx (Op op reply number amount told) = TraceItem.Op tx (op_of op 0 number amount, reply_of reply told)
item_in tx (OfSet op reply set number told) = TraceItem.Op tx (op_of op set number 0, reply_of reply told)
item_in tx Back = TraceItem.Back tx
item_in tx (Commit number) = TraceItem.Commit tx number
item_in tx Abort = TraceItem.Abort tx
