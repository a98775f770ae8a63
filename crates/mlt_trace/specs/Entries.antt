-- The entry of an item, in a history of operations with their replies.
use Rattle.std.specs.Prelude.{List, [], ◌∷◌}
use Rattle.mlt_object_kinds.specs.declared.operation.{ObjOp.ObjOp, ObjReply.ObjReply}
use Rattle.mlt_order.specs.Histories.{Entry}
use Rattle.mlt_order.specs.Histories.Entry.{Begun, Did, TookBack, Committed, Closed}
use Rattle.mlt_trace.specs.declared.item.TraceItem.{TraceItem}
use Rattle.mlt_trace.specs.declared.item.TraceItem.TheVariants.{Begin, Op, Back, Commit, Abort}

-- the entry that an item is, in a history of operations with their replies
abbrev pub entry_of : TraceItem → Entry (ObjOp × ObjReply)
entry_of (Begin tx) = Begun tx
entry_of (Op tx done) = Did tx done
entry_of (Back tx) = TookBack tx
entry_of (Commit tx number) = Committed tx
entry_of (Abort tx) = Closed tx

-- the entries of all items, in order
abbrev pub entries_of : List TraceItem → List (Entry (ObjOp × ObjReply))
entries_of [] = []
entries_of (item ∷ items) = entry_of item ∷ entries_of items
