-- The texts of the items of a history: the lines of a trace.
use Rattle.std.specs.Prelude.{◌≡◌, ℕ, List, [], ◌∷◌, ◌++◌, codes, flat_map}
use Rattle.mlt_object_kinds.specs.{declared.operation.ObjOp.ObjOp, declared.operation.ObjReply.ObjReply, Texts.with_number, Texts.done_text}
use Rattle.mlt_trace.specs.declared.item.TraceItem.{TraceItem}
use Rattle.mlt_trace.specs.declared.item.TraceItem.TheVariants.{Begin, Op, Back, Commit, Abort}

-- the line of an item
abbrev pub item_text : TraceItem → List ℕ
item_text (Begin tx) = with_number (codes "begin") tx
item_text (Op tx done) = with_number (codes "op") tx ++ 32 ∷ done_text done
item_text (Back tx) = with_number (codes "back") tx
item_text (Commit tx n) = with_number (with_number (codes "commit") tx) n
item_text (Abort tx) = with_number (codes "abort") tx

-- the item tells that a transaction did this operation
abbrev pub TellsOf : TraceItem → ObjOp → Type 0
TellsOf item op = (tx : ℕ) × (reply : ObjReply) × (item ≡ Op tx (op, reply))

-- the text of the item and the end of its line
abbrev pub item_line : TraceItem → List ℕ
item_line item = item_text item ++ 10 ∷ []

-- a line for each item, in order
abbrev pub trace_text : List TraceItem → List ℕ
trace_text items = flat_map item_line items
