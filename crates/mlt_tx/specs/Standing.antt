-- What stands of the open transactions.
use Rattle.std.specs.Prelude.{ℕ, List, [], Option, None, Some}
use Rattle.std.specs.FinMap as map
use Rattle.mlt_order.specs.Interleavings.{UndoneTo}
use Rattle.mlt_object_kinds.specs.{Bases.Base, Bases.Step, Bases.TranscriptLeads, declared.operation.ObjOp.ObjOp, declared.operation.ObjReply.ObjReply}
use Rattle.mlt_tx.specs.{declared.transaction.Transaction.Transaction, Tables.Table}

-- what a transaction did and has not taken back, in order, if it is open
abbrev pub entries_of : Option Transaction → List (ObjOp × ObjReply)
entries_of None = []
entries_of (Some one) = one.undo.entries

-- the same, by the numbers of the transactions
abbrev pub standing_in : Table → ℕ → List (ObjOp × ObjReply)
standing_in table tx = entries_of (map.get table tx)

-- this list leads to a state from the base that is left where all that stands is undone
abbrev pub LeadsFromLeft : Table → List (ObjOp × ObjReply) → Type 0
LeadsFromLeft table done =
    (left state : Base) → UndoneTo Step left (standing_in table) state
    → TranscriptLeads left done state
