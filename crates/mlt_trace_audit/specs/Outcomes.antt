-- What a history has of a transaction, and the outcomes of transactions.
use Rattle.std.specs.Prelude.{◌≡◌, ◌≢◌, ℕ, ◌<◌, List, [], ◌∷◌, ◌==◌, if◌then◌else◌}
use Rattle.mlt_types.specs.declared.refusal.Refusal.{Refusal}
use Rattle.mlt_object_kinds.specs.declared.operation.{ObjOp.ObjOp, ObjReply.ObjReply}
use Rattle.mlt_trace.specs.declared.item.TraceItem.{TraceItem, TheVariants.Op, TheVariants.Commit, TheVariants.Abort}
use Rattle.mlt_script_serial.specs.declared.outcome.{End.End, End.TheVariants.Committed, End.TheVariants.Refused, Outcome.Outcome}

-- How a transaction was closed.
pub data Closing : Type 0 where
  -- by a commit of this number
  ByCommit : (number : ℕ) → Closing
  -- by an abort
  ByAbort : Closing

-- the operations that the transaction did, taken back or not, in order
abbrev pub ops_of : ℕ → List TraceItem → List (ObjOp × ObjReply)
ops_of tx [] = []
ops_of tx (Op i done ∷ items) = if i == tx then done ∷ ops_of tx items else ops_of tx items
ops_of tx (_ ∷ items) = ops_of tx items

-- how the transaction was closed, each time: in the history of a manager, once at most
abbrev pub closings_of : ℕ → List TraceItem → List Closing
closings_of tx [] = []
closings_of tx (Commit i number ∷ items) = if i == tx then ByCommit number ∷ closings_of tx items else closings_of tx items
closings_of tx (Abort i ∷ items) = if i == tx then ByAbort ∷ closings_of tx items else closings_of tx items
closings_of tx (_ ∷ items) = closings_of tx items

-- how a transaction is closed whose outcome has this end: by a commit of its number, or by an abort for any other end
abbrev pub closing_by : End → Closing
closing_by (Committed number) = ByCommit number
closing_by other = ByAbort

-- these items have of the transaction just these operations, and it is closed there once, as the end says
pub record IsClosedSo (tx : ℕ) (done : List (ObjOp × ObjReply)) (end : End) (items : List TraceItem) : Type 0 where
  pub ops : ops_of tx items ≡ done
  pub closed : closings_of tx items ≡ closing_by end ∷ []

-- these items have nothing of the transaction: no operation, and no close
pub record HasNothing (tx : ℕ) (items : List TraceItem) : Type 0 where
  pub ops : ops_of tx items ≡ []
  pub closed : closings_of tx items ≡ []

-- the outcome tells what the history has of its transaction
abbrev pub IsOfHistory : List TraceItem → Outcome → Type 0
IsOfHistory items o = o.tx ≢ 0 → IsClosedSo o.tx o.done o.end items

-- an outcome without a transaction is refused and empty
pub record IsRefusedEmpty (o : Outcome) : Type 0 where
  pub refused : (refusal : Refusal) × (o.end ≡ Refused refusal)
  pub empty : o.done ≡ []

abbrev pub IsWithoutTx : Outcome → Type 0
IsWithoutTx o = o.tx ≡ 0 → IsRefusedEmpty o

-- where both committed, of one client, the later script has the later commit
abbrev pub RisesTo : Outcome → Outcome → Type 0
RisesTo one other = (m n : ℕ) → one.end ≡ Committed m → other.end ≡ Committed n
    → one.client ≡ other.client → one.number < other.number → m < n
