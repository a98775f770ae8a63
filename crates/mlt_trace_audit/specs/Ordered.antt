-- Histories in which transactions begin under the numbers 1, 2, 3 and so on, and each item stands behind its begin.
use Rattle.std.specs.Prelude.{◌≡◌, ℕ, ◌+◌, ◌<◌, ◌≤◌, Bool, true, false, List, Some, slice_get, take}
use Rattle.mlt_trace.specs.{declared.item.TraceItem.TraceItem, Numbers.begin_count}
use Rattle.mlt_trace.specs.declared.item.TraceItem.TheVariants.{Begin, Op, Back, Commit, Abort}

-- the transaction of which the item is
abbrev pub tx_of : TraceItem → ℕ
tx_of (Begin tx) = tx
tx_of (Op tx done) = tx
tx_of (Back tx) = tx
tx_of (Commit tx number) = tx
tx_of (Abort tx) = tx

-- outcomes tell of it: it is an operation, or a close
abbrev pub is_told : TraceItem → Bool
is_told (Op tx done) = true
is_told (Commit tx number) = true
is_told (Abort tx) = true
is_told other = false

-- behind so many begins, the item is the next begin, or of a transaction that was begun
abbrev pub StandsBehind : ℕ → TraceItem → Type 0
StandsBehind begun (Begin tx) = tx ≡ begun + 1
StandsBehind begun item = (0 < tx_of item) × (tx_of item ≤ begun)

-- each item stands behind the begins before it: transactions begin under the numbers 1, 2, 3 and so
-- on
abbrev pub AreOrdered : List TraceItem → Type 0
AreOrdered items = (k : ℕ) (item : TraceItem) → slice_get items k ≡ Some item → StandsBehind (begin_count (take k items)) item
