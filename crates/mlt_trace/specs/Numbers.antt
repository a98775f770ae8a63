-- The numbers that stand in the items of a history.
use Rattle.std.specs.Prelude.{◌≡◌, ℕ, ◌+◌, List, [], ◌∷◌, length}
use Rattle.mlt_trace.specs.declared.item.TraceItem.{TraceItem, TheVariants.Begin, TheVariants.Commit}

-- the numbers are this one, the next one, and so on
abbrev pub CountsFrom : ℕ → List ℕ → Type 0
CountsFrom number [] = Unit {0}
CountsFrom number (one ∷ others) = (one ≡ number) × CountsFrom (number + 1) others

-- the transactions that were begun, in order
abbrev pub begun_txs : List TraceItem → List ℕ
begun_txs [] = []
begun_txs (Begin tx ∷ items) = tx ∷ begun_txs items
begun_txs (_ ∷ items) = begun_txs items

-- the committed order: the transactions that committed, in the order of their commits
abbrev pub committed_txs : List TraceItem → List ℕ
committed_txs [] = []
committed_txs (Commit tx number ∷ items) = tx ∷ committed_txs items
committed_txs (_ ∷ items) = committed_txs items

-- the numbers of the commits, in order
abbrev pub commit_numbers : List TraceItem → List ℕ
commit_numbers [] = []
commit_numbers (Commit tx number ∷ items) = number ∷ commit_numbers items
commit_numbers (_ ∷ items) = commit_numbers items

-- how many transactions were begun, and how many committed
abbrev pub begin_count : List TraceItem → ℕ
begin_count items = length (begun_txs items)

abbrev pub commit_count : List TraceItem → ℕ
commit_count items = length (commit_numbers items)

-- transactions begin under the numbers 1, 2, 3 and so on
abbrev pub AreBegunInOrder : List TraceItem → Type 0
AreBegunInOrder items = CountsFrom 1 (begun_txs items)

-- commits have the numbers 1, 2, 3 and so on
abbrev pub AreCounted : List TraceItem → Type 0
AreCounted items = CountsFrom 1 (commit_numbers items)
