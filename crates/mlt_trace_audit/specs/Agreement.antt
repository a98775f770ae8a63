-- Outcomes that agree with a history.
use Rattle.std.specs.Prelude.{◌≡◌, ◌≢◌, ℕ, List, ◌==◌, All, Contains, count_by}
use Rattle.mlt_trace.specs.{declared.item.TraceItem.TraceItem, Numbers.begun_txs}
use Rattle.mlt_script_serial.specs.declared.outcome.Outcome.{Outcome}
use Rattle.mlt_trace_audit.specs.Outcomes.{IsOfHistory, IsWithoutTx, RisesTo}

-- how many of the outcomes have this number
abbrev pub count_of : ℕ → List Outcome → ℕ
count_of tx outcomes = count_by (λ o. o.tx == tx) outcomes

-- the number is not 0, and stands in one of the outcomes
abbrev pub IsOnce : List Outcome → ℕ → Type 0
IsOnce outcomes tx = (tx ≢ 0) × (count_by (λ o. o.tx == tx) outcomes ≡ 1)

abbrev pub IsOfBegunTx : List TraceItem → Outcome → Type 0
IsOfBegunTx items o = o.tx ≢ 0 → Contains (begun_txs items) o.tx

-- the numbers of the outcomes, but for 0, differ, and are just those begun
pub record NumbersAgree (outcomes : List Outcome) (items : List TraceItem) : Type 0 where
  pub once : (tx : ℕ) → Contains (begun_txs items) tx → IsOnce outcomes tx
  pub begun : All (IsOfBegunTx items) outcomes

-- so they do, and each outcome tells the operations of its transaction, and how it was closed
abbrev pub AreOfHistory : List Outcome → List TraceItem → Type 0
AreOfHistory outcomes items = NumbersAgree outcomes items × All (IsOfHistory items) outcomes

-- committed outcomes of one client rise in commit number with the script number
abbrev pub CommitsRise : List Outcome → Type 0
CommitsRise outcomes = All (λ one. All (λ other. RisesTo one other) outcomes) outcomes

-- The outcomes are those of the history: each number that was begun stands in one of them, with its
-- operations and its end.
pub record Agrees (outcomes : List Outcome) (items : List TraceItem) : Type 0 where
  pub of_history : AreOfHistory outcomes items
  -- those without a number are refused and empty
  pub without_tx : All IsWithoutTx outcomes
  -- of two scripts of a client that committed, the later has the later commit
  pub rising : CommitsRise outcomes
