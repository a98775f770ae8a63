-- Histories that tell all that is in outcomes.
use Rattle.std.specs.Prelude.{◌≡◌, ◌≤◌, ℕ, List, All, Contains, map}
use Rattle.mlt_trace.specs.{Numbers.begun_txs, declared.item.TraceItem.TraceItem}
use Rattle.mlt_script_serial.specs.declared.outcome.{End.End, Outcome.Outcome}
use Rattle.mlt_trace_audit.specs.{Agreement.count_of, Outcomes.ops_of}
use Rattle.mlt_work_desk.specs.{Prefixes.times, Views.IsSubsequence}

-- the transactions of the outcomes, in their order
abbrev pub txs_of : List Outcome → List ℕ
txs_of outcomes = map (λ o. o.tx) outcomes

-- the transactions of the outcomes are those that were begun, each as often
abbrev pub HasBegunAll : List Outcome → List ℕ → Type 0
HasBegunAll outcomes begun = (tx : ℕ) → count_of tx outcomes ≡ times tx begun

module _ (items : List TraceItem) where
  -- it has committed under this number, if it has one
  abbrev pub TellsEnd : ℕ → End → Type 0
  TellsEnd tx (End.Committed number) = Contains items (TraceItem.Commit tx number)
  TellsEnd tx other = Unit {0}

  -- all that is in the outcome: that it has begun, its operations with their replies, in order, and its commit, if it has one
  pub record TellsAll (o : Outcome) : Type 0 where
    pub begun : Contains items (TraceItem.Begin o.tx)
    pub replies : IsSubsequence o.done (ops_of o.tx items)
    pub end : TellsEnd o.tx o.end

  -- there are such items for the outcome
  abbrev pub TellsOutcome : Outcome → Type 0
  TellsOutcome o = ∥ TellsAll o ∥₁

  -- there are such items for each of these outcomes
  abbrev pub TellsOutcomes : List Outcome → Type 0
  TellsOutcomes outcomes = All TellsOutcome outcomes

  -- no transaction has more outcomes than begins
  abbrev pub HaveBegun : List Outcome → Type 0
  HaveBegun outcomes = (tx : ℕ) → count_of tx outcomes ≤ times tx (begun_txs items)

  -- its close stands there: its commit under this number, or its abort
  abbrev pub HasClose : ℕ → End → Type 0
  HasClose tx (End.Committed number) = Contains items (TraceItem.Commit tx number)
  HasClose tx other = Contains items (TraceItem.Abort tx)

  -- the close of each of these outcomes stands there
  abbrev pub HaveCloses : List Outcome → Type 0
  HaveCloses outcomes = All (λ o. ∥ HasClose o.tx o.end ∥₁) outcomes
