-- What a checker knows of the items that it went over, and what it answers to one more.
use Rattle.std.specs.Prelude.{◌≡◌, ◌≢◌, ℕ, ◌+◌, ◌≤◌, List, [], ◌∷◌, ◌++◌, length, Contains, true, false, Option, None, Some, Result, Ok, Err}
use Rattle.std.specs.BTreeMap as tree
use Rattle.std.specs.Ordering.{nat_cmp}
use Rattle.mlt_types.specs.declared.refusal.Refusal.{Refusal}
use Rattle.mlt_object_kinds.specs.Bases.{Step, empty_base}
use Rattle.mlt_order.specs.{Histories.Stage.Running, Runs.IsSerialBase}
use Rattle.mlt_trace.specs.{declared.item.TraceItem.TraceItem, declared.item.TraceItem.TheVariants.Op, declared.item.TraceItem.TheVariants.Back, Numbers.begun_txs, Numbers.commit_count}
use Rattle.mlt_trace_check.specs.{declared.checker.OpenTx.OpenTx, declared.checker.Checker.Checker, Refusing.IsRefusalBy, Replaying.DoneAt, Replaying.dones}
use Rattle.mlt_trace_check.specs.Traces.{HasPlace, IsItemFault, IsRunning, IsWhole, told}

-- each of the operations stands in its line, behind those before it
abbrev pub AreInLines : ℕ → List TraceItem → List DoneAt → Type 0
AreInLines tx items ops =
    (front rest : List DoneAt) (op : DoneAt) → ops ≡ front ++ op ∷ rest
    → (upto : List TraceItem) × (later : List TraceItem)
    × (items ≡ upto ++ Op tx op.1 ∷ later) × (op.0 ≡ length upto + 1) × ((told upto).transcripts tx ≡ dones front)

-- what is known of a running transaction
pub record KnowsRunning (one : OpenTx) (tx : ℕ) (items : List TraceItem) : Type 0 where
  pub running : IsRunning items tx
  pub begun : Contains (begun_txs items) tx
  pub ops : dones one.ops.items ≡ (told items).transcripts tx
  pub undoing : one.undoing ≡ true → Contains items (Back tx)
  pub whole : one.undoing ≡ false → IsWhole items tx
  pub lines : one.undoing ≡ false → AreInLines tx items one.ops.items

-- what is known of a transaction, where what runs is kept
abbrev pub KnowsTx : Option OpenTx → ℕ → List TraceItem → Type 0
KnowsTx None tx items = ((told items).stage tx ≢ Running) × ((told items).transcripts tx ≡ [])
KnowsTx (Some one) tx items = KnowsRunning one tx items

-- of the numbers that were begun, the greatest, if there is one
abbrev pub KnowsBegun : Option ℕ → List ℕ → Type 0
KnowsBegun None txs = (other : ℕ) → Contains txs other → ⊥
KnowsBegun (Some last) txs = ((other : ℕ) → Contains txs other → other ≤ last) × Contains txs last

-- a checker that went over these items
pub record Knows (checker : Checker) (items : List TraceItem) : Type 0 where
  pub open_txs : (tx : ℕ) → KnowsTx (tree.get nat_cmp checker.running tx) tx items
  pub begun : KnowsBegun checker.begun (begun_txs items)
  pub backs : (tx : ℕ) → Contains items (Back tx) → Contains (begun_txs items) tx
  pub commits : checker.commits ≡ commit_count items
  pub serial : IsSerialBase Step empty_base (told items).committed checker.base

-- a checker went over an item in the line of this number, or refused it
abbrev pub Takes : Result (Unit {0}) Refusal → Checker → Checker → ℕ → TraceItem → Type 0
Takes (Ok done) old new line item =
    (items : List TraceItem) → Knows old items → line ≡ length items + 1 → HasPlace items item × Knows new (items ++ item ∷ [])
Takes (Err refusal) old new line item = IsRefusalBy (λ n fault.
    (items : List TraceItem) → Knows old items → line ≡ length items + 1 → IsItemFault items old.base item n fault) refusal
