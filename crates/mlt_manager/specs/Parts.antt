-- The parts of a manager, as a contract sees them
use Rattle.std.specs.Prelude.{ℕ}
use Rattle.mlt_tx.specs.{Transactions.IsPending, Tables.Table}
use Rattle.mlt_manager.specs.{declared.parts.Parts.Parts, declared.parts.TxStage.TxStage, Answers.IsIdleWith, Answers.IsNotOpen, Answers.IsOpenAt, Answers.IsUndoing, Managers.ManagerFields}

-- a manager as contracts see it, of its parts
abbrev pub fields_of : {P : Type 0} → Parts P → ManagerFields P
fields_of parts = record {
  max_open = parts.limits.max_open;
  max_ids = parts.limits.max_ids;
  max_pages = parts.limits.max_pages;
  max_ops = parts.limits.max_ops;
  root = parts.root;
  shared = parts.shared;
  txs = parts.txs;
  active = parts.active;
  begun = parts.begun;
  commits = parts.commits;
  events = parts.events;
}

-- what the transaction of this number is at
abbrev pub IsStageOf : TxStage → Table → ℕ → Type 0
IsStageOf TxStage.NotOpen txs tx = IsNotOpen txs tx
IsStageOf (TxStage.Idle count) txs tx = IsIdleWith txs tx count
IsStageOf TxStage.Pending txs tx = IsOpenAt txs tx IsPending
IsStageOf TxStage.Undoing txs tx = IsOpenAt txs tx IsUndoing
