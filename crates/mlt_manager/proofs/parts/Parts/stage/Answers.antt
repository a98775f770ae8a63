use Rattle.std.proofs.Common.{sym, ap, ◌∙◌, option_copied}
use Rattle.mlt_manager.proofs.Names.{IsPending}
use Rattle.mlt_tx.specs.Transactions.{IsUndoing}
use Rattle.mlt_manager.proofs.Finding.{open_at}
use Rattle.mlt_manager.proofs.parts.Parts.stage.Goals as goal

pub returns-in-Idle : goal.returns-in-Idle
returns-in-Idle g c = record {
  one = c.in-Some.transaction.now;
  there = sym c.get.ensures ∙ ap option_copied c.in-Some.is;
  idle = c.state.ensures.idle c.in-Idle.is;
  counts = sym c.len.ensures;
}

pub returns-in-Pending : goal.returns-in-Pending
returns-in-Pending g c =
    open_at c.args.self.now.txs c.args.tx c.get.result c.in-Some.transaction IsPending c.get.ensures c.in-Some.is (c.state.ensures.pending c.in-Pending.is)

pub returns-in-Undoing : goal.returns-in-Undoing
returns-in-Undoing g c =
    open_at c.args.self.now.txs c.args.tx c.get.result c.in-Some.transaction IsUndoing c.get.ensures c.in-Some.is (c.state.ensures.undoing c.in-Undoing.is)
