use Rattle.std.proofs.Common.{ap, sym, ◌∙◌}
use Rattle.std.specs.FinMap as map
use Rattle.mlt_tx.proofs.table.OpenTransactions.len.Goals as goal

pub returns : goal.returns
returns c = c.self.invariant.counted ∙ sym c.self.invariant.one_each ∙ ap map.len c.self.view_is
