use Rattle.std.proofs.Common.{rules, ◌++◌, IsPermutation}
use Rattle.mlt_serve.proofs.Names.{first_items}
use Rattle.mlt_work_desk.specs.LogHandles.{begun_by}
use Rattle.mlt_serve.proofs.{Counting.both_begun, Telling.both_told}
use Rattle.mlt_serve.proofs.gathering.Gathered.take_in.Goals as goal

pub returns-clause-told : goal.returns-clause-told
returns-clause-told g c =
    let items = c.args.desks.now.state.manager.shared.history.items in
    let old = g.K.Receipts.receipts c.args.self.now.outcomes in
    let more = g.K.Receipts.receipts c.args.thread.outcomes in
    let new = g.K.Receipts.receipts c.take_in.new.self in
    λ have told.
    let same : IsPermutation (old ++ more) new = search rules in
    both_told items (first_items c.args.thread.snapshot) old more new c.compare.ensures.first same told c.args.thread.told

pub returns-clause-begun : goal.returns-clause-begun
returns-clause-begun g c =
    let old = g.K.Receipts.receipts c.args.self.now.outcomes in
    let more = g.K.Receipts.receipts c.args.thread.outcomes in
    let new = g.K.Receipts.receipts c.take_in.new.self in
    λ have had.
    let same : IsPermutation (old ++ more) new = search rules in
    both_begun old more new (begun_by c.args.begun.now) (begun_by c.compare.new.all) (begun_by c.args.thread.snapshot) same c.compare.ensures.begun c.args.thread.begun had
