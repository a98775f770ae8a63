use Rattle.std.proofs.Common.{arith, subst, sym}
use Rattle.mlt_trace.proofs.Names.{FitsItem}
use Rattle.mlt_trace.proofs.Fitting.{one_more_kept_fits}
use Rattle.mlt_trace.proofs.history.History.push.Goals as goal

pub invariant_of-self : goal.invariant_of-self
invariant_of-self c =
    let was = c.self.invariant in
    let room = was.0 in
    let len = c.push_reserved.ensures.len in
    let capacity = c.push_reserved.ensures.capacity in
    let fits : FitsItem c.of.result = subst FitsItem (sym c.of.ensures) c.item_fits.ensures in
    (omega (arith, room, len, capacity, c.requires), was.1, was.2, one_more_kept_fits c.self.inside.handed_out.items c.self.inside.kept.items c.push_reserved.new.self.items c.of.result c.push_reserved.ensures.items fits was.3)
