use Rattle.mlt_order.proofs.FirstItems
use Rattle.mlt_order.proofs.laws.interleavings_take_first_items.Goals as goal

pub returns : goal.returns
returns g c = FirstItems.interleavings_take_first_items
