use Rattle.mlt_tx.proofs.Images.{kept_in_table, none_in_table}
use Rattle.mlt_tx.proofs.table.OpenTransactions.first_image.Goals as goal

pub returns-clause-kept : goal.returns-clause-kept
returns-clause-kept c = kept_in_table c.self.inside.slots.items c.deref.result.now c.args.self.now c.self.inside.taken c.args.page c.image_in.result c.self.invariant c.self.view_is c.deref.ensures.value c.image_in.ensures.kept

pub returns-clause-none : goal.returns-clause-none
returns-clause-none c = none_in_table c.self.inside.slots.items c.deref.result.now c.args.self.now c.args.page c.image_in.result c.self.view_is c.deref.ensures.value c.image_in.ensures.none
