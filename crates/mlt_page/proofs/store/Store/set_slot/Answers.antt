use Rattle.std.proofs.Common.{sym}
use Rattle.mlt_page.proofs.Numbered.{slot_set}
use Rattle.mlt_page.proofs.store.Store.set_slot.Goals as goal

pub returns : goal.returns
returns c = record {
  set = slot_set c.self.inside.pages c.self.inside.max_pages c.number.inside.0 c.args.number c.args.at c.in-Some.page.now c.set_slot.new.self c.args.slot c.args.self.now c.self.view_is c.number.view_is (sym c.in-Some.ensures.value) c.set_slot.ensures.set;
}
