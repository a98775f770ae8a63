use Rattle.std.proofs.Common.{◌≡◌, length, sym, ◌∙◌}
use Rattle.mlt_script.proofs.Parting.{lists, parted_none, parted_more, popped, turned_round}
use Rattle.mlt_script.proofs.clients.by_client.Goals as goal

pub loop-part-init : goal.loop-part-init
loop-part-init c = rw c.new-parts.ensures.items (parted_none c.args.scripts.items (lists c.fill.new.table.items) c.in_ok-fill.ensures)

pub loop-part-preserved : goal.loop-part-preserved
loop-part-preserved c =
    let l = c.loop-part in
    parted_more c.args.scripts.items (lists l.table.items) (lists c.pop.new.self.items) (lists l.parts.items) (lists c.push_part.new.parts.items) c.in-Some.part.items
    (popped l.table.items c.pop.new.self.items c.in-Some.part c.in-Some.ensures.items) c.in_ok-push_part.ensures l.invariant

pub returns-clause-parts : goal.returns-clause-parts
returns-clause-parts c =
    let l = c.loop-part in
    let none : length l.table.items ≡ 0 = sym l.table.ok.0 ∙ c.in_default.ensures.cases.0 in
    turned_round c.args.scripts.items l.table.items l.parts.items c.reverse.new.self.items none c.reverse.ensures.items l.invariant
