use Rattle.std.proofs.Common.{◌∙◌, ap}
use Rattle.std.specs.FinSet.{from_list}
use Rattle.mlt_types.proofs.Numbers.{taken_out, not_taken_out}
use Rattle.mlt_types.proofs.open_set.OpenSet.remove.Goals as goal

pub returns-in-Some : goal.returns-in-Some
returns-in-Some c =
    ap from_list c.remove.ensures.items
    ∙ taken_out c.deref.result.now c.self.inside.numbers.items c.args.self.now c.id.inside.0 c.args.id c.in-Some.place c.deref.ensures.0 c.self.view_is c.id.view_is c.in-Some.ensures c.self.invariant

pub returns-in_default : goal.returns-in_default
returns-in_default c =
    not_taken_out c.deref.result.now c.self.inside.numbers.items c.args.self.now c.id.inside.0 c.args.id c.deref.ensures.0 c.self.view_is c.id.view_is c.in_default.ensures
