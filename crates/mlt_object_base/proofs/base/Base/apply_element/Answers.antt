use Rattle.std.proofs.Common.{sym, ap, ◌∙◌}
use Rattle.mlt_object_base.proofs.Names.{with_entry, element_entry}
use Rattle.mlt_object_base.proofs.Steps.{step_to_element}
use Rattle.mlt_object_base.proofs.base.Base.apply_element.Goals as goal

pub returns-in-true-false-clause-step : goal.returns-in-true-false-clause-step
returns-in-true-false-clause-step c =
    let now = c.remove.ensures ∙ ap (λ p. with_entry c.self.inside.elements (c.args.set, c.args.element) (element_entry p)) (sym c.in-true-false.is-1) in
    step_to_element c.self.inside.accounts c.self.inside.elements c.remove.new.self c.self.inside.counters c.args.self.now c.args.set c.args.element c.args.op c.apply-after.result.1 c.has-before.result c.apply-after.result.0 c.self.view_is now c.has-before.ensures c.apply-after.ensures

pub returns-in_ok-add-in-false-true-clause-step : goal.returns-in_ok-add-in-false-true-clause-step
returns-in_ok-add-in-false-true-clause-step c =
    let now = c.in_ok-add-in-false-true.ensures.set ∙ ap (λ p. with_entry c.self.inside.elements (c.args.set, c.args.element) (element_entry p)) (sym c.in-false-true.is-1) in
    step_to_element c.self.inside.accounts c.self.inside.elements c.add.new.self c.self.inside.counters c.args.self.now c.args.set c.args.element c.args.op c.apply-after.result.1 c.has-before.result c.apply-after.result.0 c.self.view_is now c.has-before.ensures c.apply-after.ensures
