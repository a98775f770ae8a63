use Rattle.std.proofs.Common.{◌≡◌, ◌+◌, ℕ, true, false, is_some, cond, ap, sym, subst, ◌∙◌, arith}
use Rattle.std.specs.FinMap as map
use Rattle.mlt_object_base.proofs.Names.{with_entry, element_entry, kept_size}
use Rattle.mlt_object_base.proofs.{Counting.Elements, Counting.elements_of, Counting.one_counted, Counting.still_counted, Maps.element_map_updated, elements.Elements.remove.Goals.After-remove}
use Rattle.mlt_object_base.proofs.elements.Elements.remove.Goals as goal

-- the element was there
there : (c : After-remove) → is_some (map.get (elements_of c.self.inside.keys.keys) (c.args.set, c.args.element)) ≡ true
there c = subst (λ (m : Elements). is_some (map.get m (c.args.set, c.args.element)) ≡ true) (sym c.self.view_is) c.requires

-- the elements once one was removed
now : (c : After-remove) → elements_of c.remove.new.self.keys ≡ with_entry (elements_of c.self.inside.keys.keys) (c.args.set, c.args.element) (element_entry false)
now c = element_map_updated c.self.inside.keys.keys c.remove.new.self.keys (c.args.set, c.args.element) false c.remove.ensures.updates.0

pub lower-requires : goal.lower-requires
lower-requires c =
    let one = one_counted c.self.inside.keys.keys c.self.inside.sizes.entries c.self.invariant c.args.set c.args.element (there (goal.at.lower-requires c).After-remove) in
    omega (arith, one)

pub invariant_of-self : goal.invariant_of-self
invariant_of-self c =
    let keys = c.self.inside.keys.keys in
    let one = ap (λ b. cond {A = ℕ} b 1 0) (there (goal.at.invariant_of-self c).After-remove) in
    still_counted keys c.self.inside.sizes.entries c.self.invariant c.args.set c.args.element false
    c.remove.new.self.keys c.lower.new.sizes.entries (now (goal.at.invariant_of-self c).After-remove)
    (ap (λ n. kept_size c.lower.new.sizes.entries c.args.set + n) one ∙ omega (arith, c.lower.ensures.lowered)) c.lower.ensures.others c.ranges.element.fits

pub returns : goal.returns
returns c =
    now (goal.at.returns c).After-remove ∙ ap (λ (m : Elements). with_entry m (c.args.set, c.args.element) (element_entry false)) c.self.view_is
