use Rattle.std.proofs.Common.{◌≡◌, ◌+◌, ◌≤◌, ◌^◌, ℕ, true, false, is_some, cond, ap, sym, subst, ◌∙◌, arith}
use Rattle.std.specs.FinMap as map
use Rattle.mlt_object_base.proofs.Names.{with_entry, element_entry, AreCounted, kept_size}
use Rattle.mlt_object_base.proofs.{Counting.Elements, Counting.elements_of, Counting.few_counted, Counting.still_counted, Maps.element_map_updated, elements.Elements.add.Goals.In_ok-insert, elements.Elements.add.Goals.In_ok-take_room}
use Rattle.mlt_object_base.proofs.elements.Elements.add.Goals as goal

-- room for a size changes none
counted : (c : In_ok-take_room) → AreCounted c.self.inside.keys.keys c.take_room.new.sizes.entries
counted c = (λ set. c.take_room.ensures.same set ∙ c.self.invariant.0 set, c.self.invariant.1)

-- the elements once one more was added
now : (c : In_ok-insert) → elements_of c.insert.new.self.keys ≡ with_entry (elements_of c.self.inside.keys.keys) (c.args.set, c.args.element) (element_entry true)
now c = element_map_updated c.self.inside.keys.keys c.insert.new.self.keys (c.args.set, c.args.element) true c.in_ok-insert.ensures.updates.0

pub raise-requires-clause-small : goal.raise-requires-clause-small
raise-requires-clause-small c =
    let few : kept_size c.take_room.new.sizes.entries c.args.set ≤ 2 ^ 32 =
    few_counted c.self.inside.keys.keys c.take_room.new.sizes.entries (counted (goal.at.raise-requires-clause-small c).In_ok-take_room) c.args.set
    in
    omega (arith, few)

pub invariant_of-self-2 : goal.invariant_of-self-2
invariant_of-self-2 c =
    let keys = c.self.inside.keys.keys in
    let absent : is_some (map.get (elements_of keys) (c.args.set, c.args.element)) ≡ false =
    subst (λ (m : Elements). is_some (map.get m (c.args.set, c.args.element)) ≡ false) (sym c.self.view_is) c.requires
    in
    let none = ap (λ b. cond {A = ℕ} b 1 0) absent in
    still_counted keys c.take_room.new.sizes.entries (counted (goal.at.invariant_of-self-2 c).In_ok-take_room) c.args.set c.args.element true
    c.insert.new.self.keys c.raise.new.sizes.entries (now (goal.at.invariant_of-self-2 c).In_ok-insert)
    (ap (λ n. kept_size c.raise.new.sizes.entries c.args.set + n) none ∙ omega (arith, c.raise.ensures.raised)) c.raise.ensures.others c.ranges.element.fits

pub returns-clause-set : goal.returns-clause-set
returns-clause-set c =
    now (goal.at.returns-clause-set c).In_ok-insert ∙ ap (λ (m : Elements). with_entry m (c.args.set, c.args.element) (element_entry true)) c.self.view_is
