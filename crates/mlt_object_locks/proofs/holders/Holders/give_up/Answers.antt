use Rattle.std.proofs.Common.{◌≢◌, ◌≡◌, rules, ◌∙◌, ap, sym, subst, filter}
use Rattle.mlt_object_locks.proofs.Names.{AllPairs-filter, is_not_idle_of}
use Rattle.mlt_object_locks.{specs.Holders.AreWithin, proofs.Covering.covers_fewer, proofs.Membership.contains_filtered, proofs.Membership.filter-from_retain}
use Rattle.mlt_object_locks.proofs.holders.Holders.give_up.Goals as goal

given_up : (c : goal.After-retain) → c.retain.new.self.items ≡ filter (is_not_idle_of c.args.tx) c.self.inside.holders.items
given_up c = filter-from_retain _ (is_not_idle_of c.args.tx) _ (λ x b g y h. search rules) _ _ c.retain.ensures.filtered

pub invariant_of-self : goal.invariant_of-self
invariant_of-self c = subst (λ l. AreWithin l c.self.inside.all) (sym (given_up c)) (record {
  once = AllPairs-filter (λ one other. one.tx ≢ other.tx) (is_not_idle_of c.args.tx) _ c.self.invariant.once;
  covers = covers_fewer _ _ _ (λ holder h. (contains_filtered (is_not_idle_of c.args.tx) _ holder h).0) c.self.invariant.covers;
})

pub returns : goal.returns
returns c = given_up c ∙ ap (filter (is_not_idle_of c.args.tx)) c.self.view_is
