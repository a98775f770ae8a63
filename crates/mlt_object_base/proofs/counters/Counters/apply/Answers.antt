use Rattle.std.proofs.Common.{◌≡◌, ◌∙◌, None, Some, IsSome, cond, ap, refl, subst, sym, nat_cmp}
use Rattle.mlt_object_base.proofs.Names.{get_by, is_at, lookup, option_copied_mut, with_entry, counter_entry, counter_value, CounterStep}
use Rattle.std.specs.FinMap as map
use Rattle.mlt_object_base.proofs.Maps.{changed_and_gone, counter_in_map, counter_map_updated, kept, kept_not_zero, value_of}
use Rattle.mlt_object_base.proofs.counters.Counters.apply.Goals as goal

pub returns-then-after-ne0-clause-done : goal.returns-then-after-ne0-clause-done
returns-then-after-ne0-clause-done c =
    let a = c.args.counter in
    let old = c.self.inside.values in
    let after = c.apply-after.result.0 in
    let there : Some c.in-Some.value.now ≡ get_by (nat_cmp a) old = sym (ap option_copied_mut c.in-Some.is) ∙ c.get_mut.ensures.value in
    let before : counter_value (map.get c.args.self.now a) ≡ c.in-Some.value.now =
    ap (λ m. counter_value (map.get m a)) (sym c.self.view_is) ∙ counter_in_map old.entries a c.self.invariant ∙ ap value_of (sym there) in
    let updates = (c.get_mut.follows.holds after).3 (subst IsSome there refl) in (
      after,
      subst (λ s. CounterStep s c.args.op.now c.apply-after.result.1 after) (sym before) c.apply-after.ensures,
      counter_map_updated old.entries (c.get_mut.follows.lender after).entries a after (λ q.
          updates.0 q ∙ ap (λ w. cond (is_at (nat_cmp a) q) w (lookup (is_at (nat_cmp q)) old.entries)) (sym (kept_not_zero after c.if-after-ne0.true)))
          ∙ ap (λ m. with_entry m a (counter_entry after)) c.self.view_is,
    )

pub returns-clause-done : goal.returns-clause-done
returns-clause-done c =
    let a = c.args.counter in
    let old = c.self.inside.values in
    let value = c.in-Some.value.now in
    let after = c.apply-after.result.0 in
    let there : Some value ≡ get_by (nat_cmp a) old = sym (ap option_copied_mut c.in-Some.is) ∙ c.get_mut.ensures.value in
    let before : counter_value (map.get c.args.self.now a) ≡ value =
    ap (λ m. counter_value (map.get m a)) (sym c.self.view_is) ∙ counter_in_map old.entries a c.self.invariant ∙ ap value_of (sym there) in
    let updates = (c.get_mut.follows.holds value).3 (subst IsSome there refl) in (
      after,
      subst (λ s. CounterStep s c.args.op.now c.apply-after.result.1 after) (sym before) c.apply-after.ensures,
      counter_map_updated old.entries c.remove.new.self.entries a after (λ q.
          c.remove.ensures.updates.0 q ∙ ap (cond (is_at (nat_cmp a) q) None) (updates.0 q) ∙ changed_and_gone (is_at (nat_cmp a) q) value (lookup (is_at (nat_cmp q)) old.entries)
          ∙ ap (λ v. cond (is_at (nat_cmp a) q) (kept v) (lookup (is_at (nat_cmp q)) old.entries)) (sym c.if-after-ne0.false))
          ∙ ap (λ m. with_entry m a (counter_entry after)) c.self.view_is,
    )
