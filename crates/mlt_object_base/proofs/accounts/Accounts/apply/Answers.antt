use Rattle.std.proofs.Common.{◌≡◌, ◌∙◌, None, Some, IsSome, cond, ap, refl, subst, sym, nat_cmp}
use Rattle.mlt_object_base.proofs.Names.{get_by, is_at, lookup, option_copied_mut, with_entry, AccountStep}
use Rattle.std.specs.FinMap as map
use Rattle.mlt_object_kinds.specs.declared.operation.ObjReply.TheVariants.{Closed}
use Rattle.mlt_object_base.proofs.Maps.{changed_and_gone, number_in_map, number_map_updated}
use Rattle.mlt_object_base.proofs.accounts.Accounts.apply.Goals as goal

pub returns-in-Some-change-clause-done : goal.returns-in-Some-change-clause-done
returns-in-Some-change-clause-done c =
    let a = c.args.account in
    let old = c.self.inside.balances in
    let after = c.change.new.balance in
    let there : Some c.in-Some.balance.now ≡ get_by (nat_cmp a) old = sym (ap option_copied_mut c.in-Some.is) ∙ c.get_mut.ensures.value in
    let before : map.get c.args.self.now a ≡ Some c.in-Some.balance.now = ap (λ m. map.get m a) (sym c.self.view_is) ∙ number_in_map old.entries a ∙ sym there in
    let updates = (c.get_mut.follows.holds after).3 (subst IsSome there refl) in (
      Some after,
      subst (λ s. AccountStep s c.args.op.now c.in-Some-change.reply (Some after)) (sym before) c.in-Some-change.ensures.some,
      number_map_updated old.entries (c.get_mut.follows.lender after).entries a (Some after) updates.0 ∙ ap (λ m. with_entry m a (Some after)) c.self.view_is,
    )

pub returns-clause-done : goal.returns-clause-done
returns-clause-done c =
    let a = c.args.account in
    let old = c.self.inside.balances in
    let after = c.change.new.balance in
    let there : Some c.in-Some.balance.now ≡ get_by (nat_cmp a) old = sym (ap option_copied_mut c.in-Some.is) ∙ c.get_mut.ensures.value in
    let before : map.get c.args.self.now a ≡ Some c.in-Some.balance.now = ap (λ m. map.get m a) (sym c.self.view_is) ∙ number_in_map old.entries a ∙ sym there in
    let updates = (c.get_mut.follows.holds after).3 (subst IsSome there refl) in (
      None,
      subst (λ s. AccountStep s c.args.op.now Closed None) (sym before) c.in_default-change.ensures.none,
      number_map_updated old.entries c.remove.new.self.entries a None (λ q.
          c.remove.ensures.updates.0 q ∙ ap (cond (is_at (nat_cmp a) q) None) (updates.0 q) ∙ changed_and_gone (is_at (nat_cmp a) q) after (lookup (is_at (nat_cmp q)) old.entries))
          ∙ ap (λ m. with_entry m a None) c.self.view_is,
    )
