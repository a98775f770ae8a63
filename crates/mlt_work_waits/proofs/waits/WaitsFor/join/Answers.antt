use Rattle.std.proofs.Common.{sym, subst}
use Rattle.mlt_work_waits.{specs.Waits.CanJoin, specs.Waits.IsAcyclic, specs.Waits.LeadToAwake, specs.declared.wait.Awaited.Awaited, proofs.Acyclic.stays_acyclic, proofs.Ends.lead_to_awake}
use Rattle.mlt_work_waits.proofs.waits.WaitsFor.join.Goals as goal

one_more_object : (c : goal.After-push) → IsAcyclic (record { objects = c.push.new.self.items; pages = c.self.inside.pages.items })
one_more_object c =
    let can = subst (CanJoin c.args.awaited c.args.wait) (sym c.self.view_is) (c.can_join.ensures.can (subst IsAcyclic c.self.view_is c.self.invariant) c.if-not-can_join.false) in
    subst (λ items. IsAcyclic (record { objects = items; pages = c.self.inside.pages.items })) (sym c.push.ensures.items)
    (stays_acyclic Awaited.Objects c.args.wait _ c.self.invariant can.first can.open_end)

one_more_page : (c : goal.After-push-in-Pages) → IsAcyclic (record { objects = c.self.inside.objects.items; pages = c.push-in-Pages.new.self.items })
one_more_page c =
    let can = subst (CanJoin c.args.awaited c.args.wait) (sym c.self.view_is) (c.can_join.ensures.can (subst IsAcyclic c.self.view_is c.self.invariant) c.if-not-can_join.false) in
    subst (λ items. IsAcyclic (record { objects = c.self.inside.objects.items; pages = items })) (sym c.push-in-Pages.ensures.items)
    (stays_acyclic Awaited.Pages c.args.wait _ c.self.invariant can.first can.open_end)

pub invariant_of-self : goal.invariant_of-self
invariant_of-self c = one_more_object c

pub invariant_of-self-in-Pages : goal.invariant_of-self-in-Pages
invariant_of-self-in-Pages c = one_more_page c

pub returns-then-not-can_join-clause-awake : goal.returns-then-not-can_join-clause-awake
returns-then-not-can_join-clause-awake c = subst LeadToAwake c.self.view_is (lead_to_awake _ c.self.invariant)

pub returns-in-Objects-clause-awake : goal.returns-in-Objects-clause-awake
returns-in-Objects-clause-awake c = lead_to_awake _ (one_more_object c)

pub returns-in-Pages-clause-awake : goal.returns-in-Pages-clause-awake
returns-in-Pages-clause-awake c = lead_to_awake _ (one_more_page c)
