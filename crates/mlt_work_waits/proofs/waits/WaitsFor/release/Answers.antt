use Rattle.std.proofs.Common.{sym, subst}
use Rattle.mlt_work_waits.{specs.Waits.IsAcyclic, specs.declared.wait.Awaited.Awaited, proofs.Acyclic.fewer_are_acyclic, proofs.Ends.lead_to_awake}
use Rattle.mlt_work_waits.proofs.waits.WaitsFor.release.Goals as goal

fewer_objects : (c : goal.After-release_in) → IsAcyclic (record { objects = c.release_in.new.waits.items; pages = c.self.inside.pages.items })
fewer_objects c =
    subst (λ items. IsAcyclic (record { objects = items; pages = c.self.inside.pages.items })) (sym c.release_in.ensures.releases) (fewer_are_acyclic Awaited.Objects c.args.whose _ c.self.invariant)

fewer_pages : (c : goal.After-release_in-in-Pages) → IsAcyclic (record { objects = c.self.inside.objects.items; pages = c.release_in-in-Pages.new.waits.items })
fewer_pages c =
    subst (λ items. IsAcyclic (record { objects = c.self.inside.objects.items; pages = items })) (sym c.release_in-in-Pages.ensures.releases) (fewer_are_acyclic Awaited.Pages c.args.whose _ c.self.invariant)

pub invariant_of-self : goal.invariant_of-self
invariant_of-self c = fewer_objects c

pub invariant_of-self-in-Pages : goal.invariant_of-self-in-Pages
invariant_of-self-in-Pages c = fewer_pages c

pub returns-in-Objects-clause-awake : goal.returns-in-Objects-clause-awake
returns-in-Objects-clause-awake c = lead_to_awake _ (fewer_objects c)

pub returns-in-Pages-clause-awake : goal.returns-in-Pages-clause-awake
returns-in-Pages-clause-awake c = lead_to_awake _ (fewer_pages c)
