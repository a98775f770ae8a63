use Rattle.std.proofs.Common.{◌≡◌, sym, ap, subst, ◌∙◌}
use Rattle.mlt_object_locks.proofs.Names.{Locks, reservation_of, places_if_any, reserved_places, IsSound, ReleasesAt}
use Rattle.mlt_object_locks.proofs.Sound.{sound_released}
use Rattle.mlt_object_locks.proofs.locks.ObjectLocks.release_all.Goals as goal

pub invariant_of-self : goal.invariant_of-self
invariant_of-self c =
    let s = c.self.inside in
    let tx = c.args.tx in
    let after = c.take.new.self.items in
    let places : c.as_slice.result.now ≡ reserved_places s.reserved.items tx = c.as_slice.ensures.value ∙ c.places_if_any-places.ensures ∙ ap places_if_any c.take.ensures.cell in
    let first = subst (λ ks. ReleasesAt s.cells c.release_each.new.cells ks tx) places c.release_each.ensures in
    subst (IsSound c.release_noted.new.cells after c.release_noted.new.noted) (sym c.of-self-inside.ensures)
    (sound_released s.cells c.release_each.new.cells c.release_noted.new.cells s.reserved.items after s.noted c.release_noted.new.noted s.held.items tx c.self.invariant first c.release_noted.ensures.released
    c.take.ensures.taken c.take.ensures.others c.release_noted.ensures.others c.release_noted.ensures.none)

pub returns-clause-others : goal.returns-clause-others
returns-clause-others c = λ other ne.
    c.take.ensures.others other ne ∙ ap (λ (l : Locks). reservation_of l.reserved other) c.self.view_is
