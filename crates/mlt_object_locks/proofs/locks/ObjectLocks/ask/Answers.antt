use Rattle.std.proofs.Common.{◌≡◌, ℕ, Option, None, [], ◌∷◌, sym, ap, subst, ◌∙◌, arith}
use Rattle.mlt_object_locks.proofs.Names.{IsInRange, cell_of, IsLowestOf, Locks, reservation_of, bit_of_item, NotesEach, noted_of, places_if_any, places_of, GrantsAt, IsHereAt, IsSound, StandsAtOne, list_at}
use Rattle.mlt_object_locks.proofs.{Changes.granted_more, Changes.nobody_granted, Clashing.lowest_of_all, Clashing.lowest_with_none, Holding.alone, Membership.contains_first, Membership.none_in_empty, Notes.notes_more, Notes.notes_nothing, Sound.sound_granted}
use Rattle.mlt_object_locks.proofs.locks.ObjectLocks.ask.Goals as goal

pub grant-requires-clause-here : goal.grant-requires-clause-here
grant-requires-clause-here c =
    let s = c.self.inside in
    let tx = c.args.tx in
    let place = c.in-Some.place in
    let had = ap (λ (l : Locks). reservation_of l.reserved tx) c.self.view_is ∙ c.requires in
    let places = ap places_if_any had ∙ ap places_of (sym c.cell-cell.ensures) ∙ c.in-Some.ensures.stands in
    subst (λ ks. IsHereAt s.cells ks tx) places (c.self.invariant.opened tx) place (contains_first place [])

pub grant-requires-clause-room : goal.grant-requires-clause-room
grant-requires-clause-room c =
    let had = ap (λ (l : Locks). reservation_of l.reserved c.args.tx) c.self.view_is ∙ c.requires in
    let room = c.self.invariant.room c.args.tx (cell_of c.args.done.now.0) had in
    omega arith

pub invariant_of-self : goal.invariant_of-self
invariant_of-self c =
    let s = c.self.inside in
    let tx = c.args.tx in
    let done = c.args.done.now in
    let place = c.in-Some.place in
    let now = c.grant.new.cells in
    let noted = c.grant.new.noted in
    let after = c.take.new.self.items in
    let bit : Option ℕ = bit_of_item done in
    let had = ap (λ (l : Locks). reservation_of l.reserved tx) c.self.view_is ∙ c.requires in
    let range = subst IsInRange c.cell-cell.ensures c.is_in_range.ensures in
    let place_alone : place ∷ [] ≡ places_of (cell_of done.0) = sym c.in-Some.ensures.stands ∙ ap places_of c.cell-cell.ensures in
    let start = (noted_of s.noted tx).keys in
    let grants = subst (λ ks. GrantsAt s.cells now ks tx bit) place_alone
    (granted_more s.cells s.cells now [] place tx c.grant.ensures.cells bit (nobody_granted s.cells tx bit c.self.invariant.unique) c.grant.ensures.grants) in
    let notes = subst (NotesEach start (noted_of noted tx).keys) place_alone
    (notes_more start start (noted_of noted tx).keys [] place (notes_nothing start) c.grant.ensures.notes) in
    subst (IsSound now after noted) (sym c.of-self-inside.ensures)
    (sound_granted s.cells now s.reserved.items after s.noted noted s.held.items tx done c.self.invariant had range grants c.take.ensures.taken c.take.ensures.others c.grant.ensures.others notes)

pub returns-in-Some-alone_at-clause-free : goal.returns-in-Some-alone_at-clause-free
returns-in-Some-alone_at-clause-free c =
    let s = c.self.inside in
    let tx = c.args.tx in
    let done = c.args.done.now in
    let place = c.in-Some.place in
    let range = subst IsInRange c.cell-cell.ensures c.is_in_range.ensures in
    let nobody : IsLowestOf (StandsAtOne s.cells [] tx done) None = λ number h. none_in_empty h.0 h.1 in
    let here = lowest_with_none s.cells [] place tx done None nobody (alone (list_at s.cells place) tx done c.in-Some-alone_at.ensures.alone) in
    lowest_of_all s.cells s.reserved.items s.noted s.held.items c.self.invariant tx done range (place ∷ []) c.args.self.now.held (sym (c.in-Some.ensures.looks done.0 (sym c.cell-cell.ensures))) (ap (λ (l : Locks). l.held) c.self.view_is)
    None here
