use Rattle.std.proofs.Common.{◌≡◌, ◌≤◌, Some, Contains, refl, rules, sym, ap, subst, ◌∙◌, inl, inr}
use Rattle.mlt_object_locks.proofs.Names.{Locks, reservation_of, SameReservations, places_if_any, places_of, reserved_places, holder_of, GivesUp, IsHereAt, IsSound, JoinsAt}
use Rattle.mlt_object_locks.proofs.{Notes.keeps_noted, Sound.sound_unchanged, Sound.sound_reserved}
use Rattle.mlt_object_locks.proofs.locks.ObjectLocks.reserve_at.Goals as goal

pub invariant_of-self-in_err-make_room-2 : goal.invariant_of-self-in_err-make_room-2
invariant_of-self-in_err-make_room-2 c =
    let s = c.self.inside in
    let more = c.make_room-2.new.self in
    let kept = keeps_noted s.noted more c.args.tx c.make_room-2.ensures.others c.make_room-2.ensures.keys (λ had. subst (λ n. 2 ≤ n) (sym c.in_err-make_room-2.ensures.err) had) in
    subst (λ reserved. IsSound s.cells reserved more s.held.items) (sym c.make_room.ensures.items)
    (sound_unchanged s.cells s.cells s.reserved.items s.noted more s.held.items c.self.invariant (λ k. refl) c.self.invariant.unique kept)

pub invariant_of-self-in-Err : goal.invariant_of-self-in-Err
invariant_of-self-in-Err c =
    let s = c.self.inside in
    let tx = c.args.tx in
    let more = c.make_room-2.new.self in
    let mid = c.join_each.new.cells in
    let now = c.give_up_each.new.cells in
    let entries = s.reserved.items in
    let places = places_of c.args.cell.now in
    let kept = keeps_noted s.noted more tx c.make_room-2.ensures.others c.make_room-2.ensures.keys (λ had. c.in_ok-make_room-2.ensures.room) in
    let joins = subst (λ ks. JoinsAt s.cells mid ks tx) c.requires c.join_each.ensures.joins in
    let had : c.as_slice.result.now ≡ reserved_places entries tx = c.as_slice.ensures.value ∙ c.places_if_any-kept.ensures ∙ ap places_if_any (c.cell_of.ensures ∙ ap (λ reserved. reservation_of reserved tx) c.make_room.ensures.items) in
    let gives = subst (λ ks. GivesUp mid now places ks tx) had (subst (λ ks. GivesUp mid now ks c.as_slice.result.now tx) c.requires c.give_up_each.ensures) in
    let here : IsHereAt mid (reserved_places entries tx) tx = λ k h. let there = c.self.invariant.opened tx k h in (there.0, joins.keeps k (holder_of tx there.0) there.1) in
    subst (λ reserved. IsSound now reserved more s.held.items) (sym c.make_room.ensures.items)
    (sound_reserved s.cells mid now entries entries s.noted more s.held.items tx places places c.self.invariant joins gives here (λ k h. inl h) (λ k h. inr h) (λ u ne. refl) kept (λ cell e. c.in_ok-make_room-2.ensures.room))

pub invariant_of-self-2 : goal.invariant_of-self-2
invariant_of-self-2 c =
    let s = c.self.inside in
    let tx = c.args.tx in
    let more = c.make_room-2.new.self in
    let after = c.put-before.new.self.items in
    let mid = c.join_each.new.cells in
    let now = c.give_up_cell.new.cells in
    let entries = s.reserved.items in
    let places = places_of c.args.cell.now in
    let kept = keeps_noted s.noted more tx c.make_room-2.ensures.others c.make_room-2.ensures.keys (λ had. c.in_ok-make_room-2.ensures.room) in
    let own : reservation_of after tx ≡ Some c.args.cell.now = c.put-before.ensures.reserved in
    let own_places : reserved_places after tx ≡ places = ap places_if_any own in
    let others : SameReservations entries after tx = λ other ne.
    c.put-before.ensures.others other ne ∙ ap (λ reserved. reservation_of reserved other) c.make_room.ensures.items in
    let joins = subst (λ ks. JoinsAt s.cells mid ks tx) c.requires c.join_each.ensures.joins in
    let here = subst (λ ks. IsHereAt mid ks tx) (c.requires ∙ sym own_places) c.in-Ok.ensures.here in
    let before : c.put-before.result ≡ reservation_of entries tx = c.put-before.ensures.before ∙ ap (λ reserved. reservation_of reserved tx) c.make_room.ensures.items in
    let gives = subst (λ ks. GivesUp mid now (reserved_places entries tx) ks tx) (c.requires ∙ sym own_places)
    (subst (λ cell. GivesUp mid now (places_if_any cell) c.args.places.now tx) before c.give_up_cell.ensures) in
    sound_reserved s.cells mid now entries after s.noted more s.held.items tx places (reserved_places entries tx) c.self.invariant joins gives here (λ k h. inr (subst (λ ks. Contains ks k) (sym own_places) h)) (λ k h. inl h) others kept
    (λ cell e. c.in_ok-make_room-2.ensures.room)

pub returns-clause-reserves : goal.returns-clause-reserves
returns-clause-reserves c = record {
  held = search rules;
  reserved = search rules;
  others = λ other ne.
      c.put-before.ensures.others other ne ∙ ap (λ entries. reservation_of entries other) c.make_room.ensures.items
      ∙ ap (λ (l : Locks). reservation_of l.reserved other) c.self.view_is;
  err = search rules;
}
