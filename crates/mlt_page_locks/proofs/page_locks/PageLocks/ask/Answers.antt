use Rattle.std.proofs.Common.{sym, ap, subst, set, List, ◌∙◌}
use Rattle.mlt_page_locks.proofs.Names.{LockTable, HasRoom, granted, conflicts, IsNobody, HeldPages, lock_table, IsMarked}
use Rattle.mlt_page_locks.proofs.{LockLaws.compatible_granted, Covering.covers_added, Places.GrantedAt, Places.granted_at, Places.has_place, Places.room_at, page_locks.PageLocks.ask.Goals.After-mark}
use Rattle.mlt_page_locks.proofs.page_locks.PageLocks.ask.Goals as goal

nobody : (c : After-mark) → IsNobody (conflicts (lock_table c.self.inside.lists.items) c.args.tx c.args.page c.args.mode)
nobody c = subst (λ (lists : List HeldPages). IsNobody (conflicts (lock_table lists) c.args.tx c.args.page c.args.mode)) c.deref.ensures.value c.in_default.ensures

made : (c : After-mark) → GrantedAt c.self.inside.lists.items c.place_for-place.new.lists.items c.args.tx c.place_for-place.result c.args.page c.args.mode c.index_mut.result.now c.index_mut.ensures.value c.place_for-place.ensures.place
    (set c.place_for-place.new.lists.items c.place_for-place.result c.add.new.self)
made c =
    granted_at c.self.inside.lists.items c.place_for-place.new.lists.items c.args.tx c.place_for-place.result c.args.page c.args.mode c.index_mut.result.now c.index_mut.ensures.value c.place_for-place.ensures.place
    c.add.new.self c.self.invariant.sound (compatible_granted (lock_table c.self.inside.lists.items) c.args.tx c.args.page c.args.mode c.self.invariant.sound.compatible (nobody c)) c.add.ensures

pub place_for-place-requires-clause-left : goal.place_for-place-requires-clause-left
place_for-place-requires-clause-left c =
    has_place c.self.inside.lists.items c.args.tx c.args.page c.args.mode c.self.invariant.sound
    (subst (λ (t : LockTable). HasRoom (granted t c.args.tx c.args.page c.args.mode)) (sym c.self.view_is) c.requires)

pub add-requires : goal.add-requires
add-requires c =
    room_at c.self.inside.lists.items c.place_for-place.new.lists.items c.args.tx c.place_for-place.result c.args.page c.args.mode c.index_mut.result.now c.index_mut.ensures.value c.place_for-place.ensures.place
    (subst (λ (t : LockTable). HasRoom (granted t c.args.tx c.args.page c.args.mode)) (sym c.self.view_is) c.requires)

pub invariant_of-self : goal.invariant_of-self
invariant_of-self c =
    let old = c.self.inside in
    let place = c.place_for-place in
    record {
      sound = (made c).makes.sound;
      covers = covers_added old.lists.items (set place.new.lists.items place.result c.add.new.self) old.pages old.holders c.mark.new.self place.new.holders c.args.tx c.args.page c.args.mode place.result c.self.invariant.covers (made c).adds
          (subst (λ n. IsMarked c.mark.new.self n place.result) (c.from-2.ensures ∙ c.page-2.view_is) c.mark.ensures.marked) c.mark.ensures.kept
          place.ensures.marked place.ensures.kept;
    }

pub returns-clause-answer : goal.returns-clause-answer
returns-clause-answer c = (
  subst (λ (t : LockTable). IsNobody (conflicts t c.args.tx c.args.page c.args.mode)) c.self.view_is (nobody c),
  (made c).makes.makes_it ∙ ap (λ (t : LockTable). granted t c.args.tx c.args.page c.args.mode) c.self.view_is,
)

pub returns-clause-compatible : goal.returns-clause-compatible
returns-clause-compatible c = (made c).makes.sound.compatible
