use Rattle.std.proofs.Common.{◌≡◌, None, ap, refl, subst, ◌∙◌, position, nat_cmp}
use Rattle.std.specs.FinSet as set
use Rattle.mlt_hash.proofs.Names.{is_live_of, Live, BucketFields, LocalState, local, IsNowhere, SetsFirst, has_room, WalkContext, WalkFields, view_for}
use Rattle.mlt_hash_access.proofs.Leaving.{leaves_it}
use Rattle.mlt_hash.proofs.Additions.{absent_from_bucket, absent_may_write, absent_plans, is_full, put_takes, put_tells, revival_takes, revival_tells, unmade_takes}
use Rattle.mlt_hash.proofs.InPlace.{ReadsBucket, at_bucket_without, holds_bucket, plan_is_written, reads_bucket}
use Rattle.mlt_hash.proofs.walk.Walk.insert.{Given.Over, Goals.After-tx, Goals.In-Some-insert}
use Rattle.mlt_hash.proofs.walk.Walk.insert.Goals as goal

pub held_bucket-number-requires-clause-at : goal.held_bucket-number-requires-clause-at
held_bucket-number-requires-clause-at g c = at_bucket_without c.args.self.now.phase c.requires.1.1.1

pub held_bucket-number-requires-clause-held : goal.held_bucket-number-requires-clause-held
held_bucket-number-requires-clause-held g c = holds_bucket g.context c.args.self.now (local c.args.subtx.now c.args.pages.now) c.requires.1.1.0.walks (at_bucket_without c.args.self.now.phase c.requires.1.1.1)

abbrev before : (g : Over) → After-tx g → LocalState
before g c = local c.args.subtx.now c.args.pages.now

reads : (g : Over) (c : After-tx g) → ReadsBucket g.context c.args.self.now (before g c) c.held_bucket-number.result.0 c.self.inside.key c.held_bucket-number.result.1.now
reads g c =
    reads_bucket g.context c.args.self.now (before g c) c.held_bucket-number.result.0 c.self.inside.key c.held_bucket-number.result.1.now c.requires.1.1.0.walks (at_bucket_without c.args.self.now.phase c.requires.1.1.1) c.held_bucket-number.ensures.bucket c.held_bucket-number.ensures.number
    (ap (λ (w : WalkFields). w.key) c.self.view_is)

absent : (g : Over) (c : After-tx g) → position (is_live_of c.self.inside.key) c.held_bucket-number.result.1.now.slots ≡ None
absent g c = absent_from_bucket g.context c.args.self.now (view_for g.context (before g c)) c.self.inside.key c.held_bucket-number.result.1.now c.requires.1.1.1 c.requires.1.1.0.walks.stands (reads g c).sees (reads g c).key_is

own : (g : Over) (c : After-tx g) → c.tx.result ≡ g.context.tx
own g c = c.tx.ensures ∙ ap (λ (b : WalkContext). b.tx) c.requires.1.0

-- the lowest slot with room, as the context has it
plan : (g : Over) (c : In-Some-insert g) → SetsFirst c.held_bucket-number.result.0 c.held_bucket-number.result.1.now (has_room g.context.active) (Live c.self.inside.key c.args.value) c.in-Some-insert.write
plan g c =
    subst (λ (o : set.FinSet nat_cmp). SetsFirst c.held_bucket-number.result.0 c.held_bucket-number.result.1.now (has_room o) (Live c.self.inside.key c.args.value) c.in-Some-insert.write) (ap (λ (b : WalkContext). b.active) c.requires.1.0) c.in-Some-insert.ensures.plan

pub revive-requires : goal.revive-requires
revive-requires g c = absent g (goal.at.revive-requires g c).After-tx

pub write_change-requires-clause-held : goal.write_change-requires-clause-held
write_change-requires-clause-held g c =
    let m = before g (goal.at.write_change-requires-clause-held g c).After-tx in
    absent_may_write g.context c.args.self.now m _ _ _ _ _ c.requires.1.1.1 c.requires.1.1.0.walks.stands c.requires.1.1.0.exclusive c.held_bucket-number.ensures.number c.in-Some.ensures.plan

pub write_change-requires-clause-planned : goal.write_change-requires-clause-planned
write_change-requires-clause-planned g c =
    let s = (goal.at.write_change-requires-clause-planned g c).After-tx in
    absent_plans g.context c.args.self.now (before g s) _ _ _ _ _ _ c.requires.1.1.1 (reads g s) c.in-Some.ensures.plan

pub returns-in-Some-clause-writes : goal.returns-in-Some-clause-writes
returns-in-Some-clause-writes g c =
    plan_is_written _ _ _ _ _ _ _ _ _ c.held_bucket-number.ensures.number c.in-Some.ensures.plan c.write_change.ensures.writes

pub returns-in-Some-clause-tells : goal.returns-in-Some-clause-tells
returns-in-Some-clause-tells g c =
    let s = (goal.at.returns-in-Some-clause-tells g c).After-tx in
    revival_tells g.context c.args.self.now _ (before g s) _ _ _ _ _ _ (reads g s) c.requires.1.1.1 c.args.value c.tx.result (own g s) c.in-Some.ensures.plan c.write_change.ensures.tells

pub returns-in-Some-clause-slot : goal.returns-in-Some-clause-slot
returns-in-Some-clause-slot g c =
    let s = (goal.at.returns-in-Some-clause-slot g c).After-tx in
    revival_takes g.context c.args.self.now _ (before g s) _ _ _ _ _ _ (reads g s) c.requires.1.1.1 c.args.value c.tx.result (own g s) c.in-Some.ensures.plan c.write_change.ensures.tells

pub insert-requires : goal.insert-requires
insert-requires g c = absent g (goal.at.insert-requires g c).After-tx

pub write_change-requires-in-Some-insert-clause-held : goal.write_change-requires-in-Some-insert-clause-held
write_change-requires-in-Some-insert-clause-held g c =
    let s = goal.at.write_change-requires-in-Some-insert-clause-held g c in
    absent_may_write g.context c.args.self.now (before g s.After-tx) _ _ _ _ _ c.requires.1.1.1 c.requires.1.1.0.walks.stands c.requires.1.1.0.exclusive c.held_bucket-number.ensures.number (plan g s.In-Some-insert)

pub write_change-requires-in-Some-insert-clause-planned : goal.write_change-requires-in-Some-insert-clause-planned
write_change-requires-in-Some-insert-clause-planned g c =
    let s = goal.at.write_change-requires-in-Some-insert-clause-planned g c in
    absent_plans g.context c.args.self.now (before g s.After-tx) _ _ _ _ _ _ c.requires.1.1.1 (reads g s.After-tx) (plan g s.In-Some-insert)

pub returns-in-Some-insert-clause-writes : goal.returns-in-Some-insert-clause-writes
returns-in-Some-insert-clause-writes g c =
    plan_is_written _ _ _ _ _ _ _ _ _ c.held_bucket-number.ensures.number c.in-Some-insert.ensures.plan c.write_change-in-Some-insert.ensures.writes

pub returns-in-Some-insert-clause-tells : goal.returns-in-Some-insert-clause-tells
returns-in-Some-insert-clause-tells g c =
    let s = goal.at.returns-in-Some-insert-clause-tells g c in
    put_tells g.context c.args.self.now _ (before g s.After-tx) _ _ _ _ _ _ (reads g s.After-tx) c.requires.1.1.1 c.args.value c.tx.result (own g s.After-tx) c.in_default.ensures.plan (plan g s.In-Some-insert) c.write_change-in-Some-insert.ensures.tells

pub returns-in-Some-insert-clause-slot : goal.returns-in-Some-insert-clause-slot
returns-in-Some-insert-clause-slot g c =
    let s = goal.at.returns-in-Some-insert-clause-slot g c in
    put_takes g.context c.args.self.now _ (before g s.After-tx) _ _ _ _ _ _ (reads g s.After-tx) c.requires.1.1.1 c.args.value c.tx.result (own g s.After-tx) c.in_default.ensures.plan (plan g s.In-Some-insert) c.write_change-in-Some-insert.ensures.tells

pub without_room-requires : goal.without_room-requires
without_room-requires g c κs within =
    let s = (goal.at.without_room-requires g c).After-tx in
    let fields : BucketFields = c.held_bucket-number.result.1.now in
    let room = subst (λ (o : set.FinSet nat_cmp). IsNowhere (has_room o) fields.slots) (ap (λ (b : WalkContext). b.active) c.requires.1.0) c.in_default-insert.ensures.plan in
    let full = is_full g.context c.args.self.now (view_for g.context (before g s)) _ _ fields (reads g s).sees (reads g s).key_is (own g s) c.in_default.ensures.plan room in
    (within, (c.requires.1.0, (c.requires.1.1.0, (c.requires.1.1.1, (fields, full)))))

pub returns-clause-leaves : goal.returns-clause-leaves
returns-clause-leaves g c = leaves_it (local c.args.subtx.now c.args.pages.now) _ c.requires.1.1.0.walks.may refl

pub returns-clause-slot : goal.returns-clause-slot
returns-clause-slot g c =
    let context : WalkContext = g.context in
    let before : LocalState = local c.args.subtx.now c.args.pages.now in
    unmade_takes c.without_room.result context (view_for context before) (view_for context before) c.args.self.now c.args.value c.without_room.ensures.unchanged
