use Rattle.std.proofs.Common.{◌≡◌, ◌<◌, ap, refl, inl, arith}
use Rattle.mlt_hash_pair.proofs.Names.{LocalState, local, view_of, leaves_it, PairFields}
use Rattle.mlt_hash_pair.proofs.Makes.{may_write_plan, plan_for, right_full, tells_left_later, tells_right_later, writes_left_later, writes_right_later}
use Rattle.mlt_hash_pair.proofs.change.change_two_buckets.Goals as goal

pub returns-in-Full-clause-leaves : goal.returns-in-Full-clause-leaves
returns-in-Full-clause-leaves c = leaves_it (local c.args.subtx.now c.args.pages.now) (local c.args.subtx.now c.args.pages.now) c.requires.may refl

pub returns-in-Full-right_plan : goal.returns-in-Full-right_plan
returns-in-Full-right_plan c =
    let left = plan_for c.plan_held-left_plan.result c.args.changes.now.left c.args.active.now c.args.subtx.now.tx c.pair.inside.left c.args.pair.now.left c.args.left (view_of (local c.args.subtx.now c.args.pages.now)) (ap (λ (p : PairFields). p.left) c.pair.view_is) c.plan_held-left_plan.ensures.planned in
    let right = plan_for c.plan_held-right_plan.result c.args.changes.now.right c.args.active.now c.args.subtx.now.tx c.pair.inside.right c.args.pair.now.right c.args.right (view_of (local c.args.subtx.now c.args.pages.now)) (ap (λ (p : PairFields). p.right) c.pair.view_is) c.plan_held-right_plan.ensures.planned in
    record {
      writes = inl refl;
      leaves = leaves_it (local c.args.subtx.now c.args.pages.now) (local c.args.subtx.now c.args.pages.now) c.requires.may refl;
      tells = right_full c.args.active.now (local c.args.subtx.now c.args.pages.now) (local c.args.subtx.now c.args.pages.now) c.args.pair.now c.args.pair.now c.args.left c.args.right c.args.changes.now c.plan_held-left_plan.result c.plan_held-right_plan.result left right c.requires.apart c.in_default.not-Full c.in-Full-right_plan.is refl refl;
    }

pub write_plan-requires : goal.write_plan-requires
write_plan-requires c =
    record {
      may = c.requires.may;
      unwritten = c.requires.unwritten;
      within = c.plan_held-right_plan.ensures.within;
      ready = may_write_plan c.plan_held-right_plan.result c.args.changes.now.right c.args.active.now c.pair.inside.right c.args.right (local c.args.subtx.now c.args.pages.now) c.requires.right_held c.plan_held-right_plan.ensures.planned;
    }

pub write_plan-requires-2 : goal.write_plan-requires-2
write_plan-requires-2 c =
    record {
      may = c.requires.may;
      unwritten = c.requires.unwritten;
      within = c.plan_held-left_plan.ensures.within;
      ready = may_write_plan c.plan_held-left_plan.result c.args.changes.now.left c.args.active.now c.pair.inside.left c.args.left (local c.args.subtx.now c.args.pages.now) c.requires.left_held c.plan_held-left_plan.ensures.planned;
    }

pub returns-then-left-right : goal.returns-then-left-right
returns-then-left-right c =
    let new : LocalState = local c.write_plan.new.subtx c.write_plan.new.pages in
    let left = plan_for c.plan_held-left_plan.result c.args.changes.now.left c.args.active.now c.args.subtx.now.tx c.pair.inside.left c.args.pair.now.left c.args.left (view_of (local c.args.subtx.now c.args.pages.now)) (ap (λ (p : PairFields). p.left) c.pair.view_is) c.plan_held-left_plan.ensures.planned in
    let right = plan_for c.plan_held-right_plan.result c.args.changes.now.right c.args.active.now c.args.subtx.now.tx c.pair.inside.right c.args.pair.now.right c.args.right (view_of (local c.args.subtx.now c.args.pages.now)) (ap (λ (p : PairFields). p.right) c.pair.view_is) c.plan_held-right_plan.ensures.planned in
    let one : c.left.inside.0 ≡ c.args.left = c.left.view_is in
    let other : c.right.inside.0 ≡ c.args.right = c.right.view_is in
    let lower = c.if-left-right.true in
    let low : c.args.left < c.args.right = omega (arith, one, other, lower) in
    record {
      writes = writes_right_later c.args.active.now (local c.args.subtx.now c.args.pages.now) new c.args.pair.now c.owe_plan.new.pair c.args.left c.args.right c.args.changes.now c.plan_held-left_plan.result c.plan_held-right_plan.result left right c.requires.apart c.in_default.not-Full c.in_default-right_plan.not-Full c.owe_plan.result low c.write_plan.ensures.writes c.owe_plan.ensures;
      leaves = c.write_plan.ensures.leaves;
      tells = tells_right_later c.args.active.now (local c.args.subtx.now c.args.pages.now) new c.args.pair.now c.owe_plan.new.pair c.args.left c.args.right c.args.changes.now c.plan_held-left_plan.result c.plan_held-right_plan.result left right c.requires.apart c.in_default.not-Full c.in_default-right_plan.not-Full c.owe_plan.result low c.write_plan.ensures.writes c.owe_plan.ensures;
    }

pub returns : goal.returns
returns c =
    let new : LocalState = local c.write_plan-2.new.subtx c.write_plan-2.new.pages in
    let left = plan_for c.plan_held-left_plan.result c.args.changes.now.left c.args.active.now c.args.subtx.now.tx c.pair.inside.left c.args.pair.now.left c.args.left (view_of (local c.args.subtx.now c.args.pages.now)) (ap (λ (p : PairFields). p.left) c.pair.view_is) c.plan_held-left_plan.ensures.planned in
    let right = plan_for c.plan_held-right_plan.result c.args.changes.now.right c.args.active.now c.args.subtx.now.tx c.pair.inside.right c.args.pair.now.right c.args.right (view_of (local c.args.subtx.now c.args.pages.now)) (ap (λ (p : PairFields). p.right) c.pair.view_is) c.plan_held-right_plan.ensures.planned in
    let one : c.left.inside.0 ≡ c.args.left = c.left.view_is in
    let other : c.right.inside.0 ≡ c.args.right = c.right.view_is in
    let lower = c.if-left-right.false in
    let apart = c.requires.apart in
    let low : c.args.right < c.args.left = omega (arith, one, other, lower, apart) in
    record {
      writes = writes_left_later c.args.active.now (local c.args.subtx.now c.args.pages.now) new c.args.pair.now c.owe_plan-2.new.pair c.args.left c.args.right c.args.changes.now c.plan_held-left_plan.result c.plan_held-right_plan.result left right c.requires.apart c.in_default.not-Full c.in_default-right_plan.not-Full c.owe_plan-2.result low c.write_plan-2.ensures.writes c.owe_plan-2.ensures;
      leaves = c.write_plan-2.ensures.leaves;
      tells = tells_left_later c.args.active.now (local c.args.subtx.now c.args.pages.now) new c.args.pair.now c.owe_plan-2.new.pair c.args.left c.args.right c.args.changes.now c.plan_held-left_plan.result c.plan_held-right_plan.result left right c.requires.apart c.in_default.not-Full c.in_default-right_plan.not-Full c.owe_plan-2.result low c.write_plan-2.ensures.writes c.owe_plan-2.ensures;
    }
