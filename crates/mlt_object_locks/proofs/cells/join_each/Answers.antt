use Rattle.std.proofs.Common.{take, sym, subst}
use Rattle.mlt_object_locks.proofs.Names.{take_more, IsHereAt, JoinsAt}
use Rattle.mlt_object_locks.proofs.Changes.{here_more, joined_at_more, joined_more, joined_still, nobody_joined, same_lists}
use Rattle.mlt_object_locks.proofs.Membership.{from_front, none_in_empty}
use Rattle.mlt_object_locks.proofs.cells.join_each.Goals as goal

pub loop-place-init : goal.loop-place-init
loop-place-init c = (nobody_joined c.args.cells.now c.args.tx c.requires, λ k h. absurd (none_in_empty k h))

pub loop-place-preserved : goal.loop-place-preserved
loop-place-preserved c =
    let at = c.loop-place.place-index in
    let places = c.args.places.now in
    let start = c.args.cells.now in
    let mid = c.loop-place.cells in
    let now = c.join.new.cells in
    let tx = c.args.tx in
    let so_far = c.loop-place.invariant in
    let joins = c.in_ok-at.ensures.joins in
    let changes = c.join.ensures.others in
    subst (λ ks. JoinsAt start now ks tx × IsHereAt now ks tx) (sym (take_more places at 0 c.loop-place-test.true))
    (joined_more start mid now (take at places) _ tx changes so_far.0 joins, here_more start mid now (take at places) _ tx changes so_far.0 joins so_far.1)

pub returns-in_err-at-clause-joins : goal.returns-in_err-at-clause-joins
returns-in_err-at-clause-joins c =
    let at = c.loop-place.place-index in
    let places = c.args.places.now in
    let mid = c.loop-place.cells in
    let now = c.join.new.cells in
    let same = same_lists mid now _ c.join.ensures.others c.in_err-at.ensures.err in
    joined_at_more c.args.cells.now now (take at places) places c.args.tx (from_front places at)
    (joined_still c.args.cells.now mid now (take at places) c.args.tx c.loop-place.invariant.0 same c.join.ensures.others.unique)
