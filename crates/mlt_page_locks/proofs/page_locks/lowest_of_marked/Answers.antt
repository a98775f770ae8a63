use Rattle.std.proofs.Common.{◌≡◌, ap, sym, subst, ◌∙◌, take, take_all, length, List, Bool, true, false, cond, min, unwrap_or, Some, ◌+◌, arith}
use Rattle.mlt_page_locks.proofs.Names.{take_more, option_map_or, goes_with, HeldPages}
use Rattle.std.specs.FinMap as map
use Rattle.mlt_page_locks.proofs.Conflicts.{in_way_of, IsLowestIfAny, lowest_more, lowest_of_table, same_lowest}
use Rattle.mlt_page_locks.proofs.{Covering.passed_over, Sharing.nobody_against_shared, page_locks.lowest_of_marked.Goals.then-conflicts, page_locks.lowest_of_marked.Goals.else-conflicts+else-shares}
use Rattle.mlt_page_locks.proofs.page_locks.lowest_of_marked.Goals as goal

-- what was the lowest up to the start of the search is so up to the next place
up_to_next : (c : goal.Joined-conflicts) → IsLowestIfAny (in_way_of c.args.tx c.args.page c.args.mode (take c.in-Some.place c.args.lists.now)) c.loop-place.lowest
up_to_next c =
    let next = c.in-Some.ensures in
    let within = next.within in
    same_lowest _ _ c.loop-place.lowest
    (passed_over c.args.tx c.args.page c.args.mode c.args.lists.now c.args.mask c.loop-place.start c.requires.marked c.in-Some.place next.from_start (omega arith) next.passed_over)
    c.loop-place.invariant.lowest_so_far

more : (c : goal.Joined-conflicts) (b : Bool) → b ≡ c.conflicts.result → c.if-conflicts.lowest ≡ cond b (Some (min (unwrap_or c.loop-place.lowest c.index-lists-place.result.tx) c.index-lists-place.result.tx)) c.loop-place.lowest
    → IsLowestIfAny (in_way_of c.args.tx c.args.page c.args.mode (take (c.in-Some.place + 1) c.args.lists.now)) c.if-conflicts.lowest
more c b is now =
    rw (take_more c.args.lists.now c.in-Some.place c.index-lists-place.result c.in-Some.ensures.within, ← c.index-lists-place.is, now)
    (lowest_more c.args.tx c.args.page c.args.mode (take c.in-Some.place c.args.lists.now) c.index-lists-place.result c.loop-place.lowest b (is ∙ c.conflicts.ensures) (up_to_next c))

pub loop-place-preserved : goal.loop-place-preserved
loop-place-preserved c = record {
  within = let next = c.in-Some.ensures.within in omega arith;
  lowest_so_far =
      elim c.if-conflicts.branch [
        | then-conflicts w ↦ more c true (sym w.if-conflicts.true) (w.lowest-is ∙ ap Some (w.lower.ensures ∙ ap (λ tx. min (unwrap_or c.loop-place.lowest tx) tx) w.tx.ensures))
        | else-conflicts+else-shares w ↦ more c false (sym w.if-conflicts.false) w.lowest-is
      ];
}

pub returns : goal.returns
returns c =
    let all : take (length c.args.lists.now) c.args.lists.now ≡ c.args.lists.now = take_all (length c.args.lists.now) c.args.lists.now (omega arith) in
    let in_all = passed_over c.args.tx c.args.page c.args.mode c.args.lists.now c.args.mask c.loop-place.start c.requires.marked (length c.args.lists.now) c.loop-place.invariant.within (omega arith) c.in_default.ensures in
    lowest_of_table c.args.tx c.args.page c.args.mode c.args.lists.now c.loop-place.lowest c.requires.sound.one_list_each
    (subst (λ (lists : List HeldPages). IsLowestIfAny (in_way_of c.args.tx c.args.page c.args.mode lists) c.loop-place.lowest) all
    (same_lowest _ _ c.loop-place.lowest in_all c.loop-place.invariant.lowest_so_far))

pub returns-then-shares : goal.returns-then-shares
returns-then-shares c =
    let list = c.index-lists-place.result in
    let shares = sym c.shares.ensures ∙ c.if-shares.true in
    nobody_against_shared c.args.lists.now c.args.tx c.args.page c.in-Some.place c.args.mode list c.requires.sound c.in-Some.ensures.within
    (ap (λ (pages : HeldPages). option_map_or (λ held. goes_with held c.args.mode) (map.get pages.modes c.args.page) false) (sym c.index-lists-place.is) ∙ shares)
