use Rattle.std.proofs.Common.{◌+◌, take, sym, subst, ◌∙◌}
use Rattle.mlt_object_locks.proofs.Names.{take_more, GivesUp}
use Rattle.mlt_object_locks.proofs.{Changes.gives_up_kept, Changes.gives_up_more, Changes.nothing_given_up, Membership.is_among, Membership.is_not_among, cells.give_up_each.Goals.then-not-is_among, cells.give_up_each.Goals.else-not-is_among}
use Rattle.mlt_object_locks.proofs.cells.give_up_each.Goals as goal

pub loop-place-init : goal.loop-place-init
loop-place-init c = nothing_given_up c.args.cells.now c.args.kept.now c.args.tx c.requires

pub loop-place-preserved : goal.loop-place-preserved
loop-place-preserved c =
    let at = c.loop-place.place-index in
    let places = c.args.places.now in
    let kept = c.args.kept.now in
    let tx = c.args.tx in
    let start = c.args.cells.now in
    let mid = c.loop-place.cells in
    let so_far = c.loop-place.invariant in
    let more = sym (take_more places at 0 c.loop-place-test.true) in
    elim c.if-not-is_among.branch [
      | then-not-is_among w ↦
          subst (λ cells. GivesUp start cells (take (at + 1) places) kept tx) (sym w.cells-is)
          (subst (λ ks. GivesUp start w.give_up.new.cells ks kept tx) more
          (gives_up_more start mid w.give_up.new.cells (take at places) _ tx w.give_up.ensures.others kept so_far (is_not_among kept _ (sym c.is_among.ensures ∙ w.if-not-is_among.true)) w.give_up.ensures.given_up))
      | else-not-is_among w ↦
          subst (λ cells. GivesUp start cells (take (at + 1) places) kept tx) (sym w.cells-is)
          (subst (λ ks. GivesUp start mid ks kept tx) more
          (gives_up_kept start mid (take at places) kept _ tx so_far (is_among kept _ (sym c.is_among.ensures ∙ w.if-not-is_among.false))))
    ]
