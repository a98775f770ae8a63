use Rattle.std.proofs.Common.{◌+◌, ℕ, Option, Some, take, get_or, ap, sym, subst, ◌∙◌, take_all}
use Rattle.mlt_object_locks.proofs.Names.{take_more, IsLowestOf, lower_of, StandsAgainst, StandsAtOne, list_at}
use Rattle.mlt_object_locks.proofs.{Clashing.lowest_with_none, Clashing.lowest_with_one, cells.lowest_clash.Goals.in-Some, cells.lowest_clash.Goals.in_default}
use Rattle.mlt_object_locks.proofs.cells.lowest_clash.Goals as goal

pub loop-place-preserved : goal.loop-place-preserved
loop-place-preserved c =
    let at = c.loop-place.place-index in
    let places = c.args.places.now in
    let cells = c.args.cells.now in
    let tx = c.args.tx in
    let done = c.args.done.now in
    let more = sym (take_more places at 0 c.loop-place-test.true) in
    let place = get_or places at 0 in
    let there : Option ℕ → Type 0 = λ lowest. IsLowestOf (StandsAgainst (list_at cells place) tx done) lowest in
    let next : Option ℕ → Type 0 = λ lowest. IsLowestOf (StandsAtOne cells (take (at + 1) places) tx done) lowest in
    elim c.match-lowest_clash_at.branch [
      | in-Some w ↦
          subst next (sym (w.lowest-is ∙ ap Some w.lower.ensures))
          (subst (λ ks. IsLowestOf (StandsAtOne cells ks tx done) (Some (lower_of c.loop-place.lowest w.in-Some.holder))) more
          (lowest_with_one cells (take at places) place tx done c.loop-place.lowest w.in-Some.holder c.loop-place.invariant (subst there w.in-Some.is c.lowest_clash_at.ensures)))
      | in_default w ↦
          subst next (sym w.lowest-is)
          (subst (λ ks. IsLowestOf (StandsAtOne cells ks tx done) c.loop-place.lowest) more
          (lowest_with_none cells (take at places) place tx done c.loop-place.lowest c.loop-place.invariant (subst there w.in_default.is c.lowest_clash_at.ensures)))
    ]

pub returns : goal.returns
returns c =
    subst (λ places. IsLowestOf (StandsAtOne c.args.cells.now places c.args.tx c.args.done.now) c.loop-place.lowest) (take_all c.loop-place.place-index c.args.places.now c.loop-place-test.false) c.loop-place.invariant
