use Rattle.std.proofs.Common.{◌+◌, ℕ, Option, Some, take, ap, sym, subst, ◌∙◌, true≢false, take_all}
use Rattle.mlt_object_locks.proofs.Names.{IsLowestInTheWay}
use Rattle.mlt_object_locks.proofs.{Lowest.front_with, Lowest.front_without, holders.lowest_in_the_way.Goals.then-stands_in, holders.lowest_in_the_way.Goals.else-stands_in}
use Rattle.mlt_object_locks.proofs.holders.lowest_in_the_way.Goals as goal

pub loop-holder-preserved : goal.loop-holder-preserved
loop-holder-preserved c =
    let holders = c.args.holders.now in
    let at = c.loop-holder.holder-index in
    let holder = c.holder-item.result in
    let tx = c.args.tx in
    let against = c.args.against.now in
    let next : Option ℕ → Type 0 = λ lowest. IsLowestInTheWay (take (at + 1) holders) tx against lowest in
    elim c.if-stands_in.branch [
      | then-stands_in w ↦
          subst next (sym (w.lowest-is ∙ ap Some w.lower.ensures))
          (front_with holders at holder tx against c.loop-holder.lowest c.loop-holder-test.true (sym c.holder-item.is) c.loop-holder.invariant (c.stands_in.ensures.0 w.if-stands_in.true))
      | else-stands_in w ↦
          subst next (sym w.lowest-is)
          (front_without holders at holder tx against c.loop-holder.lowest c.loop-holder-test.true (sym c.holder-item.is) c.loop-holder.invariant
          (λ stands. true≢false (sym (c.stands_in.ensures.1 stands) ∙ w.if-stands_in.false)))
    ]

pub returns : goal.returns
returns c = subst (λ holders. IsLowestInTheWay holders c.args.tx c.args.against.now c.loop-holder.lowest) (take_all c.loop-holder.holder-index c.args.holders.now c.loop-holder-test.false) c.loop-holder.invariant
