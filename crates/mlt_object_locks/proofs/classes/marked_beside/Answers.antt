use Rattle.std.proofs.Common.{◌+◌, ℕ, take, sym, subst, ◌∙◌, take_all}
use Rattle.mlt_object_locks.proofs.Names.{take_more, CLASSES}
use Rattle.mlt_object_locks.proofs.{ClassLaws.HasMarked, ClassLaws.all_seen, ClassLaws.marked_more, ClassLaws.unmarked_more, classes.marked_beside.Goals.then-are_marked, classes.marked_beside.Goals.else-are_marked}
use Rattle.mlt_object_locks.proofs.classes.marked_beside.Goals as goal

pub loop-held-preserved : goal.loop-held-preserved
loop-held-preserved c =
    let at = c.loop-held.held-index in
    let set = c.loop-held.set in
    let next : ℕ → Type 0 = λ n. HasMarked n c.args.requested (take (at + 1) CLASSES) in
    elim c.if-are_marked.branch [
      | then-are_marked w ↦
          subst next (sym w.set-is)
          (subst (HasMarked w.with-set.result c.args.requested) (sym (take_more CLASSES at _ c.loop-held-test.true))
          (marked_more set c.args.requested (take at CLASSES) _ c.loop-held.invariant w.with-set.result w.with-set.ensures (sym c.are_marked.ensures ∙ w.if-are_marked.true)))
      | else-are_marked w ↦
          subst next (sym w.set-is)
          (subst (HasMarked set c.args.requested) (sym (take_more CLASSES at _ c.loop-held-test.true))
          (unmarked_more set c.args.requested (take at CLASSES) _ c.loop-held.invariant (sym c.are_marked.ensures ∙ w.if-are_marked.false)))
    ]

pub returns : goal.returns
returns c =
    all_seen c.loop-held.set c.args.requested
    (subst (HasMarked c.loop-held.set c.args.requested) (take_all c.loop-held.held-index CLASSES c.loop-held-test.false) c.loop-held.invariant)
