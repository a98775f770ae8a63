use Rattle.std.proofs.Common.{◌≡◌, ◌∙◌, ◌+◌, ◌-◌, ◌^◌, ◌++◌, Some, ap, min, arith, sym}
use Rattle.mlt_work_desk.proofs.{Adding.event_begins, Adding.has_begun, Counting.one_event, Counting.same_making, Playing.one_more_made, Replying.keeps_reply}
use Rattle.mlt_trace.specs.Numbers.{begun_txs}
use Rattle.mlt_manager.specs.Courses.{course_of}
use Rattle.mlt_work_desk.specs.{Holds.txs_begun, declared.log_handles.Past.Past}
use Rattle.mlt_work_desk.proofs.locked_state.LockedState.act.Goals as goal

pub invariant_of-self-clause-counted : goal.invariant_of-self-clause-counted
invariant_of-self-clause-counted g c =
    let counts : c.act-told.new.self.events ≡ min (c.args.self.now.manager.events + 1) (2 ^ 64 - 1) = one_event g.P.Pseudo.bits_of c.args.event c.act-told.result c.args.self.now.manager c.act-told.new.self c.act-told.ensures.meets in
    let before = c.args.self.now.counted in
    let total = c.add.ensures.total in
    omega (arith, counts, before, total)

pub invariant_of-self-clause-made : goal.invariant_of-self-clause-made
invariant_of-self-clause-made g c =
    ap Some (same_making g.P.Pseudo.bits_of c.args.event c.act-told.result c.args.self.now.manager c.act-told.new.self c.act-told.ensures.meets) ∙ c.args.self.now.made

pub invariant_of-self-clause-made_by : goal.invariant_of-self-clause-made_by
invariant_of-self-clause-made_by g c =
    one_more_made _ _ c.args.event c.act-told.result c.args.self.now.manager c.act-told.new.self (ap (λ (past : Past). past.acts) c.see_act.ensures.past)
    (one_event g.P.Pseudo.bits_of c.args.event c.act-told.result c.args.self.now.manager c.act-told.new.self c.act-told.ensures.meets) c.act-told.ensures.course c.act-told.ensures.items c.args.self.now.made_by

pub see_act-requires-clause-grows : goal.see_act-requires-clause-grows
see_act-requires-clause-grows g c =
    let adds = c.act-told.ensures.items in
    (adds.0, adds.1 ∙ ap (λ xs. xs ++ adds.0) (sym c.args.self.now.logged))

pub see_act-requires-clause-begins : goal.see_act-requires-clause-begins
see_act-requires-clause-begins g c =
    event_begins (course_of c.args.self.now.manager) (course_of c.act-told.new.self) c.args.event c.act-told.result _ _ c.act-told.ensures.items
    ∙ ap (λ xs. begun_txs xs ++ txs_begun c.args.event c.act-told.result) (sym c.args.self.now.logged)

pub returns-clause-begun : goal.returns-clause-begun
returns-clause-begun g c = has_begun c.args.event c.act-told.result _ _ c.see_act.ensures.begun

pub returns-clause-sees : goal.returns-clause-sees
returns-clause-sees g c =
    let adds = c.act-told.ensures.items in
    let first = c.see_act.ensures.first.items in
    record {
      between = first.0;
      course = course_of c.args.self.now.manager;
      next = course_of c.act-told.new.self;
      here = adds.0;
      whole = ap (λ (past : Past). past.items) (c.see_act.ensures.seen ∙ c.see_act.ensures.past) ∙ adds.1 ∙ ap (λ xs. xs ++ adds.0) (sym c.args.self.now.logged ∙ first.1);
      adds = adds.2;
    }

pub returns-clause-keeps : goal.returns-clause-keeps
returns-clause-keeps g c =
    keeps_reply (course_of c.args.self.now.manager) (course_of c.act-told.new.self) c.args.event c.act-told.result c.args.self.now.manager c.act-told.new.self c.kept_history.result.now
    c.kept_history.ensures c.act-told.ensures.handed c.act-told.ensures.items
