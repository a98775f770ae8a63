use Rattle.std.proofs.Common.{◌≡◌, ◌-◌, take, subst, sym, ◌∙◌, arith}
use Rattle.mlt_object_kinds.specs.Bases.{Base, TranscriptLeads}
use Rattle.mlt_object_base.proofs.TakingBack.{last_step, leads_back, was_same}
use Rattle.mlt_object_base.proofs.taking_back.take_back.Goals as goal

pub loop-left-preserved-in_ok-apply : goal.loop-left-preserved-in_ok-apply
loop-left-preserved-in_ok-apply c = record {
  within = omega (arith, c.loop-left.invariant.within);
  leads = λ before runs.
      let last = last_step before c.args.done.now c.loop-left.left c.index-done-left.result c.loop-left.base c.loop-left-test.true c.loop-left.invariant.within c.index-done-left.is (c.loop-left.invariant.leads before runs) in
      let back = leads_back c.index-done-left.result last.0 c.loop-left.base c.apply.new.self c.in-Some.op c.in_ok-apply.field-0 last.2 (sym c.opposite.ensures ∙ c.in-Some.is) c.in_ok-apply.ensures.step in
      subst (λ (z : Base). TranscriptLeads before (take (c.loop-left.left - 1) c.args.done.now) z) (sym back) last.1;
}

pub loop-left-preserved : goal.loop-left-preserved
loop-left-preserved c = record {
  within = omega (arith, c.loop-left.invariant.within);
  leads = λ before runs.
      let last = last_step before c.args.done.now c.loop-left.left c.index-done-left.result c.loop-left.base c.loop-left-test.true c.loop-left.invariant.within c.index-done-left.is (c.loop-left.invariant.leads before runs) in
      let same = was_same c.index-done-left.result last.0 c.loop-left.base last.2 (sym c.opposite.ensures ∙ c.in_default.is) in
      subst (λ (z : Base). TranscriptLeads before (take (c.loop-left.left - 1) c.args.done.now) z) (sym same) last.1;
}
