use Rattle.std.proofs.Common.{subst, ◌∙◌}
use Rattle.mlt_trace_check.proofs.Names.{Answers, IsFirstFault}
use Rattle.mlt_trace_check.specs.Answering.{IsOrderOf}
use Rattle.mlt_trace_check.proofs.Exactness.{accepted_of, all_given, only_accepted, only_faulty, refused_for}
use Rattle.mlt_trace_check.proofs.trace_check.check.Goals as goal

pub returns-clause-accepted : goal.returns-clause-accepted
returns-clause-accepted g c = accepted_of c.check_text.result _ _ c.in_ok-input.input.items c.in_ok-input.ensures.ok (subst (Answers IsOrderOf c.check_text.result) c.as_slice.ensures.value c.check_text.ensures)

pub returns-clause-fault : goal.returns-clause-fault
returns-clause-fault g c = λ line cause is. (
  c.in_ok-input.input.items,
  c.in_ok-input.ensures.ok,
  subst (λ text. IsFirstFault text line cause) c.as_slice.ensures.value (subst (λ r. Answers IsOrderOf r c.as_slice.result.now) is c.check_text.ensures),
)

pub returns-clause-only_accepted : goal.returns-clause-only_accepted
returns-clause-only_accepted g c = λ input txs base had.
    let whole = c.in_ok-input.ensures.ok in
    let same = all_given _ _ input c.in_ok-input.input.items had whole.0 whole.1 in
    only_accepted IsOrderOf c.check_text.result input txs base (subst (Answers IsOrderOf c.check_text.result) (c.as_slice.ensures.value ∙ same) c.check_text.ensures)

pub returns-clause-only_faulty : goal.returns-clause-only_faulty
returns-clause-only_faulty g c = λ input line cause had.
    let whole = c.in_ok-input.ensures.ok in
    let same = all_given _ _ input c.in_ok-input.input.items had whole.0 whole.1 in
    only_faulty IsOrderOf c.check_text.result input line cause (subst (Answers IsOrderOf c.check_text.result) (c.as_slice.ensures.value ∙ same) c.check_text.ensures)

pub returns-clause-refusals : goal.returns-clause-refusals
returns-clause-refusals g c = refused_for IsOrderOf c.check_text.result c.as_slice.result.now c.check_text.ensures
