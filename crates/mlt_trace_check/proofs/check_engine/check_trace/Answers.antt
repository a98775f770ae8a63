use Rattle.std.proofs.Common.{◌≡◌, ◌∙◌, Err, ap, inl, inr}
use Rattle.std.proofs.KnownBytes.{Keeps-refl}
use Rattle.mlt_trace_check.proofs.Names.{err_from_is_err_and, order_text}
use Rattle.mlt_text.proofs.Failing.{unread, unwritten}
use Rattle.mlt_trace_check.proofs.Said.{all_written, fails_cleanly, is_said, only_written}
use Rattle.mlt_trace_check.proofs.check_engine.check_trace.Goals as goal

pub returns-in_err-order-clause-only_accepted : goal.returns-in_err-order-clause-only_accepted
returns-in_err-order-clause-only_accepted g c = λ input txs base had accepted.
    let p = err_from_is_err_and c.from_residual.result c.from_residual.ensures.1 in
    rw (p.1, p.2) (c.in_err-order.ensures.only_accepted input txs base had accepted)

pub returns-in_err-order-clause-only_faulty : goal.returns-in_err-order-clause-only_faulty
returns-in_err-order-clause-only_faulty g c = λ input line cause had faulty.
    let p = err_from_is_err_and c.from_residual.result c.from_residual.ensures.1 in
    rw (p.1, p.2) (c.in_err-order.ensures.only_faulty input line cause had faulty)

pub returns-clause-text : goal.returns-clause-text
returns-clause-text g c =
    let order = c.in_ok-order.order in
    let is : c.as_slice.result.now ≡ order_text order.txs.items order.base = c.as_slice.ensures.value ∙ c.in_ok-text.ensures.text in
    all_written _ _ _ _ c.as_slice.result.now c.write_text.result (is_said _ _ order.txs.items order.base c.as_slice.result.now c.in_ok-order.ensures.accepted is) c.write_text.ensures.ok

pub returns-in_err-order-clause-failure : goal.returns-in_err-order-clause-failure
returns-in_err-order-clause-failure g c =
    let p = err_from_is_err_and c.from_residual.result c.from_residual.ensures.1 in
    elim c.in_err-order.ensures.refusals [
      | inl want ↦ unread _ _ _ _ _ c.from_residual.result c.in_err-order.ensures.bounded (rw (p.1, p.2) want) (Keeps-refl _)
      | inr fault ↦
          let given = c.in_err-order.ensures.fault fault.0 fault.1 (ap Err fault.2) in
          unwritten _ _ _ _ _ c.from_residual.result given.0 given.1 (Keeps-refl _)
    ]

pub returns-in_err-text-clause-failure : goal.returns-in_err-text-clause-failure
returns-in_err-text-clause-failure g c = let given = c.in_ok-order.ensures.accepted in unwritten _ _ _ _ _ c.from_residual-in_err-text.result given.0 given.1 (Keeps-refl _)

pub returns-clause-failure : goal.returns-clause-failure
returns-clause-failure g c =
    let order = c.in_ok-order.order in
    let is : c.as_slice.result.now ≡ order_text order.txs.items order.base = c.as_slice.ensures.value ∙ c.in_ok-text.ensures.text in
    fails_cleanly _ _ _ _ c.as_slice.result.now c.write_text.result (is_said _ _ order.txs.items order.base c.as_slice.result.now c.in_ok-order.ensures.accepted is) c.write_text.ensures.err c.write_text.ensures.refusal

pub returns-clause-only_accepted : goal.returns-clause-only_accepted
returns-clause-only_accepted g c = λ input txs base had accepted.
    let order = c.in_ok-order.order in
    let is : c.as_slice.result.now ≡ order_text order.txs.items order.base = c.as_slice.ensures.value ∙ c.in_ok-text.ensures.text in
    only_written _ _ c.as_slice.result.now c.write_text.result order.txs.items txs order.base base is (c.in_ok-order.ensures.only_accepted input txs base had accepted) c.write_text.ensures.ok c.write_text.ensures.refusal

pub returns-clause-only_faulty : goal.returns-clause-only_faulty
returns-clause-only_faulty g c = λ input line cause had faulty. absurd (c.in_ok-order.ensures.only_faulty input line cause had faulty)
