use Rattle.mlt_script.proofs.PlainForms.{of_amount, of_element, of_one}
use Rattle.mlt_script.proofs.plain.op_after.Goals as goal

pub returns-in-Some : goal.returns-in-Some
returns-in-Some c = of_one _ _ _ _ _ c.in_ok-number.ensures c.in-Some.ensures

pub returns-in-Some-op_of_amount : goal.returns-in-Some-op_of_amount
returns-in-Some-op_of_amount c =
    rw c.with.ensures (of_amount c.args.keyword _ _ _ _ _ _ c.in_ok-number.ensures c.in_ok-after.ensures.some c.in_ok-second.ensures c.in_default.ensures _ c.in-Some-op_of_amount.ensures)

pub returns : goal.returns
returns c =
    of_element c.args.keyword _ _ _ _ _ _ c.in_ok-number.ensures c.in_ok-after.ensures.some c.in_ok-second.ensures c.in_default.ensures _
    c.in_default-op_of_amount.ensures c.in_ok-op.ensures
