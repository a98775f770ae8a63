use Rattle.mlt_script.proofs.PlainForms.{op_found}
use Rattle.mlt_script.proofs.plain.front_op.Goals as goal

pub returns : goal.returns
returns c = op_found _ _ _ c.op_after.result c.in_ok-keyword.ensures c.op_after.ensures
