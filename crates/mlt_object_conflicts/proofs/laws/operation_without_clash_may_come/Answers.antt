use Rattle.mlt_object_conflicts.proofs.BaseOrder.{did_may_come}
use Rattle.mlt_object_conflicts.proofs.laws.operation_without_clash_may_come.Goals as goal

pub returns : goal.returns
returns c = did_may_come
