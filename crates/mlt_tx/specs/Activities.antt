-- What the fields of an activity are kept for
use Rattle.std.specs.Prelude.{Option}
use Rattle.mlt_tx_operation.specs.Operating.{OperationFields}
use Rattle.mlt_tx.specs.declared.{activity.ActivityState.ActivityState, transaction.At.At}

-- what a transaction is at, by its state, the operation that is or was pending, and the inverse that runs, if one does
abbrev pub at_of : ActivityState → OperationFields → Option OperationFields → At
at_of ActivityState.Idle operation inverting = At.Idle
at_of ActivityState.Pending operation inverting = At.Pending operation
at_of ActivityState.Undoing operation inverting = At.Undoing inverting
