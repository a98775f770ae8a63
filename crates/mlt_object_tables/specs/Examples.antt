-- What the orders of an example are.
use Rattle.std.specs.Prelude.{◌≡◌, Option}
use Rattle.mlt_object_kinds.specs.declared.operation.{ObjOp.ObjOp, ObjReply.ObjReply}
use Rattle.mlt_object_conflicts.specs.{declared.example.Example.Example, Tables.IsExample}
use Rattle.mlt_object_tables.specs.declared.{cell_value.CellValue.CellValue, orders.OpOrder.OpOrder, orders.Orders.Orders}

-- from the state the first operation is done and then the second, each with the reply that it is told, and the cell holds
-- then what they leave
pub record IsOrder {S O R : Type 0} (step : S → O → R → S → Type 0)
    (done_of : O → R → ObjOp × ObjReply) (value_of : S → CellValue)
    (state : S) (first second : O) (order : OpOrder) : Type 0 where
  pub between : S
  pub after : S
  pub reply : R
  pub answer : R
  pub earlier : step state first reply between
  pub later : step between second answer after
  pub shown_first : order.first ≡ done_of first reply
  pub shown_second : order.second ≡ done_of second answer
  pub shown_after : order.after ≡ value_of after

-- there is an example of the conflict of the classes, and these are its two operations in both orders
pub record IsExampleInOrders {S O R C : Type 0} (step : S → O → R → S → Type 0)
    (class_of : O → R → Option C) (done_of : O → R → ObjOp × ObjReply)
    (value_of : S → CellValue) (held asked : C) (orders : Orders) : Type 0 where
  pub example : Example S O R
  pub breaks : IsExample step class_of held asked example
  pub before : orders.before ≡ value_of example.state
  pub held_first : IsOrder step done_of value_of example.state example.first example.second orders.held_first
  pub asked_first : IsOrder step done_of value_of example.state example.second example.first orders.asked_first
