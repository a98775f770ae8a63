-- What the orders of an example with a size are.
use Rattle.std.specs.Prelude.{◌≡◌, Bool}
use Rattle.mlt_object_kinds.specs.{Elements.ElementStep, declared.operation.ObjOp.ObjOp, declared.operation.ObjReply.ObjReply}
use Rattle.mlt_object_conflicts.specs.{declared.elements.ElementClass.ElementClass, declared.sizes.SizeExample.SizeExample, Sizes.IsSizeExample, Sizes.told_size}
use Rattle.mlt_object_tables.specs.{declared.orders.OpOrder.OpOrder, declared.orders.Orders.Orders, Words.element_value, Words.on_element}

-- The one is held and the other one asked for: in the held one's order, and in the other. Both leave the element as it
-- is said.
abbrev pub held_then : Bool → OpOrder → OpOrder → Orders
held_then present held_first asked_first =
    record { before = element_value present; held_first = held_first; asked_first = asked_first }

-- one operation and then another one, and whether the element is in the set then
abbrev pub order_of : ObjOp × ObjReply → ObjOp × ObjReply → Bool → OpOrder
order_of first second present = record { first = first; second = second; after = element_value present }

-- There is an example of an operation of the class and of sizes of its set. These are its orders where the operation is
-- held, and where the size is.
pub record IsSizeInOrders (class : ElementClass) (orders : Orders × Orders) : Type 0 where
  pub example : SizeExample
  pub breaks : IsSizeExample class example
  pub reply : ObjReply
  pub after : Bool
  pub changes : ElementStep example.present example.op reply after
  pub operation_held : orders.0 ≡ held_then example.present
      (order_of (on_element example.op reply) (told_size 201 example.after) after)
      (order_of (told_size 201 example.before) (on_element example.op reply) after)
  pub size_held : orders.1 ≡ held_then example.present
      (order_of (told_size 201 example.before) (on_element example.op reply) after)
      (order_of (on_element example.op reply) (told_size 201 example.after) after)
