-- What stands below a mark of a conflict table.
use Rattle.std.specs.Prelude.{Option, MatchOption}
use Rattle.mlt_object_conflicts.specs.{declared.elements.ElementClass.ElementClass, Sizes.CommutesWithSizes}
use Rattle.mlt_object_tables.specs.{declared.orders.Orders.Orders, SizeOrders.IsSizeInOrders}

-- an example of an operation of the class and of sizes of its set, in all orders; none where the two never conflict
abbrev pub AreSizeOrdersOf : ElementClass → Option (Orders × Orders) → Type 0
AreSizeOrdersOf class shown = MatchOption shown (CommutesWithSizes class) (IsSizeInOrders class)
