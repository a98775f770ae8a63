-- The classes in the order of their tables, and the objects on which operations are shown.
use Rattle.std.specs.Prelude.{ℕ, Bool, List, [], ◌∷◌, Contains, Option, refl}
use Rattle.std.proofs.Common.{arith}
use Rattle.mlt_object_kinds.specs.declared.{account.AccountOp.AccountOp, element.ElementOp.ElementOp, counter.CounterOp.CounterOp, operation.ObjOp.ObjOp, operation.ObjReply.ObjReply}
use Rattle.mlt_object_conflicts.specs.declared.{accounts.AccountClass.AccountClass, elements.ElementClass.ElementClass, counters.CounterClass.CounterClass, counters.CounterClass.TheVariants.Counted, counters.CounterClass.TheVariants.Read}
use Rattle.mlt_object_conflicts.specs.declared.accounts.AccountClass.TheVariants.{Opened, Exists, Closed, NotEmpty, Deposited, Over, Withdrawn, Short, Balance, Missing}
use Rattle.mlt_object_conflicts.specs.declared.elements.ElementClass.TheVariants.{Added, Present, Removed, Absent, Yes, No}
use Rattle.mlt_object_tables.specs.declared.cell_value.CellValue.{CellValue}

-- the classes of accounts, in the order of the table
abbrev pub account_classes : List AccountClass
account_classes =
    Opened ∷ Exists ∷ Closed ∷ NotEmpty ∷ Deposited ∷ Over ∷ Withdrawn ∷ Short ∷ Balance ∷ Missing ∷ []

abbrev pub element_classes : List ElementClass
element_classes = Added ∷ Present ∷ Removed ∷ Absent ∷ Yes ∷ No ∷ []

abbrev pub counter_classes : List CounterClass
counter_classes = Counted ∷ Read ∷ []

-- an operation with its reply, on account 101, element 21 of set 201, or counter 301
abbrev pub on_account : AccountOp → ObjReply → ObjOp × ObjReply
on_account asked reply = (ObjOp.Account 101 asked, reply)

abbrev pub on_element : ElementOp → ObjReply → ObjOp × ObjReply
on_element asked reply = (ObjOp.Element 201 21 asked, reply)

abbrev pub on_counter : CounterOp → ObjReply → ObjOp × ObjReply
on_counter asked reply = (ObjOp.Counter 301 asked, reply)

-- that object, with what it holds
abbrev pub account_value : Option ℕ → CellValue
account_value balance = CellValue.Account 101 balance

abbrev pub element_value : Bool → CellValue
element_value present = CellValue.Element 201 21 present

abbrev pub counter_value : ℕ → CellValue
counter_value n = CellValue.Counter 301 n

-- each class is listed
pub each_account_class_is_listed : (class : AccountClass) → Contains account_classes class
each_account_class_is_listed Opened = (0, omega arith, refl)
each_account_class_is_listed Exists = (1, omega arith, refl)
each_account_class_is_listed Closed = (2, omega arith, refl)
each_account_class_is_listed NotEmpty = (3, omega arith, refl)
each_account_class_is_listed Deposited = (4, omega arith, refl)
each_account_class_is_listed Over = (5, omega arith, refl)
each_account_class_is_listed Withdrawn = (6, omega arith, refl)
each_account_class_is_listed Short = (7, omega arith, refl)
each_account_class_is_listed Balance = (8, omega arith, refl)
each_account_class_is_listed Missing = (9, omega arith, refl)

pub each_element_class_is_listed : (class : ElementClass) → Contains element_classes class
each_element_class_is_listed Added = (0, omega arith, refl)
each_element_class_is_listed Present = (1, omega arith, refl)
each_element_class_is_listed Removed = (2, omega arith, refl)
each_element_class_is_listed Absent = (3, omega arith, refl)
each_element_class_is_listed Yes = (4, omega arith, refl)
each_element_class_is_listed No = (5, omega arith, refl)

pub each_counter_class_is_listed : (class : CounterClass) → Contains counter_classes class
each_counter_class_is_listed Counted = (0, omega arith, refl)
each_counter_class_is_listed Read = (1, omega arith, refl)
