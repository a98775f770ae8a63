-- What live records mean as a base. Live records are a finite map from the numbers of keys to values.
use Rattle.std.specs.Prelude.{◌≡◌, ℕ, ◌^◌, ◌<◌, List, [], ◌∷◌, Option, None, Some}
use Rattle.std.specs.FinMap as map
use Rattle.std.specs.Ordering.{nat_cmp}
use Rattle.mlt_types.specs.{declared.cell.Cell.Cell, declared.cell.Cell.TheVariants.Size, Cells.IsInRange, Cells.key_number, Maps.with_entry}
use Rattle.mlt_object_kinds.specs.{declared.operation.ObjOp.ObjOp, declared.operation.ObjReply.ObjReply, Bases.Base, Bases.size_at, Bases.state_at, Cells.CellStep, Operations.cell_of}
use Rattle.mlt_object_base.specs.{declared.record.RecordChanges.RecordChanges, declared.record.RecChange.RecChange, Records.IsRecord, Records.counter_of_record, Records.record_after, Records.state_of_record}
use Rattle.mlt_object_base.specs.Effects.{changes_on, inverse_of, reply_of, size_change_of, size_inverse_of}

-- The records mean the base: each cell that there can be has a record that it can have, and holds what that means; any
-- other holds nothing. And the value of each size record is the number of the elements of its set; a set without one has
-- none.
pub record Means (records : map.FinMap nat_cmp ℕ) (base : Base) : Type 0 where
  pub can_be : (c : Cell) → IsInRange c → IsRecord c (map.get records (key_number c))
  pub holds : (c : Cell) → IsInRange c → state_at base c ≡ state_of_record c (map.get records (key_number c))
  pub elsewhere : (c : Cell) → (IsInRange c → ⊥) → state_at base c ≡ state_of_record c None
  pub sized : (s : ℕ) → s < 2 ^ 16 → counter_of_record (map.get records (key_number (Size s))) ≡ size_at base s

-- the records after changes, made one after the other
abbrev pub records_after : map.FinMap nat_cmp ℕ → List (Cell × RecChange) → map.FinMap nat_cmp ℕ
records_after records [] = records
records_after records (change ∷ changes) =
    let live = map.get records (key_number change.0) in
    let now = with_entry records (key_number change.0) (record_after (Some change.1) live) in
    records_after now changes

-- the record of a cell
abbrev pub record_in : map.FinMap nat_cmp ℕ → Cell → Option ℕ
record_in records cell = map.get records (key_number cell)

-- the size record of the set that an operation on an element is on
abbrev pub size_record_in : map.FinMap nat_cmp ℕ → ObjOp → Option ℕ
size_record_in records (ObjOp.Element s e action) = record_in records (Size s)
size_record_in records _ = None

-- what an operation is told by the records, and what it changes of them
abbrev pub told_by : map.FinMap nat_cmp ℕ → ObjOp → ObjReply
told_by records op = (reply_of op (record_in records (cell_of op))).0

abbrev pub changes_of : map.FinMap nat_cmp ℕ → ObjOp → RecordChanges
changes_of records op = record {
  own = (reply_of op (record_in records (cell_of op))).1;
  size = size_change_of (op, told_by records op) (size_record_in records op);
}

-- what undoes an operation that was told its reply
abbrev pub changes_back : ObjOp × ObjReply → RecordChanges
changes_back x = record { own = inverse_of x; size = size_inverse_of x }

-- the records after all that an operation changes of them, and after all that undoing it changes
abbrev pub records_done : map.FinMap nat_cmp ℕ → ObjOp → map.FinMap nat_cmp ℕ
records_done records op = records_after records (changes_on op (changes_of records op))

abbrev pub records_undone : map.FinMap nat_cmp ℕ → ObjOp × ObjReply → map.FinMap nat_cmp ℕ
records_undone records x = records_after records (changes_on x.0 (changes_back x))

-- the record of the operation's own cell, with the change made, if there is one
abbrev pub own_record : map.FinMap nat_cmp ℕ → ObjOp → Option RecChange → Option ℕ
own_record records op change = record_after change (record_in records (cell_of op))

-- The operation changes the record of its cell so that the cell makes its step.
pub record Undergoes (records : map.FinMap nat_cmp ℕ) (op : ObjOp) : Type 0 where
  pub in_range : IsInRange (cell_of op)
  pub can_be : IsRecord (cell_of op) (own_record records op (changes_of records op).own)
  pub steps : CellStep (state_of_record (cell_of op) (record_in records (cell_of op)))
      (op, told_by records op)
      (state_of_record (cell_of op) (own_record records op (changes_of records op).own))

-- Undoing the operation changes the record of its cell so that the cell goes back before the step.
pub record UndergoesBack (records : map.FinMap nat_cmp ℕ) (x : ObjOp × ObjReply) : Type 0 where
  pub in_range : IsInRange (cell_of x.0)
  pub can_be : IsRecord (cell_of x.0) (own_record records x.0 (inverse_of x))
  pub steps : CellStep (state_of_record (cell_of x.0) (own_record records x.0 (inverse_of x))) x
      (state_of_record (cell_of x.0) (record_in records (cell_of x.0)))
