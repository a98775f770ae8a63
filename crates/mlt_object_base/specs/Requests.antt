-- What an operation is asked to do, and what it does with what it finds
use Rattle.std.specs.Prelude.{ℕ, ◌+◌, ◌-◌, ◌^◌, ◌<◌, Option, None, Some, IsSome}
use Rattle.mlt_types.specs.{declared.cell.Cell.Cell, declared.mode.Mode.Mode, declared.mode.Mode.TheVariants.Exclusive, Cells.key_number}
use Rattle.mlt_object_kinds.specs.{declared.element.ElementOp.ElementOp, declared.operation.ObjOp.ObjOp, declared.operation.ObjOp.TheVariants.Element, declared.operation.ObjReply.ObjReply, Operations.cell_of}
use Rattle.mlt_object_base.specs.{declared.record.RecChange.RecChange, declared.request.Request.Request, declared.request.Request.TheVariants.Do, declared.request.Request.TheVariants.TakeBack, Records.CanChange, Records.counter_of_record}
use Rattle.mlt_object_base.specs.Effects.{access_of, inverse_of, reply_of, size_change_of, size_inverse_of}

-- the key that a request walks to, and the mode in which it locks the key's bucket
abbrev pub target_of : Request → ℕ × Mode
target_of (Do op) = access_of op
target_of (TakeBack done) = (key_number (cell_of done.0), Exclusive)

-- the key of the size record that a request may change: where an element may be added or removed,
-- and where it was
abbrev pub size_key_of : Request → Option ℕ
size_key_of (Do (Element s e ElementOp.Add)) = Some (key_number (Cell.Size s))
size_key_of (Do (Element s e ElementOp.Remove)) = Some (key_number (Cell.Size s))
size_key_of (TakeBack (Element s e ElementOp.Add, ObjReply.Added)) = Some (key_number (Cell.Size s))
size_key_of (TakeBack (Element s e ElementOp.Remove, ObjReply.Removed)) = Some (key_number (Cell.Size s))
size_key_of _ = None

-- what a request is told and changes, where it finds a record with this value or none; what is
-- taken back was told its reply
abbrev pub decision : Request → Option ℕ → ObjReply × Option RecChange
decision (Do op) found = reply_of op found
decision (TakeBack done) found = (done.1, inverse_of done)

-- what is found is what the inverse needs, where something is to be taken back
abbrev pub IsPossible : Request → Option ℕ → Type 0
IsPossible (Do op) found = Unit {0}
IsPossible (TakeBack done) found = CanChange (inverse_of done) found

-- what a request that is told the reply changes of its set's size record, where that has this
-- value, or there is none
abbrev pub size_decision : Request → ObjReply → Option ℕ → Option RecChange
size_decision (Do op) reply found = size_change_of (op, reply) found
size_decision (TakeBack done) reply found = size_inverse_of done

-- the size of its set after an operation that is told the reply, and before one that was, where it is this at the other end
abbrev pub size_after : ObjOp × ObjReply → ℕ → ℕ
size_after (Element s e ElementOp.Add, ObjReply.Added) size = size + 1
size_after (Element s e ElementOp.Remove, ObjReply.Removed) size = size - 1
size_after _ size = size

abbrev pub size_before : ObjOp × ObjReply → ℕ → ℕ
size_before (Element s e ElementOp.Add, ObjReply.Added) size = size - 1
size_before (Element s e ElementOp.Remove, ObjReply.Removed) size = size + 1
size_before _ size = size

-- the size of the set once the request is carried out and told the reply: one more, one less, or
-- the same
abbrev pub resized : Request → ObjReply → ℕ → ℕ
resized (Do op) reply size = size_after (op, reply) size
resized (TakeBack done) reply size = size_before done size

-- The size that is found can be changed: one to be raised is not the greatest, and one to be lowered is not 0. Where a
-- removal is taken back the record is there.
abbrev pub CanResize : Request → ObjReply → Option ℕ → Type 0
CanResize (Do (Element s e ElementOp.Add)) ObjReply.Added found = counter_of_record found + 1 < 2 ^ 64
CanResize (Do (Element s e ElementOp.Remove)) ObjReply.Removed found = 0 < counter_of_record found
CanResize (TakeBack (Element s e ElementOp.Add, ObjReply.Added)) reply found = 0 < counter_of_record found
CanResize (TakeBack (Element s e ElementOp.Remove, ObjReply.Removed)) reply found =
    IsSome found × (counter_of_record found + 1 < 2 ^ 64)
CanResize _ reply found = Unit {0}
