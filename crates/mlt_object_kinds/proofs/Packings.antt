-- What was packed is unpacked as it was.
use Rattle.std.proofs.Common.{◌≡◌, refl}
use Rattle.mlt_object_kinds.specs.declared.account.AccountOp.TheVariants.{Open, Close, Deposit, Withdraw, Balance}
use Rattle.mlt_object_kinds.specs.declared.{element.ElementOp.TheVariants.Add, element.ElementOp.TheVariants.Remove, element.ElementOp.TheVariants.Has, counter.CounterOp.TheVariants.Up, counter.CounterOp.TheVariants.Down, counter.CounterOp.TheVariants.Read, operation.ObjOp.ObjOp, operation.ObjOp.TheVariants.Account, operation.ObjOp.TheVariants.Element, operation.ObjOp.TheVariants.Counter, operation.ObjOp.TheVariants.Size, operation.ObjReply.ObjReply, operation.ObjReply.TheVariants.Opened}
use Rattle.mlt_object_kinds.specs.Packing.{op_of, op_kind, set_of, number_of, amount_of, reply_of, reply_kind, told_of}

pub packed_op : (op : ObjOp) → op_of (op_kind op) (set_of op) (number_of op) (amount_of op) ≡ op
packed_op (Account number Open) = refl
packed_op (Account number Close) = refl
packed_op (Account number (Deposit amount)) = refl
packed_op (Account number (Withdraw amount)) = refl
packed_op (Account number Balance) = refl
packed_op (Element set number Add) = refl
packed_op (Element set number Remove) = refl
packed_op (Element set number Has) = refl
packed_op (Counter number (Up amount)) = refl
packed_op (Counter number (Down amount)) = refl
packed_op (Counter number Read) = refl
packed_op (Size set) = refl

pub packed_reply : (reply : ObjReply) → reply_of (reply_kind reply) (told_of reply) ≡ reply
packed_reply reply =
    elim reply as (λ reply. reply_of (reply_kind reply) (told_of reply) ≡ reply) [ Opened ↦ refl | _ ↦ refl ]
