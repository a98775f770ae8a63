-- Operations with their replies are the same where their parts are.
use Rattle.std.proofs.Common.{◌≡◌, refl, sym, ap, ◌∙◌}
use Rattle.mlt_object_kinds.specs.{declared.account.AccountOp.TheVariants.Open, declared.counter.CounterOp.TheVariants.Read, declared.element.ElementOp.TheVariants.Has, declared.operation.ObjOp.TheVariants.Account, declared.operation.ObjOp.TheVariants.Element, declared.operation.ObjOp.TheVariants.Counter, declared.operation.ObjReply.TheVariants.Opened, Packing.op_in, Packing.reply_in}
use Rattle.mlt_trace_audit.proofs.Names.{ObjOp, ObjReply, parts_of}

op_of_parts : (op : ObjOp) (reply : ObjReply) → op_in (parts_of op reply) ≡ op
op_of_parts (Account number Open) reply = refl
op_of_parts (Element set number Has) reply = refl
op_of_parts (Counter number Read) reply = refl
op_of_parts other reply = refl

reply_of_parts : (op : ObjOp) (reply : ObjReply) → reply_in (parts_of op reply) ≡ reply
reply_of_parts op reply = elim reply as (λ reply. reply_in (parts_of op reply) ≡ reply) [ Opened ↦ refl | _ ↦ refl ]

pub same_by_parts : (one other : ObjOp × ObjReply) → parts_of one.0 one.1 ≡ parts_of other.0 other.1 → one ≡ other
same_by_parts one other same =
    let op : one.0 ≡ other.0 = sym (op_of_parts one.0 one.1) ∙ ap op_in same ∙ op_of_parts other.0 other.1 in
    let reply : one.1 ≡ other.1 = sym (reply_of_parts one.0 one.1) ∙ ap reply_in same ∙ reply_of_parts other.0 other.1 in
    λ d. (op d, reply d)
