use Rattle.std.proofs.Common.{rules, ◌≡◌, true, sym, ap, ◌∙◌, eq-eqb, arith}
use denote.Enum.Bare.{same_true}
use Rattle.mlt_trace_audit.proofs.Names.{ObjOp, ObjReply, parts_of, nat_tests}
use Rattle.mlt_object_kinds.specs.declared.packed.Packed.{Packed}
use Rattle.mlt_object_kinds.specs.contracts.packed.OpKind as op_kinds
use Rattle.mlt_object_kinds.specs.contracts.packed.ReplyKind as reply_kinds
use Rattle.mlt_trace_audit.proofs.Parts.{same_by_parts}
use Rattle.mlt_trace_audit.proofs.progress.is_same.Goals as goal

pub returns-then-one-other-3 : goal.returns-then-one-other-3
returns-then-one-other-3 c =
    let one = c.packed-one.result in
    let other = c.packed-other.result in (
      λ yes.
          let same : (one.set ≡ other.set) × (one.number ≡ other.number) × (one.amount ≡ other.amount) × (one.told ≡ other.told) × (c.if-eq.value ≡ true) =
          grind (arith, nat_tests, c.if-one-other-2.branch, c.if-one-other.branch, c.if-eq-2.branch) in
          let op = same_true op_kinds.the_type (search rules) one.op other.op (grind (arith, c.if-eq.branch)) in
          let reply = same_true reply_kinds.the_type (search rules) one.reply other.reply (grind (arith, c.if-eq.branch)) in
          let parts : one ≡ other = λ d. record { op = op d; reply = reply d; set = same.0 d; number = same.1 d; amount = same.2 d; told = same.3 d } in
          same_by_parts c.args.one.now c.args.other.now (sym c.packed-one.ensures ∙ parts ∙ c.packed-other.ensures),
      λ same.
          let parts : one ≡ other = c.packed-one.ensures ∙ ap (λ (p : ObjOp × ObjReply). parts_of p.0 p.1) same ∙ sym c.packed-other.ensures in
          eq-eqb one.told other.told (ap (λ (p : Packed). p.told) parts),
    )
