use Rattle.std.proofs.Common.{refl, arith}
use Rattle.mlt_trace_check.proofs.Knowing.{knows_begin, no_place_to_begin}
use Rattle.mlt_trace_check.proofs.checker.Checker.begin.Goals as goal

pub returns-then-not-may_begin : goal.returns-then-not-may_begin
returns-then-not-may_begin c =
    let low = c.may_begin.ensures.below c.if-not-may_begin.true in
    rw c.misplaced.ensures (λ items h at. (no_place_to_begin c.args.self.now.begun _ c.args.tx low.0 h.begun low.1 low.2, at))

pub returns : goal.returns
returns c = λ items h at.
    let updates = c.in_ok-insert.ensures.updates in
    knows_begin c.args.self.now _ items c.args.tx _ c.new.ensures.items refl (c.may_begin.ensures.above c.if-not-may_begin.false)
    updates.1 (λ other apart. updates.2 other (grind arith)) refl refl refl h
