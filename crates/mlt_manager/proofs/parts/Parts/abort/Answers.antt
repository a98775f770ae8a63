use Rattle.std.proofs.Common.{refl, ap, subst, ◌≡◌, ◌≤◌, ◌+◌, ℕ, arith}
use Rattle.mlt_manager.proofs.Names.{err_from_is_err_and, IsIdleWith, TraceItem, fields_of}
use Rattle.mlt_manager.proofs.Ending.{ended_at, room_to_end}
use Rattle.mlt_manager.proofs.parts.Parts.abort.Goals as goal

pub returns-in_err-count-clause-answers : goal.returns-in_err-count-clause-answers
returns-in_err-count-clause-answers g c =
    let p = err_from_is_err_and c.from_residual.result c.from_residual.ensures.1 in
    rw (p.1, p.2) (c.in_err-count.ensures.refusal, refl)

pub close-requires-clause-room : goal.close-requires-clause-room
close-requires-clause-room g c =
    let zero_left : c.in_ok-count.count ≡ 0 = c.if-count-eq0.true in
    subst (λ (n : ℕ). 1 + n ≤ c.args.self.now.shared.history.room) zero_left (room_to_end g.P.Pseudo.bits_of (fields_of c.args.self.now) c.args.tx c.in_ok-count.count c.requires.sound c.in_ok-count.ensures.idle)

pub returns-then-count-eq0-clause-answers : goal.returns-then-count-eq0-clause-answers
returns-then-count-eq0-clause-answers g c = record {
  nothing = subst (IsIdleWith c.args.self.now.txs c.args.tx) c.if-count-eq0.true c.in_ok-count.ensures.idle;
  ends = ended_at (fields_of c.args.self.now) (fields_of c.close.new.self) c.close.new.self.commits c.args.tx (TraceItem.Abort c.args.tx) c.close.ensures.ends;
  rest = ap fields_of c.close.ensures.rest;
}

pub returns-clause-answers : goal.returns-clause-answers
returns-clause-answers g c = record {
  count = c.in_ok-count.count;
  idle = c.in_ok-count.ensures.idle;
  some = omega (arith, c.if-count-eq0.false);
  puts = c.undo.ensures.puts;
  rest = refl;
}
