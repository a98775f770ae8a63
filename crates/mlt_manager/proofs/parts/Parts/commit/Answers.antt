use Rattle.std.proofs.Common.{refl, ◌+◌}
use Rattle.mlt_manager.proofs.Names.{err_from_is_err_and, TraceItem, fields_of}
use Rattle.mlt_manager.proofs.Ending.{ended_at, room_to_end}
use Rattle.mlt_manager.proofs.parts.Parts.commit.Goals as goal

pub returns-in_err-count-clause-answers : goal.returns-in_err-count-clause-answers
returns-in_err-count-clause-answers g c =
    let p = err_from_is_err_and c.from_residual.result c.from_residual.ensures.1 in
    rw (p.1, p.2) (c.in_err-count.ensures.refusal, refl)

pub close-requires-clause-room : goal.close-requires-clause-room
close-requires-clause-room g c = room_to_end g.P.Pseudo.bits_of (fields_of c.args.self.now) c.args.tx c.in_ok-count.count c.requires.sound c.in_ok-count.ensures.idle

pub returns-clause-answers : goal.returns-clause-answers
returns-clause-answers g c = record {
  next = refl;
  ends = ended_at (fields_of c.args.self.now) (fields_of c.close.new.self) (c.args.self.now.commits + 1) c.args.tx (TraceItem.Commit c.args.tx (c.args.self.now.commits + 1)) c.close.ensures.ends;
  rest = λ i. record (fields_of ((c.close.ensures.rest) i)) { commits = c.args.self.now.commits + 1 };
}
