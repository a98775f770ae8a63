use Rattle.std.proofs.Common.{refl, add-zero}
use Rattle.mlt_serve_session.proofs.Names.{Refused, Replied}
use Rattle.mlt_serve_session.{proofs.Closing.noted_open, specs.Noting.replied_noted}
use Rattle.mlt_serve_session.proofs.turn.operation.Goals as goal

pub returns-in-Ok-clause-told : goal.returns-in-Ok-clause-told
returns-in-Ok-clause-told g c =
    record {
      moved = (refl, c.in-Ok.ensures);
      noted_so = noted_open (replied_noted c.args.op (Replied c.in-Ok.reply)) _ _ c.args.tx _ _ _ _ c.requires.is_open (rw (c.push_reserved.ensures.items, c.reserve.ensures.items, c.new.ensures) refl);
      after = simp add-zero;
    }

pub returns-in-Err-clause-told : goal.returns-in-Err-clause-told
returns-in-Err-clause-told g c =
    record {
      moved = (refl, c.in-Err.ensures);
      noted_so = noted_open (replied_noted c.args.op (Refused c.in-Err.refusal)) _ _ c.args.tx _ _ _ _ c.requires.is_open (rw c.reserve.ensures.items refl);
      after = simp add-zero;
    }
