use Rattle.std.proofs.Common.{refl, ap, add-zero}
use Rattle.mlt_serve_session.proofs.Names.{Refused, committed_noted}
use Rattle.mlt_serve_session.proofs.Closing.{noted_open, closed}
use Rattle.mlt_serve_session.proofs.turn.commit.Goals as goal

pub returns-in-Ok : goal.returns-in-Ok
returns-in-Ok g c =
    let progress = c.close.ensures.progress in
    record {
      moved = (refl, c.in-Ok.ensures);
      noted_so = closed _ _ c.args.tx c.in-Ok.number _ _ _ _ _ _ _ c.requires.is_open (ap (λ p. p.tx) progress) c.close.ensures.outcomes;
      after = simp (progress, add-zero);
    }

pub returns-in-Err : goal.returns-in-Err
returns-in-Err g c =
    record {
      moved = (refl, c.in-Err.ensures);
      noted_so = noted_open (committed_noted (Refused c.in-Err.refusal)) _ _ c.args.tx _ _ _ _ c.requires.is_open refl;
      after = simp add-zero;
    }
