use Rattle.std.proofs.Common.{subst}
use Rattle.mlt_serve_session.proofs.Names.{AppendsFront, on_err_all}
use Rattle.mlt_serve_session.proofs.Listening.{not_written}
use Rattle.mlt_serve_session.proofs.sessions.reply.Goals as goal

pub returns-in_err-write_text-clause-err : goal.returns-in_err-write_text-clause-err
returns-in_err-write_text-clause-err g c =
    let written = subst (AppendsFront (g.W.Write.contents c.args.writer.now) (g.W.Write.contents c.write_text.new.writer)) c.as_slice.ensures.value c.in_err-write_text.ensures.err in
    let unwritten = not_written _ _ c.in_ok-at.ensures.ok.0 c.in_ok-at.ensures.ok.1 c.clear.ensures.items written in
    on_err_all _ _ unwritten.stopped

pub returns-in_err-write_text-clause-io : goal.returns-in_err-write_text-clause-io
returns-in_err-write_text-clause-io g c _ =
    let written = subst (AppendsFront (g.W.Write.contents c.args.writer.now) (g.W.Write.contents c.write_text.new.writer)) c.as_slice.ensures.value c.in_err-write_text.ensures.err in
    not_written _ _ c.in_ok-at.ensures.ok.0 c.in_ok-at.ensures.ok.1 c.clear.ensures.items written
