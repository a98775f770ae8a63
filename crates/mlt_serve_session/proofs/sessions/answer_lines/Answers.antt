use Rattle.std.proofs.Common.{arith, refl}
use Rattle.mlt_serve_session.proofs.Names.{on_err_all}
use Rattle.mlt_serve_session.proofs.Reaching.{reaches_more, reaches_none, broke_here}
use Rattle.mlt_serve_session.proofs.sessions.answer_lines.Goals as goal

pub loop-notes-init : goal.loop-notes-init
loop-notes-init g c =
    record {
      reaches = reaches_none _ _ _ _ _ c.requires.going;
      lines = omega arith;
      commits = (let h = c.requires.small in omega arith);
      begun = (let h = c.requires.small in omega arith);
    }

pub returns-in_err-said-clause-err : goal.returns-in_err-said-clause-err
returns-in_err-said-clause-err g c = on_err_all _ _ (broke_here c.loop-notes.invariant.reaches c.in_err-said.ensures.err)

pub returns-in_err-push_said-clause-err : goal.returns-in_err-push_said-clause-err
returns-in_err-push_said-clause-err g c =
    on_err_all _ _ (broke_here (reaches_more c.loop-notes.invariant.reaches c.in-Some.count c.loop-notes-test.true c.in-Some.ensures c.in_ok-said.ensures.ok refl) refl)

pub loop-notes-preserved : goal.loop-notes-preserved
loop-notes-preserved g c =
    let counted = c.in_ok-said.ensures.lines in
    let next = c.in-Some.ensures.0 in
    let lines = c.loop-notes.invariant.lines in
    record {
      reaches = reaches_more c.loop-notes.invariant.reaches c.in-Some.count c.loop-notes-test.true c.in-Some.ensures c.in_ok-said.ensures.ok c.in_ok-push_said.ensures;
      lines = omega arith;
      commits = c.in_ok-said.ensures.commits;
      begun = c.in_ok-said.ensures.begun;
    }
