use Rattle.std.proofs.Common.{inl, inr, refl, ◌+◌, [], ◌∙◌, ap, sym, arith, length-take}
use Rattle.mlt_serve_session.proofs.Names.{on_err_all}
use Rattle.mlt_text.proofs.Pieces.{nothing_read}
use Rattle.mlt_serve_session.proofs.Reaching.{same_error}
use Rattle.mlt_serve_session.proofs.Listening.{starts, ends_here, breaks, breaks_heard, stops, stops_heard, is_over, goes_further}
use Rattle.mlt_serve_session.proofs.sessions.listen.Goals as goal

pub rounds-init : goal.rounds-init
rounds-init g c =
    record {
      listens = starts _ _ _ _ _ (ap (λ p. p.lines) c.requires.fresh);
      held = omega arith;
      total = omega arith;
      read = omega arith;
      commits = rw c.requires.fresh (omega arith);
      begun = rw c.requires.fresh (omega arith);
      going = ap (λ p. p.over) c.requires.fresh;
    }

pub returns-in_err-count-clause-err : goal.returns-in_err-count-clause-err
returns-in_err-count-clause-err g c =
    on_err_all _ _ (breaks c.rounds.invariant.listens [] (g.R.Read.remaining c.read_on.new.reader) (nothing_read _ _ c.in_err-count.ensures.err) (omega (arith, c.rounds.invariant.total)))

pub returns-in_err-count-clause-io : goal.returns-in_err-count-clause-io
returns-in_err-count-clause-io g c _ =
    breaks_heard c.rounds.invariant.listens [] _ (nothing_read _ _ c.in_err-count.ensures.err) c.rounds.invariant.total (omega (arith, c.rounds.invariant.total)) (inl refl) c.rounds.invariant.going

pub returns-then-total-gt-MAX_INPUT-clause-err : goal.returns-then-total-gt-MAX_INPUT-clause-err
returns-then-total-gt-MAX_INPUT-clause-err g c =
    let f = c.in_ok-count.ensures.ok in
    breaks c.rounds.invariant.listens f.0 _ f.5 (omega (arith, f.2, f.3, c.max-most.ensures, c.rounds.invariant.total))

pub returns-then-total-gt-MAX_INPUT-clause-io : goal.returns-then-total-gt-MAX_INPUT-clause-io
returns-then-total-gt-MAX_INPUT-clause-io g c _ =
    let f = c.in_ok-count.ensures.ok in
    breaks_heard c.rounds.invariant.listens f.0 _ f.5 c.rounds.invariant.total
    (omega (arith, f.2, f.3, c.max-most.ensures, c.rounds.invariant.total)) (inr (omega (arith, f.2, f.3, c.max-most.ensures, c.rounds.invariant.total))) c.rounds.invariant.going

pub returns-then-count-eq0-clause-ok : goal.returns-then-count-eq0-clause-ok
returns-then-count-eq0-clause-ok g c =
    let f = c.in_ok-count.ensures.ok in
    ends_here c.rounds.invariant.listens f.0 _ f.5 (omega (arith, f.2, c.if-count-eq0.true, c.rounds.invariant.total)) c.rounds.invariant.going (f.2 ∙ c.if-count-eq0.true) (f.6 c.if-count-eq0.true)

pub returns-in_err-at-clause-err : goal.returns-in_err-at-clause-err
returns-in_err-at-clause-err g c =
    let f = c.in_ok-count.ensures.ok in
    on_err_all _ _ (stops c.rounds.invariant.listens f.0 (g.R.Read.remaining c.read_on.new.reader) f.5 (omega (arith, f.2, c.if-total-gt-MAX_INPUT.false)) f.1 c.in_err-at.ensures.err)

pub returns-in_err-at-clause-io : goal.returns-in_err-at-clause-io
returns-in_err-at-clause-io g c io =
    let f = c.in_ok-count.ensures.ok in
    stops_heard c.rounds.invariant.listens f.0 _ f.5 (omega (arith, f.2, c.if-total-gt-MAX_INPUT.false)) f.1
    (c.in_err-at.ensures.io (same_error _ _ _ c.from_residual-in_err-at.ensures.1 io))

pub returns-then-notes-clause-ok : goal.returns-then-notes-clause-ok
returns-then-notes-clause-ok g c =
    let f = c.in_ok-count.ensures.ok in
    is_over c.rounds.invariant.listens f.0 _ f.5 (omega (arith, f.2, c.if-total-gt-MAX_INPUT.false)) f.1 c.in_ok-at.ensures.ok c.if-notes.true

pub rounds-preserved : goal.rounds-preserved
rounds-preserved g c =
    let f = c.in_ok-count.ensures.ok in
    let more = goes_further c.rounds.invariant.listens f.0 _ f.5 (c.rounds.total + c.in_ok-count.count) (ap (λ n. c.rounds.total + n) (sym f.2)) f.1
    c.in_ok-at.ensures.ok c.if-notes.false c.in_ok-at.ensures.lines c.keep-held.ensures.bytes in
    let short = more.short in
    let b = c.keep-held.auto.buffer in
    let k = c.read_on.auto.buffer in
    let w = f.4 in
    let h = c.keep-held.ensures.held in
    record {
      listens = more;
      held = omega (arith, length-take c.keep-held.result c.keep-held.new.buffer);
      total = omega arith;
      read = omega (arith, c.if-count-eq0.false, c.rounds.invariant.read);
      commits = c.in_ok-at.ensures.commits;
      begun = c.in_ok-at.ensures.begun;
      going = c.if-notes.false;
    }
