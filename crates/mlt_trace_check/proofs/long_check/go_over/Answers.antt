use Rattle.std.proofs.Common.{◌≡◌, ◌+◌, ◌≤◌, [], ◌++◌, ℕ, List, true, ◌==◌, IfErr, IfOk, length, take, refl, sym, subst, ◌∙◌, arith, length-take, append-nil}
use Rattle.std.proofs.lemmas.List.{nil_from_length}
use Rattle.mlt_trace_check.proofs.Names.{err_from_is_err_and, on_err_all, GoesOver, Refuses, serial_lines}
use Rattle.mlt_text.proofs.Pieces.{nothing_read}
use Rattle.mlt_trace_check.{specs.LongTexts.IsFirstFaultRead, proofs.Refusals.refused_want}
use Rattle.mlt_trace_check.proofs.Pieces.{goes_further, left_fits, reads_more, rest_by_length, starts, stops_here, stops_somewhere, stops_telling, told_of}
use Rattle.mlt_trace_check.proofs.long_check.go_over.Goals as goal

pub pieces-init : goal.pieces-init
pieces-init g c = record {
  going = starts c.new-progress.result _ _ [] c.new-progress.ensures.checker c.new-progress.ensures.line c.new-progress.ensures.txs refl;
  held = omega arith;
}

pub returns-in_err-count-clause-stopped : goal.returns-in_err-count-clause-stopped
returns-in_err-count-clause-stopped g c =
    let l = c.pieces in
    let now = reads_more _ _ _ _ _ _ l.invariant.going _ [] (take l.held l.buffer ++ []) (nothing_read _ _ c.in_err-count.ensures.err) refl in
    on_err_all _ _ (stops_here _ _ _ _ _ _ now)

pub returns-in_err-tell_commits-clause-told : goal.returns-in_err-tell_commits-clause-told
returns-in_err-tell_commits-clause-told g c =
    let p = err_from_is_err_and c.from_residual-in_err-tell_commits.result c.from_residual-in_err-tell_commits.ensures.1 in
    rw (p.1, p.2) (refused_want (IsFirstFaultRead _ _) c.in_err-tell_commits.field-0.0 c.in_err-tell_commits.ensures.refusal)

pub returns-in_err-tell_commits-clause-stopped : goal.returns-in_err-tell_commits-clause-stopped
returns-in_err-tell_commits-clause-stopped g c =
    let f = c.in_ok-count.ensures.ok in
    let text = take (c.pieces.held + c.in_ok-count.count) c.fill.new.buffer in
    let now = reads_more _ _ _ _ _ _ c.pieces.invariant.going _ f.0 text f.5 f.1 in
    on_err_all _ _ (stops_telling _ _ _ _ _ _ now c.take_lines-went.new.self _ (stops_somewhere c.take_lines-went.result c.pieces.progress c.take_lines-went.new.self text c.take_lines-went.ensures.ok c.take_lines-went.ensures.stopped) c.in_err-tell_commits.ensures.err)

pub returns-in_err-left-clause-told : goal.returns-in_err-left-clause-told
returns-in_err-left-clause-told g c =
    let p = err_from_is_err_and c.from_residual-in_err-left.result c.from_residual-in_err-left.ensures.1 in
    let l = c.pieces in
    let f = c.in_ok-count.ensures.ok in
    let text = take (l.held + c.in_ok-count.count) c.fill.new.buffer in
    let now = reads_more _ _ _ _ _ _ l.invariant.going _ f.0 text f.5 f.1 in
    let refuses = subst (λ r. IfErr r (λ refusal. Refuses refusal l.progress text (c.in_ok-count.count == 0))) c.in_err-left.was c.take_lines-went.ensures.refused in
    rw (p.1, p.2) (told_of _ _ _ _ _ _ now c.in_err-left.field-0.0 (c.in_ok-count.count == 0) refuses (λ is. f.6 (grind arith)))

pub returns-in_err-left-clause-stopped : goal.returns-in_err-left-clause-stopped
returns-in_err-left-clause-stopped g c =
    let f = c.in_ok-count.ensures.ok in
    let text = take (c.pieces.held + c.in_ok-count.count) c.fill.new.buffer in
    let now = reads_more _ _ _ _ _ _ c.pieces.invariant.going _ f.0 text f.5 f.1 in
    on_err_all _ _ (stops_telling _ _ _ _ _ _ now c.take_lines-went.new.self _ (stops_somewhere c.take_lines-went.result c.pieces.progress c.take_lines-went.new.self text c.take_lines-went.ensures.ok c.take_lines-went.ensures.stopped)
    (serial_lines c.take_lines-went.new.self.txs.items, [], sym (append-nil _), c.in_ok-tell_commits.ensures.ok))

pub returns-then-ended-clause-ok : goal.returns-then-ended-clause-ok
returns-then-ended-clause-ok g c =
    let l = c.pieces in
    let f = c.in_ok-count.ensures.ok in
    let text = take (l.held + c.in_ok-count.count) c.fill.new.buffer in
    let w = c.take_lines-went in
    let k = subst (λ r. IfOk r (λ left. (rest : List ℕ) × (length rest ≡ left) × GoesOver l.progress w.new.self text rest)) c.in_ok-left.was w.ensures.ok in
    let done = subst (λ r. IfOk r (λ left. (c.in_ok-count.count == 0) ≡ true → left ≡ 0)) c.in_ok-left.was w.ensures.done in
    let ended = c.if-ended.true in
    let now = reads_more _ _ _ _ _ _ l.invariant.going _ f.0 text f.5 f.1 in (
      goes_further _ _ _ _ _ _ now w.new.self _ _ k.0 [] k.2 c.in_ok-tell_commits.ensures.ok refl refl c.in_ok-tell_commits.ensures.none (sym (nil_from_length k.0 (k.1 ∙ done (rw ended refl)))),
      f.6 ended,
      c.in_ok-tell_commits.ensures.none,
    )

pub overflow_sub-end : goal.overflow_sub-end
overflow_sub-end g c =
    let text = take (c.pieces.held + c.in_ok-count.count) c.fill.new.buffer in
    let w = c.take_lines-went in
    let k = subst (λ r. IfOk r (λ left. (rest : List ℕ) × (length rest ≡ left) × GoesOver c.pieces.progress w.new.self text rest)) c.in_ok-left.was w.ensures.ok in
    let fits = left_fits text k.2.front k.0 c.in_ok-left.left k.2.cut k.1 in
    omega (arith, fits, length-take (c.pieces.held + c.in_ok-count.count) c.fill.new.buffer)

pub pieces-preserved : goal.pieces-preserved
pieces-preserved g c =
    let l = c.pieces in
    let f = c.in_ok-count.ensures.ok in
    let end = l.held + c.in_ok-count.count in
    let text = take end c.fill.new.buffer in
    let w = c.take_lines-went in
    let k = subst (λ r. IfOk r (λ left. (rest : List ℕ) × (length rest ≡ left) × GoesOver l.progress w.new.self text rest)) c.in_ok-left.was w.ensures.ok in
    let short = subst (λ r. IfOk r (λ left. left ≤ 200)) c.in_ok-left.was w.ensures.short in
    let within = f.4 in
    let buffer = c.fill.auto.buffer in
    let size : length text ≡ end = omega (arith, within, buffer, length-take end c.fill.new.buffer) in
    let fits : c.in_ok-left.left ≤ length text = left_fits text k.2.front k.0 c.in_ok-left.left k.2.cut k.1 in
    let kept : take c.keep-held.result c.keep-held.new.buffer ≡ k.0 = c.keep-held.ensures.bytes ∙ rest_by_length text k.2.front k.0 end c.in_ok-left.left size k.2.cut k.1 in
    let held = c.keep-held.ensures.held in
    let now = reads_more _ _ _ _ _ _ l.invariant.going _ f.0 text f.5 f.1 in
    record {
      going = goes_further _ _ _ _ _ _ now w.new.self _ _ k.0 (take c.keep-held.result c.keep-held.new.buffer) k.2 c.in_ok-tell_commits.ensures.ok refl refl c.in_ok-tell_commits.ensures.none kept;
      held = omega (arith, held, short, fits, size);
    }

pub returns-clause-stopped : goal.returns-clause-stopped
returns-clause-stopped g c =
    let l = c.pieces in
    stops_here _ _ _ _ _ _ l.invariant.going
