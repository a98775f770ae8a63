use Rattle.std.proofs.Common.{Err, ◌+◌, refl, sym, subst, ap, ◌∙◌, arith}
use Rattle.mlt_trace_check.proofs.Names.{err_from_is_err_and, Step, Runs, Replays, dones}
use Rattle.mlt_trace_check.proofs.{Knowing.commit_fails, Knowing.is_undoing, Knowing.knows_commit, checker.Checker.commit.Goals.then-one-via-then-one, checker.Checker.commit.Goals.then-one-via-else-one+then-not-is_next}
use Rattle.mlt_trace_check.proofs.checker.Checker.commit.Goals as goal

pub returns-then-one : goal.returns-then-one
returns-then-one c = rw c.misplaced-then-one.ensures (λ items h at. (
  λ place. elim c.then-one.branch [
    | then-one-via-then-one w ↦ is_undoing c.args.self.now items c.args.tx c.in-Some.one (sym c.remove.ensures.value ∙ c.in-Some.is) w.if-one.true h place.1
    | then-one-via-else-one+then-not-is_next w ↦ w.is_next.ensures.other w.if-not-is_next.true (place.2 ∙ ap (λ n. n + 1) (sym h.commits))
  ],
  at,
))

pub returns-in_err-replay : goal.returns-in_err-replay
returns-in_err-replay c =
    let p = err_from_is_err_and c.from_residual.result c.from_residual.ensures.1 in
    rw (p.1, p.2) (commit_fails c.in_err-replay.field-0.0 c.args.self.now c.args.self.now c.args.tx c.args.number c.args.line c.in-Some.one c.replay.new.base (sym c.remove.ensures.value ∙ c.in-Some.is) c.if-one.false
    (c.is_next.ensures.next c.if-not-is_next.false) (subst (λ ops. Replays (Err c.in_err-replay.field-0.0) ops c.args.self.now.base c.replay.new.base) c.as_slice.ensures.value c.in_err-replay.ensures))

pub returns : goal.returns
returns c = λ items h at.
    knows_commit c.args.self.now _ items c.args.tx c.args.number c.in-Some.one (sym c.remove.ensures.value ∙ c.in-Some.is) c.if-one.false
    (c.is_next.ensures.next c.if-not-is_next.false) (subst (λ ops. Runs Step c.args.self.now.base (dones ops) c.replay.new.base) c.as_slice.ensures.value c.in_ok-replay.ensures)
    c.remove.ensures.updates.1 (λ other apart. c.remove.ensures.updates.2 other (grind arith)) refl refl h
