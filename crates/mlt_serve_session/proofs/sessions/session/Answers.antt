use Rattle.std.proofs.Common.{ap, refl, ◌∙◌}
use Rattle.mlt_serve_session.proofs.{Closing.none_pending, Reaching.same_error}
use Rattle.mlt_serve_session.proofs.Telling.{answers_done, answers_long, answers_broken, answers_nothing}
use Rattle.mlt_serve_session.proofs.sessions.session.Goals as goal

pub returns-then-progress-clause-answers : goal.returns-then-progress-clause-answers
returns-then-progress-clause-answers g c =
    answers_long _ _ _ _ _ _ c.new-notes.ensures.progress refl
    (none_pending c.args.client c.new-notes.result c.new-notes.ensures.progress ∙ c.new-notes.ensures.outcomes ∙ ap g.K.Receipts.receipts c.replace.ensures.value) c.finish.ensures.outcomes
    c.finish.ensures.asked c.in_ok-listened.ensures.ok c.if-progress.true

pub returns-clause-answers : goal.returns-clause-answers
returns-clause-answers g c =
    answers_done _ _ _ _ _ _ c.new-notes.ensures.progress refl
    (none_pending c.args.client c.new-notes.result c.new-notes.ensures.progress ∙ c.new-notes.ensures.outcomes ∙ ap g.K.Receipts.receipts c.replace.ensures.value) c.finish.ensures.outcomes
    c.finish.ensures.asked _ refl refl c.in_ok-listened.ensures.ok c.if-progress.false

pub returns-in_err-listened-clause-answers : goal.returns-in_err-listened-clause-answers
returns-in_err-listened-clause-answers g c =
    answers_broken _ _ _ _ _ _ c.new-notes.ensures.progress refl
    (none_pending c.args.client c.new-notes.result c.new-notes.ensures.progress ∙ c.new-notes.ensures.outcomes ∙ ap g.K.Receipts.receipts c.replace.ensures.value) c.finish.ensures.outcomes
    c.finish.ensures.asked _ _ c.from_residual.ensures.1 c.in_err-listened.ensures.refusal c.in_err-listened.ensures.err
    (λ io. c.in_err-listened.ensures.io (same_error _ _ _ c.from_residual.ensures.1 io))

pub returns-in_default-clause-answers : goal.returns-in_default-clause-answers
returns-in_default-clause-answers g c = answers_nothing _ _ _
