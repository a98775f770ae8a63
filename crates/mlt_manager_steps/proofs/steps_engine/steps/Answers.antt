use Rattle.std.proofs.Common.{ap, Err, inl, inr, string_bytes}
use Rattle.std.proofs.{KnownBytes.Keeps-refl, lemmas.Result.err_from_is_err_and}
use Rattle.mlt_text.proofs.Failing.{finished, unfinished, unread, unwritten}
use Rattle.mlt_manager_steps.proofs.StepsTexts.{is_steps_text}
use Rattle.mlt_manager_steps.proofs.steps_engine.steps.Goals as goal

pub returns-in_err-input-clause-failure : goal.returns-in_err-input-clause-failure
returns-in_err-input-clause-failure g c =
    let p = err_from_is_err_and c.from_residual.result c.from_residual.ensures.1 in
    unread _ _ _ _ _ c.from_residual.result c.in_err-input.ensures.bounded (rw (p.1, p.2) c.in_err-input.ensures.refusals) (Keeps-refl _)

pub returns-in_err-events-clause-failure : goal.returns-in_err-events-clause-failure
returns-in_err-events-clause-failure g c = unwritten _ _ _ _ _ c.from_residual-in_err-events.result c.in_ok-input.input.items c.in_ok-input.ensures.ok (Keeps-refl _)

pub returns-in_err-manager-clause-failure : goal.returns-in_err-manager-clause-failure
returns-in_err-manager-clause-failure g c = unwritten _ _ _ _ _ c.from_residual-in_err-manager.result c.in_ok-input.input.items c.in_ok-input.ensures.ok (Keeps-refl _)

pub returns-in-Ok-clause-failure : goal.returns-in-Ok-clause-failure
returns-in-Ok-clause-failure g c = finished _ _ _ _ _ c.in_ok-manager.manager c.in_ok-input.input.items c.in_ok-input.ensures.ok

pub returns-clause-failure : goal.returns-clause-failure
returns-clause-failure g c =
    elim c.in-Err.ensures.refusal [
      | inl same ↦ unwritten _ _ _ _ _ (Err c.in-Err.refusal) c.in_ok-input.input.items c.in_ok-input.ensures.ok (c.in-Err.ensures.memory (ap Err same))
      | inr same ↦
          let told = c.in-Err.ensures.io (ap Err same) in
          let manager = c.in_ok-manager.manager in
          let is_text = is_steps_text g.P.Pseudo.bits_of c.args.limits c.args.pseudo c.args.explains c.as_slice.result.now c.in_ok-input.input.items c.as_slice-2.result.now c.in_ok-events.events.items (string_bytes c.in_ok-manager.lines) told.0 manager
          c.as_slice.ensures.value c.as_slice-2.ensures.value c.in_ok-events.ensures.spelled c.in_ok-manager.ensures.plays told.1 in
          unfinished _ _ _ _ _ c.in-Err.refusal c.in_ok-input.input.items told.0 manager c.in_ok-input.ensures.ok is_text c.in-Err.ensures.refusal (λ memory. c.in-Err.ensures.memory (ap Err memory)) (λ io. told.2)
    ]
