use Rattle.std.proofs.Common.{Err, ap, flat_map}
use Rattle.std.proofs.{KnownBytes.Keeps-refl, lemmas.Result.err_from_is_err_and}
use Rattle.mlt_text.proofs.Failing.{finished, unfinished, unread, unwritten}
use Rattle.mlt_manager_solo.proofs.Names.{outcome_text}
use Rattle.mlt_manager_solo.proofs.Alls.{new_rests, solo_text}
use Rattle.mlt_manager_solo.proofs.engine.solo.Goals as goal

pub run_all-ran-requires : goal.run_all-ran-requires
run_all-ran-requires g c =
    record { rest = new_rests g.P.Pseudo.bits_of c.in_ok-manager.manager c.args.limits c.args.pseudo c.in_ok-manager.ensures.opening (g.met.P.Pseudo.has_64_bits c.in_ok-manager.manager.root.pseudo) }

pub returns-in-Ok-written-clause-text : goal.returns-in-Ok-written-clause-text
returns-in-Ok-written-clause-text g c =
    let text = solo_text _ _ _ _ c.in_ok-manager.ensures.opening _ _ _ _ _ _ _ _ c.as_slice.ensures.value c.as_slice-2.ensures.value c.in_ok-scripts.ensures c.in_ok-read.ensures.spelled c.in-Ok.ensures.run in
    (c.in_ok-input.input.items, flat_map outcome_text c.in-Ok.outcomes, (c.in_ok-input.ensures.ok, text), c.in-Ok-written.ensures.ok)

pub returns-in_err-input-clause-failure : goal.returns-in_err-input-clause-failure
returns-in_err-input-clause-failure g c =
    let p = err_from_is_err_and c.from_residual.result c.from_residual.ensures.1 in
    unread _ _ _ _ _ c.from_residual.result c.in_err-input.ensures.bounded (rw (p.1, p.2) c.in_err-input.ensures.refusals) (Keeps-refl _)

pub returns-in_err-scripts-clause-failure : goal.returns-in_err-scripts-clause-failure
returns-in_err-scripts-clause-failure g c = unwritten _ _ _ _ _ c.from_residual-in_err-scripts.result c.in_ok-input.input.items c.in_ok-input.ensures.ok (Keeps-refl _)

pub returns-in_err-read-clause-failure : goal.returns-in_err-read-clause-failure
returns-in_err-read-clause-failure g c = unwritten _ _ _ _ _ c.from_residual-in_err-read.result c.in_ok-input.input.items c.in_ok-input.ensures.ok (Keeps-refl _)

pub returns-in_err-manager-clause-failure : goal.returns-in_err-manager-clause-failure
returns-in_err-manager-clause-failure g c = unwritten _ _ _ _ _ c.from_residual-in_err-manager.result c.in_ok-input.input.items c.in_ok-input.ensures.ok (Keeps-refl _)

pub returns-in-Err-clause-failure : goal.returns-in-Err-clause-failure
returns-in-Err-clause-failure g c = unwritten _ _ _ _ _ (Err c.in-Err.refusal) c.in_ok-input.input.items c.in_ok-input.ensures.ok (Keeps-refl _)

pub returns-in-Ok-written-clause-failure : goal.returns-in-Ok-written-clause-failure
returns-in-Ok-written-clause-failure g c = finished _ _ _ _ _ c.run_all-ran.new.desk.manager c.in_ok-input.input.items c.in_ok-input.ensures.ok

pub returns-clause-failure : goal.returns-clause-failure
returns-clause-failure g c =
    let text = solo_text _ _ _ _ c.in_ok-manager.ensures.opening _ _ _ _ _ _ _ _ c.as_slice.ensures.value c.as_slice-2.ensures.value c.in_ok-scripts.ensures c.in_ok-read.ensures.spelled c.in-Ok.ensures.run in
    unfinished _ _ _ _ _ c.in-Err-written.refusal c.in_ok-input.input.items (flat_map outcome_text c.in-Ok.outcomes) c.run_all-ran.new.desk.manager c.in_ok-input.ensures.ok text
    c.in-Err-written.ensures.refusal (λ memory. c.in-Err-written.ensures.memory (ap Err memory)) (λ io. c.in-Err-written.ensures.io (ap Err io))
