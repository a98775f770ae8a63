use Rattle.std.proofs.Common.{◌≡◌, Err, refl, sym, subst}
use Rattle.mlt_object_kinds.specs.Bases.{Base, TranscriptLeads, Transcript}
use Rattle.mlt_script.specs.declared.statement.Ending.{Ending}
use Rattle.mlt_script_serial.{specs.Follows.Follows, specs.declared.base_desk.BaseDesk.BaseDesk, proofs.Played.plays_partial, proofs.Played.plays_runs, proofs.run.attempt.Goals.in-Ok-Abort, proofs.run.attempt.Goals.in-Err}
use Rattle.mlt_script_serial.proofs.run.attempt.Goals as goal

abbrev base_of : BaseDesk → Base
base_of d = d.base

pub returns-in-Ok-Commit-clause-run : goal.returns-in-Ok-Commit-clause-run
returns-in-Ok-Commit-clause-run c =
    let plays = rw c.in-Ok-Commit.field-0-is at c.in-Ok-Commit.ensures in
    (plays.0, plays_runs base_of c.args.script.now 0 c.args.desk.now c.play.new.done.items c.play.result c.play.new.desk c.play.ensures, refl, refl)

pub returns-clause-run : goal.returns-clause-run
returns-clause-run c =
    let script = c.args.script.now in
    let done = c.play.new.done.items in
    let played = plays_runs base_of script 0 c.args.desk.now done c.play.result c.play.new.desk c.play.ensures in
    let listed : TranscriptLeads c.args.desk.now.base c.as_slice.result.now c.play.new.desk.base = subst (λ (t : Transcript). TranscriptLeads c.args.desk.now.base t c.play.new.desk.base) (sym c.as_slice.ensures.value) played in
    let back : c.take_back.new.base ≡ c.args.desk.now.base = c.in_ok-take_back.ensures.ok c.args.desk.now.base listed in
    elim c.match-play.branch [
      | in-Ok-Abort w ↦ rw w.end-is (subst (λ (e : Ending). Follows script done e) w.in-Ok-Abort.field-0-is w.in-Ok-Abort.ensures.0, (c.play.new.desk.base, played), back, refl)
      | in-Err w ↦ rw w.end-is (plays_partial base_of script 0 c.args.desk.now done (Err w.in-Err.refusal) c.play.new.desk w.in-Err.ensures, (c.play.new.desk.base, played), back, refl)
    ]
