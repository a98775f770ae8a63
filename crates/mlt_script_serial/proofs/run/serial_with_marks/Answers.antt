use Rattle.std.proofs.Common.{◌≡◌, ◌+◌, ◌<◌, ◌≤◌, ◌++◌, ◌∷◌, [], ℕ, count_by, ◌==◌, take, get_or, set, length, refl, sym, ap, ◌∙◌, arith, length-set}
use Rattle.std.proofs.lemmas.List.{take_more, get_or-replicate, length-replicate}
use Rattle.mlt_types.specs.declared.refusal.Refusal.TheVariants.{OutOfMemory}
use Rattle.mlt_object_kinds.specs.Bases.{empty_base}
use Rattle.mlt_script.specs.Scripts.{ScriptForm}
use Rattle.mlt_script_serial.specs.Serial.{commits_after}
use Rattle.mlt_script_serial.proofs.Appends.{runs_push, numbered_push, outcome_marks_push, without_tx_push, counted_push, next_number, commits_after-le}
use Rattle.mlt_script_serial.proofs.run.serial_with_marks.Goals as goal

pub loop-script-init : goal.loop-script-init
loop-script-init c =
    rw (c.new-outcomes.ensures, c.new.ensures, c.no_scripts-numbers.ensures) record {
      runs = (refl, refl);
      few = omega arith;
      marks = tt;
      numbered = tt;
      without_tx = tt;
      long = length-replicate {A = ℕ} 1000 0;
      counted = λ client below. get_or-replicate 1000 client 0 0 below;
    }

pub loop-script-preserved : goal.loop-script-preserved
loop-script-preserved c =
    let l = c.loop-script in
    let scripts = c.args.scripts.now in
    let script = c.script-item.result in
    let before = take l.script-index scripts in
    let o = c.in_ok-outcome.outcome in
    let more : take (l.script-index + 1) scripts ≡ before ++ script ∷ [] =
    take_more scripts l.script-index script c.loop-script-test.true ∙ ap (λ (s : ScriptForm). before ++ s ∷ []) (sym c.script-item.is) in
    let long : length l.numbers ≡ 1000 = l.invariant.long in
    let small : script.client < 1000 = omega (arith, c.client-client.ensures.client, c.client-client.ensures.limit) in
    let counted : get_or (set l.numbers script.client (get_or l.numbers script.client 0 + 1)) script.client 0 ≡ count_by (λ p. p.client == script.client) before + 1 =
    next_number l.numbers before script long small l.invariant.counted in
    rw (more, c.in_ok-push.ensures.ok) record {
      runs = rw c.last_commit-commits.ensures
          (runs_push before empty_base l.desk.base c.run_alone.new.desk.base 0 l.commits (commits_after l.commits o.end) l.outcomes script o l.invariant.runs c.in_ok-outcome.ensures.run);
      few = let few : commits_after l.commits o.end ≤ l.commits + 1 = commits_after-le script l.desk.base c.run_alone.new.desk.base l.commits (commits_after l.commits o.end) o c.in_ok-outcome.ensures.run in
          omega (arith, c.last_commit-commits.ensures, l.invariant.few);
      marks = outcome_marks_push OutOfMemory l.outcomes o l.invariant.marks c.in_ok-outcome.ensures.mark;
      numbered = numbered_push [] before l.outcomes script o l.invariant.numbered c.in_ok-outcome.ensures.client (c.in_ok-outcome.ensures.number ∙ rw c.client-client.ensures.client counted);
      without_tx = without_tx_push l.outcomes o l.invariant.without_tx c.in_ok-outcome.ensures.tx;
      long = length-set l.numbers c.client-client.result (get_or l.numbers c.client-client.result 0 + 1) ∙ long;
      counted = rw c.client-client.ensures.client (counted_push l.numbers before script long small l.invariant.counted);
    }
