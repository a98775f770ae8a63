use Rattle.std.proofs.Common.{rules, ◌≡◌, ◌+◌, ◌∷◌, ◌++◌, ◌∙◌, [], take, length, ap, sym, arith, length-take-le}
use Rattle.std.proofs.lemmas.List.{take_more}
use Rattle.mlt_script.specs.Scripts.{ScriptForm}
use Rattle.mlt_script_serial.{specs.Clients.IsOutcome, proofs.Runs.outcomes_more, proofs.Runs.runs_more}
use Rattle.mlt_script_serial.proofs.client.run_client.Goals as goal

pub loop-i-preserved : goal.loop-i-preserved
loop-i-preserved g c =
    let l = c.loop-i in
    let scripts = c.args.scripts.now in
    let script = c.index-scripts-i.result in
    let o = c.run_or_refuse-outcome.result in
    let more : take (l.i + 1) scripts ≡ take l.i scripts ++ script ∷ [] = take_more scripts l.i script c.loop-i-test.true ∙ ap (λ (s : ScriptForm). take l.i scripts ++ s ∷ []) (sym c.index-scripts-i.is) in
    let long : length (take l.i scripts) ≡ l.i = length-take-le l.i scripts (omega arith) in
    let one : IsOutcome script (l.i + 1) o = record { client = c.run_or_refuse-outcome.ensures.client; number = c.run_or_refuse-outcome.ensures.number; ended = c.run_or_refuse-outcome.ensures.ended } in
    rw (more, c.push_reserved.ensures.items) record {
      outcomes = outcomes_more 0 (take l.i scripts) l.outcomes.items script o (l.i + 1) l.invariant.outcomes one (omega arith);
      runs = runs_more _ (take l.i scripts) c.args.desk.now l.outcomes.items l.desk script o c.run_or_refuse-outcome.new.desk l.invariant.runs c.run_or_refuse-outcome.ensures.ran;
      one_each = search rules;
      room = search rules;
    }
