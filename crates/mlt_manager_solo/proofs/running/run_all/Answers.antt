use Rattle.std.proofs.Common.{◌≡◌, ◌+◌, ◌<◌, ◌++◌, ◌∷◌, [], ℕ, List, take, get_or, sym, ap, subst, ◌∙◌, arith, take_all, length-set}
use Rattle.std.proofs.lemmas.List.{take_more, get_or-replicate, length-replicate}
use Rattle.mlt_manager_solo.proofs.Names.{ScriptForm, HasRunAll}
use Rattle.mlt_script_serial.proofs.Appends.{counted_push, next_number}
use Rattle.mlt_manager_solo.proofs.{Alls.none_run, Alls.one_more_run, AtDesk.run_at_rest}
use Rattle.mlt_manager_solo.proofs.running.run_all.Goals as goal

pub loop-script-init : goal.loop-script-init
loop-script-init g c = rw (c.new-outcomes.ensures, c.no_scripts-numbers.ensures) record {
  rest = c.requires.rest;
  ran = none_run g.P.Pseudo.bits_of c.args.desk.now.manager;
  long = length-replicate {A = ℕ} 1000 0;
  counted = λ client below. get_or-replicate 1000 client 0 0 below;
}

pub loop-script-preserved : goal.loop-script-preserved
loop-script-preserved g c =
    let l = c.loop-script in
    let scripts = c.args.scripts.now in
    let script = c.script-item.result in
    let before = take l.script-index scripts in
    let o = c.in_ok-outcome.outcome in
    let more : take (l.script-index + 1) scripts ≡ before ++ script ∷ [] =
    take_more scripts l.script-index script c.loop-script-test.true ∙ ap (λ (s : ScriptForm). before ++ s ∷ []) (sym c.script-item.is) in
    let small : script.client < 1000 = omega (arith, c.client-client.ensures.client, c.client-client.ensures.limit) in
    let ran = run_at_rest g.P.Pseudo.bits_of (λ d. d.manager) script l.desk o.tx o.done o.end c.run_script.new.desk l.invariant.rest c.in_ok-outcome.ensures.run in
    rw (more, c.in_ok-push.ensures.ok) record {
      rest = ran.0;
      ran = one_more_run g.P.Pseudo.bits_of before c.args.desk.now.manager l.desk.manager c.run_script.new.desk.manager l.outcomes script o l.invariant.ran ran.1 c.in_ok-outcome.ensures.client
          (c.in_ok-outcome.ensures.number ∙ rw c.client-client.ensures.client (next_number l.numbers before script l.invariant.long small l.invariant.counted));
      long = length-set l.numbers c.client-client.result (get_or l.numbers c.client-client.result 0 + 1) ∙ l.invariant.long;
      counted = rw c.client-client.ensures.client (counted_push l.numbers before script l.invariant.long small l.invariant.counted);
    }

pub returns-clause-run : goal.returns-clause-run
returns-clause-run g c =
    let l = c.loop-script in
    subst (λ (ss : List ScriptForm). HasRunAll g.P.Pseudo.bits_of ss c.args.desk.now.manager l.desk.manager l.outcomes) (take_all l.script-index c.args.scripts.now c.loop-script-test.false) l.invariant.ran
