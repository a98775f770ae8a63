use Rattle.std.proofs.Common.{◌≡◌, ◌<◌, ◌==◌, ℕ, take, count_by, get_or, length}
use Rattle.mlt_manager_solo.proofs.Names.{IsAtRest, HasRunAll}
use Rattle.mlt_manager_solo.proofs.running.run_all.Given as goal

abbrev pub invariant-loop-script : goal.invariant-loop-script
invariant-loop-script g l = record {
  rest : IsAtRest g.P.Pseudo.bits_of l.desk.manager;
  ran : HasRunAll g.P.Pseudo.bits_of (take l.script-index l.scripts) l.fn.desk.manager l.desk.manager l.outcomes;
  long : length l.numbers ≡ 1000;
  counted : (client : ℕ) → client < 1000 → get_or l.numbers client 0 ≡ count_by (λ p. p.client == client) (take l.script-index l.scripts);
}
