use Rattle.std.proofs.Common.{◌≡◌, ◌+◌, ◌-◌, ◌*◌, ◌^◌, ◌++◌, vec_len, min, IsPermutation, false}
use Rattle.mlt_work_desk.specs.LogHandles.{IsOf, begun_by}
use Rattle.mlt_serve.specs.{Desks.AreGiven, Tellings.HasBegunAll}
use Rattle.mlt_serve.proofs.Names.{AreOfClients, TellsOutcomes, AllHaveMemory, all_outcomes}
use Rattle.mlt_serve.proofs.gathering.gather.Given as goal

abbrev pub invariant-loop-thread : goal.invariant-loop-thread
invariant-loop-thread g l = record {
  parts : l.all.parts + 2 + 2 * vec_len l.rest ≡ 131;
  events : l.gathered.events ≡ min l.all.amount (2 ^ 64 - 1);
  outcomes : l.gathered.is_short ≡ false → IsPermutation (all_outcomes l.fn.threads.items) (all_outcomes l.rest.items ++ g.K.Receipts.receipts l.gathered.outcomes);
  clients : l.gathered.is_short ≡ false → AreOfClients l.gathered.last (g.K.Receipts.receipts l.gathered.outcomes);
  given : l.gathered.is_short ≡ false → AreGiven g.P.Pseudo.bits_of g.L.MadeWith.tries (g.K.Receipts.receipts l.gathered.outcomes);
  of_log : IsOf g.L.MadeWith.log_id l.begun;
  begun : l.gathered.is_short ≡ false → HasBegunAll (g.K.Receipts.receipts l.gathered.outcomes) (begun_by l.begun);
  manager : l.desks.state.manager ≡ l.initial.desks.state.manager;
  told : l.gathered.is_short ≡ false → TellsOutcomes l.initial.desks.state.manager.shared.history.items (g.K.Receipts.receipts l.gathered.outcomes);
  short : l.gathered.is_short ≡ false → AllHaveMemory l.rest.items → AllHaveMemory l.fn.threads.items;
}

abbrev pub decreases-loop-thread : goal.decreases-loop-thread
decreases-loop-thread g l = vec_len l.rest
