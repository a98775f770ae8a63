use Rattle.std.proofs.Common.{◌≡◌, length, map, All}
use Rattle.mlt_work.specs.{ClaimHandles.IsOf, ClaimHandles.view_of, Claims.view, Places.IsClientRun, Places.place_of, Places.scripts_of_clients, Runs.AreRunWith}
use Rattle.mlt_work.proofs.worker.run_claimed.Given as goal

abbrev pub invariant-claims : goal.invariant-claims
invariant-claims g l = record {
  seat : IsOf l.counter l.claim_handle;
  view : view_of l.claim_handle ≡ view 1 1 (length l.clients) (map place_of l.runs.items);
  given : l.desk.tries.given ≡ l.fn.desk.tries.given;
  each : All (IsClientRun (AreRunWith g.P.Pseudo.bits_of l.fn.desk.tries.given) (scripts_of_clients l.clients)) l.runs.items;
}
