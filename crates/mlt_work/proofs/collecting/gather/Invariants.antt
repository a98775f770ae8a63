use Rattle.std.proofs.Common.{◌≡◌, ◌⊎◌, ◌<◌, ◌+◌, ◌-◌, ◌^◌, length, vec_len, min, All, false}
use Rattle.mlt_work.specs.{ClaimHandles.IsOf, ClaimHandles.view_of, Places.AreInPlace, Places.HaveRuns, Places.scripts_of_clients, Runs.AreRunWith, Workers.HasDrawnPast, Workers.HasWorked}
use Rattle.mlt_work.proofs.collecting.gather.Given as goal

abbrev pub invariant-loop-worked : goal.invariant-loop-worked
invariant-loop-worked g l = record {
  seat : IsOf l.counter l.first;
  some : 0 < (view_of l.first).parts;
  parts : (view_of l.first).parts + vec_len l.rest ≡ 9;
  share : l.all.parts + vec_len l.rest ≡ 9;
  events : l.events ≡ min l.all.amount (2 ^ 64 - 1);
  each : All (λ worked. HasWorked (AreRunWith g.P.Pseudo.bits_of g.L.MadeWith.tries) l.counter (scripts_of_clients l.clients) worked.claim_handle worked.runs.items worked.failed) l.rest.items;
  len : length l.slots.items ≡ length l.clients;
  placed : AreInPlace (AreRunWith g.P.Pseudo.bits_of g.L.MadeWith.tries) (scripts_of_clients l.clients) l.slots.items;
  filled : l.failed ≡ false → HaveRuns (view_of l.first).drawn l.slots.items;
  past : l.failed ≡ false → (vec_len l.rest ≡ vec_len l.fn.results) ⊎ HasDrawnPast (length l.clients) (view_of l.first).drawn;
}

abbrev pub decreases-loop-worked : goal.decreases-loop-worked
decreases-loop-worked g l = vec_len l.rest
