use Rattle.std.proofs.Common.{◌≡◌, ◌≤◌, ◌<◌, ℕ, length, take, IfSome, None, slice_index_or}
use Rattle.mlt_work.specs.{Places.AreAllOutcomes, Places.HasRunAt, Places.IsClientRun, Places.scripts_of_clients, Runs.AreRunWith}
use Rattle.mlt_work.proofs.collecting.flatten.Given as goal

abbrev pub invariant-loop-i : goal.invariant-loop-i
invariant-loop-i g l = record {
  len : length l.slots.items ≡ length l.clients;
  full : (j : ℕ) → l.i ≤ j → j < length l.clients → HasRunAt l.slots.items j;
  placed : (j : ℕ) → l.i ≤ j → j < length l.clients
      → IfSome (slice_index_or l.slots.items j None) (λ run. (run.place ≡ j) × IsClientRun (AreRunWith g.P.Pseudo.bits_of g.L.MadeWith.tries) (scripts_of_clients l.clients) run);
  done : AreAllOutcomes (AreRunWith g.P.Pseudo.bits_of g.L.MadeWith.tries) (take l.i (scripts_of_clients l.clients)) l.outcomes.items;
}
