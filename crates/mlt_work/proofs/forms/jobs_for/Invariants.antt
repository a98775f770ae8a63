use Rattle.std.proofs.Common.{◌≡◌, ◌+◌, vec_len, All}
use Rattle.mlt_work.specs.{ClaimHandles.IsOf, ClaimHandles.view_of, Workers.IsFresh, Workers.view_after_splits}
use Rattle.mlt_work.proofs.forms.jobs_for.Given as goal

abbrev pub invariant-loop-i : goal.invariant-loop-i
invariant-loop-i g l = record {
  len : vec_len l.jobs ≡ l.i;
  fresh : All (λ job. IsFresh l.counter l.clients job.claim_handle) l.jobs.items;
  seat : IsOf l.counter l.first;
  view : view_of l.first ≡ view_after_splits l.i l.clients;
  parts : l.all.parts + l.i ≡ 9;
  amount : l.all.amount ≡ 0;
}
