use Rattle.std.proofs.Common.{ap, sym, subst, ◌∙◌}
use Rattle.mlt_page_locks.specs.LockTables.{LockTable}
use Rattle.mlt_hash_tests.{specs.Desks.IsOfSmallNumbers, proofs.SmallNumbers.small_none}
use Rattle.mlt_hash_tests.proofs.page_locks.new_desk.Goals as goal

pub invariant_of-result : goal.invariant_of-result
invariant_of-result c = record {
  small = subst (λ (t : LockTable). IsOfSmallNumbers t) (sym c.in_ok-locks.ensures.empty) (small_none c.program.result.max_open);
  room = ap (λ (t : LockTable). t.max_open) c.in_ok-locks.ensures.empty ∙ c.program.ensures.open;
}
