use Rattle.std.proofs.Common.{ap, sym, subst, ◌∙◌}
use Rattle.mlt_page_locks.specs.LockTables.{LockTable}
use Rattle.mlt_hash_tests.{specs.Desks.IsOfSmallNumbers, proofs.SmallNumbers.small_released}
use Rattle.mlt_hash_tests.proofs.page_locks.PageDesk.release_all.Goals as goal

pub invariant_of-self : goal.invariant_of-self
invariant_of-self c = record {
  small = subst (λ (t : LockTable). IsOfSmallNumbers t) (sym c.release_all.ensures.released) (small_released c.args.self.now.locks c.args.tx c.args.self.now.small);
  room = ap (λ (t : LockTable). t.max_open) c.release_all.ensures.released ∙ c.args.self.now.room;
}
