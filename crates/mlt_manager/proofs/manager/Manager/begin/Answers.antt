use Rattle.mlt_manager.proofs.{Keeping.is_counted, Kept.begin_kept}
use Rattle.mlt_manager.proofs.manager.Manager.begin.Goals as goal

pub begin-requires : goal.begin-requires
begin-requires g c = record { sound = is_counted _ _ c.self.invariant _ c.count.ensures }

pub invariant_of-self : goal.invariant_of-self
invariant_of-self g c = begin_kept _ _ _ (is_counted _ _ c.self.invariant _ c.count.ensures) c.begin.result c.begin.ensures.answers
