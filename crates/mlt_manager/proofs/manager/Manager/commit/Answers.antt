use Rattle.mlt_manager.proofs.{Keeping.is_counted, Kept.commit_kept}
use Rattle.mlt_manager.proofs.manager.Manager.commit.Goals as goal

pub commit-requires : goal.commit-requires
commit-requires g c = record { sound = is_counted _ _ c.self.invariant _ c.count.ensures }

pub invariant_of-self : goal.invariant_of-self
invariant_of-self g c = commit_kept _ _ _ (is_counted _ _ c.self.invariant _ c.count.ensures) c.args.tx c.commit.result c.commit.ensures.answers
