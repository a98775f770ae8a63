use Rattle.std.proofs.Common.{refl, subst}
use Rattle.mlt_manager.proofs.Names.{fields_of, PassesTheChecker}
use Rattle.mlt_manager.proofs.Promises.{checker_passed}
use Rattle.mlt_manager.proofs.manager.Manager.passes_the_checker.Goals as goal

pub returns : goal.returns
returns g c = let m = fields_of c.self.inside.parts in
    subst PassesTheChecker c.self.view_is
    (checker_passed g.P.Pseudo.bits_of m c.self.invariant m.shared.history.items refl c.items_fit.ensures c.placed_items_are_writable.ensures c.history_passes_the_checker.ensures.committed)
