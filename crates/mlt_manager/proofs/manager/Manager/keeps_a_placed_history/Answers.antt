use Rattle.std.proofs.Common.{subst}
use Rattle.mlt_manager.proofs.Names.{ArePlaced, AreBegunInOrder, ManagerFields}
use Rattle.mlt_manager.proofs.manager.Manager.keeps_a_placed_history.Goals as goal

abbrev HasPlaces : {P : Type 0} → ManagerFields P → Type 0
HasPlaces m = ArePlaced m.shared.history.items

abbrev BeginsInOrder : {P : Type 0} → ManagerFields P → Type 0
BeginsInOrder m = AreBegunInOrder m.shared.history.items

pub returns-clause-placed : goal.returns-clause-placed
returns-clause-placed g c = subst HasPlaces c.self.view_is c.self.invariant.traced.placed

pub returns-clause-begun : goal.returns-clause-begun
returns-clause-begun g c = subst BeginsInOrder c.self.view_is c.self.invariant.sound.begun
