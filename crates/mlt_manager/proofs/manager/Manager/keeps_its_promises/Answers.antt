use Rattle.std.proofs.Common.{subst}
use Rattle.mlt_manager.proofs.Names.{fields_of, KeepsPromises}
use Rattle.mlt_manager.proofs.Promises.{promises_kept}
use Rattle.mlt_manager.proofs.manager.Manager.keeps_its_promises.Goals as goal

pub returns : goal.returns
returns g c = subst (KeepsPromises g.P.Pseudo.bits_of) c.self.view_is (promises_kept g.P.Pseudo.bits_of (fields_of c.self.inside.parts) c.self.invariant c.form_is_extendible_hashing.ensures c.records_are_a_map.ensures)
