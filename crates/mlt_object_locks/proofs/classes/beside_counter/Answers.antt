use Rattle.std.proofs.Common.{subst, sym}
use Rattle.mlt_object_locks.proofs.Names.{Adds, bit_of}
use Rattle.mlt_object_conflicts.specs.declared.counters.CounterClass.{CounterClass}
use Rattle.mlt_object_locks.specs.Classes.{IsColumn}
use Rattle.mlt_object_locks.specs.declared.classes.Class.TheVariants.{Counter}
use Rattle.mlt_object_locks.proofs.ClassLaws.{counter_column}
use Rattle.mlt_object_locks.proofs.classes.beside_counter.Goals.{in-Counted, in-Read}
use Rattle.mlt_object_locks.proofs.classes.beside_counter.Goals as goal

pub returns : goal.returns
returns c =
    let adds = subst (λ n. Adds n c.with.result (bit_of (Counter c.match-requested.held))) c.new.ensures c.with.ensures in
    elim c.match-requested.branch [
      | in-Counted w ↦ subst (λ r. IsColumn c.with.result (Counter r)) (sym w.in-Counted.is) (counter_column c.with.result CounterClass.Counted (subst (λ h. Adds 0 c.with.result (bit_of (Counter h))) w.held-is adds))
      | in-Read w ↦ subst (λ r. IsColumn c.with.result (Counter r)) (sym w.in-Read.is) (counter_column c.with.result CounterClass.Read (subst (λ h. Adds 0 c.with.result (bit_of (Counter h))) w.held-is adds))
    ]
