use Rattle.std.proofs.Common.{◌≡◌, ◌++◌, take}
use Rattle.mlt_work_desk.specs.Listings.{records_in}
use Rattle.mlt_work_desk.proofs.locked_state.LockedState.push_records.Given as goal

-- those of the first slots are added
abbrev pub invariant-loop-slot : goal.invariant-loop-slot
invariant-loop-slot g l = l.records.items ≡ l.initial.records.items ++ records_in (g.P.Pseudo.bits_of l.self.manager.root.pseudo) l.place (take l.slot-index l.slots)
