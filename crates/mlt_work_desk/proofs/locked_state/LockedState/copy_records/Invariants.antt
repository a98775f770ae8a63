use Rattle.std.proofs.Common.{Some}
use Rattle.mlt_work_desk.specs.Listings.{AddsRecords}
use Rattle.mlt_work_desk.proofs.locked_state.LockedState.copy_records.Given as goal

-- those up to the next place are added
abbrev pub invariant-loop : goal.invariant-loop
invariant-loop g l = AddsRecords g.P.Pseudo.bits_of l.self.manager (Some l.fn.from) l.fn.records.items l.records.items l.next
