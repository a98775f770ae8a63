use Rattle.std.proofs.Common.{take}
use Rattle.mlt_object_kinds.specs.Bases.{Base as ObjectBase}
use Rattle.mlt_manager_invariant.specs.Copies.{AreSlotsOf, CopiesSlots, IsPartOf}
use Rattle.mlt_manager_invariant.proofs.slots.copy_slots.Given as goal

-- the first slots are copied
abbrev pub invariant-loop-slot : goal.invariant-loop-slot
invariant-loop-slot l = (whole : ObjectBase) → IsPartOf l.fn.base whole → AreSlotsOf l.slots whole → CopiesSlots (take l.slot-index l.slots) l.fn.base l.base whole
