-- What a check refuses.
use Rattle.std.specs.Prelude.{ℕ}
use Rattle.mlt_types.specs.declared.refusal.{Refusal.Refusal, Refusal.TheVariants.Io, Refusal.TheVariants.OutOfMemory, Refusal.TheVariants.TraceFault, TraceCause.TraceCause}

-- the refusal names a line that has such a fault; or memory ran out, or a read or a write failed
abbrev pub IsRefusalBy : (ℕ → TraceCause → Type 0) → Refusal → Type 0
IsRefusalBy IsFault OutOfMemory = Unit {0}
IsRefusalBy IsFault Io = Unit {0}
IsRefusalBy IsFault (TraceFault line cause) = IsFault line cause
IsRefusalBy IsFault refusal = ⊥
