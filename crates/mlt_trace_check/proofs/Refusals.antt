-- What a check refuses, by its faults.
use Rattle.std.proofs.Common.{◌⊎◌, inl, inr, ℕ, refl, sym, subst}
use Rattle.mlt_trace_check.proofs.Names.{Refusal, Io, OutOfMemory, TraceFault, TraceCause, IsWant}
use Rattle.mlt_text.specs.Failures.{IsTraceFault}
use Rattle.mlt_trace_check.specs.Refusing.{IsRefusalBy}

pub refused_too : (F G : ℕ → TraceCause → Type 0) (refusal : Refusal) → ((line : ℕ) (cause : TraceCause) → F line cause → G line cause) → IsRefusalBy F refusal → IsRefusalBy G refusal
refused_too F G OutOfMemory too is = tt
refused_too F G Io too is = tt
refused_too F G (TraceFault line cause) too is = too line cause is
refused_too F G refusal too is = absurd is

pub refused_want : (F : ℕ → TraceCause → Type 0) (refusal : Refusal) → IsWant refusal → IsRefusalBy F refusal
refused_want F refusal (inl memory) = subst (IsRefusalBy F) (sym memory) tt
refused_want F refusal (inr io) = subst (IsRefusalBy F) (sym io) tt

pub want_or_fault : (F : ℕ → TraceCause → Type 0) (refusal : Refusal) → IsRefusalBy F refusal → IsWant refusal ⊎ IsTraceFault refusal
want_or_fault F OutOfMemory is = inl (inl refl)
want_or_fault F Io is = inl (inr refl)
want_or_fault F (TraceFault line cause) is = inr (line, cause, refl)
want_or_fault F refusal is = absurd is
