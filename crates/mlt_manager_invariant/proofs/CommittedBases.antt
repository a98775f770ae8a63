-- The base of the committed transcripts of a manager
use Rattle.mlt_manager_invariant.proofs.Names.{Base, IsSound, State}
use Rattle.mlt_trace_check.proofs.Histories.{serializable}
use Rattle.mlt_manager_invariant.specs.Traced.{IsCommittedBase}

abbrev pub HasCommittedBase : State → Type 0
HasCommittedBase s = (base : Base) × IsCommittedBase s base

pub with_base : (s : State) → IsSound s → HasCommittedBase s
with_base s sound =
    let led = serializable s.shared.history.items s.base sound.match.records.history in
    (led.0, record { serial = led.1; undone = led.2 })
