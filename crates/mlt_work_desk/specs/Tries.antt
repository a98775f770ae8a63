-- How the tries of a desk are spent, and why an operation gives up.
use Rattle.std.specs.Prelude.{ℕ, ◌≡◌, ◌-◌, ◌⊎◌, List, true, false, All, count_by}
use Rattle.mlt_event.specs.declared.{event.Event.Event, told.Told.Told}
use Rattle.mlt_script_serial.specs.declared.call.DeskCall.{DeskCall}
use Rattle.mlt_work_waits.specs.{Gates.is_to_wait, Waits.Waits, Waits.IsYoungest, declared.wait.Waiting.Waiting}
use Rattle.mlt_work_desk.specs.{Acts.IsStepOf, Views.DeskView, Views.HasMade, declared.tries.Tries.Tries, declared.tries.Tries.TheVariants.PerOperation, declared.tries.Tries.TheVariants.PerScript, declared.tries.TriesLeft.TriesLeft}

-- so many, of which none are left yet
abbrev pub tries_of : Tries → TriesLeft
tries_of given = record { given = given; left = 0; is_patient = true }

-- how many are left once a transaction is to begin: all of a script
abbrev pub left_to_begin : Tries → ℕ → ℕ
left_to_begin (PerScript count) left = count
left_to_begin (PerOperation count) left = left

-- how many are left once an operation is called: all of an operation
abbrev pub left_to_call : Tries → ℕ → ℕ
left_to_call (PerScript count) left = left
left_to_call (PerOperation count) left = count

-- the tries once a transaction is to begin
abbrev pub tries_begun : TriesLeft → TriesLeft
tries_begun tries = record tries { left = left_to_begin tries.given tries.left }

-- once an operation is to be called
abbrev pub tries_called : TriesLeft → TriesLeft
tries_called tries = record tries { left = left_to_call tries.given tries.left }

-- once it is to wait
abbrev pub tries_spent : TriesLeft → TriesLeft
tries_spent tries = record tries { left = tries.left - 1 }

-- how many of these events were told to wait, or that they are blocked
abbrev pub waits_in : List (Event × Told) → ℕ
waits_in acts = count_by (λ act. is_to_wait act.1) acts

-- Of these events, each that was told to wait, or that it is blocked, has spent one of the tries, and no other has.
pub record SpendsByWaits (before after : TriesLeft) (own : List (Event × Told)) : Type 0 where
  pub given : after.given ≡ before.given
  pub left : after.left ≡ before.left - waits_in own

-- what a call for which a desk has made these events does to its tries
abbrev pub SpendsTries : TriesLeft → DeskCall → List (Event × Told) → TriesLeft → Type 0
SpendsTries before DeskCall.Begin own after = after ≡ tries_begun before
SpendsTries before (DeskCall.Operation tx op) own after = SpendsByWaits (tries_called before) after own
SpendsTries before (DeskCall.Commit tx) own after = after ≡ before
SpendsTries before (DeskCall.Abort tx) own after = after ≡ before

-- A desk has made steps of the transaction, or the cancel of its operation, of which none was told to wait.
pub record StepsWithoutWait (tx : ℕ) (before after : DeskView) : Type 0 where
  pub own : List (Event × Told)
  pub made : HasMade before after own
  pub each : All (IsStepOf tx) own
  pub none : waits_in own ≡ 0

-- A desk has made steps of the transaction, or the cancel of its operation, and has spent its tries by their waits.
pub record StepsByTries (tx : ℕ) (before after : DeskView) : Type 0 where
  pub own : List (Event × Told)
  pub made : HasMade before after own
  pub each : All (IsStepOf tx) own
  pub spends : SpendsByWaits before.tries after.tries own

-- The transaction is the youngest of a cycle of waits, which its own wait would close.
pub record IsYoungestOfCycle (tx : ℕ) : Type 0 where
  pub wait : Waiting
  pub waits : Waits
  pub youngest : Waiting
  pub is_youngest : IsYoungest wait waits youngest
  pub is_own : wait.waiter ≡ tx
  pub same : youngest.waiter ≡ wait.waiter

-- why an operation gives up: its tries are spent, its transaction is the youngest of a cycle, or its gate is out of patience
abbrev pub GivesUp : ℕ → TriesLeft → Type 0
GivesUp tx tries = (tries.left ≡ 0) ⊎ IsYoungestOfCycle tx ⊎ (tries.is_patient ≡ false)
