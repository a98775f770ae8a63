-- What the check of a known text answers.
use Rattle.std.specs.Prelude.{◌≡◌, ℕ, List, Result, Ok, Err}
use Rattle.mlt_types.specs.declared.refusal.Refusal.{Refusal}
use Rattle.mlt_object_kinds.specs.Bases.{Base}
use Rattle.mlt_trace_check.specs.{declared.trace_check.Order.Order, Traces.IsAcceptedTrace, Traces.IsFirstFault, Refusing.IsRefusalBy}

-- the order has these transactions and this base
abbrev pub IsOrderOf : Order → List ℕ → Base → Type 0
IsOrderOf order txs base = (order.txs.items ≡ txs) × (order.base ≡ base)

-- of a trace what is answered is of its order and its base, and of any other text it is the first fault
abbrev pub Answers : {V : Type 0} → (V → List ℕ → Base → Type 0) → Result V Refusal → List ℕ → Type 0
Answers IsOf (Ok value) text = (txs : List ℕ) × (base : Base) × IsAcceptedTrace text txs base × IsOf value txs base
Answers IsOf (Err refusal) text = IsRefusalBy (IsFirstFault text) refusal
