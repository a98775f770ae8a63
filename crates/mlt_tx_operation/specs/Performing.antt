-- How a walk makes the change of a record that an operation decides on
use Rattle.std.specs.Prelude.{ℕ, Option}
use Rattle.mlt_types.specs.declared.refusal.Refusal.{Refusal}
use Rattle.mlt_object_base.specs.declared.record.RecChange.{RecChange}
use Rattle.mlt_hash_access.specs.LocalStates.{LocalState}
use Rattle.mlt_hash.specs.{Walks.WalkContext, Walks.WalkFields, Changes.HasNoRoom, Changes.MustWiden, Changes.NeedsSplit, declared.answer.WalkAnswer.WalkAnswer}
use Rattle.mlt_tx_two_records.specs.AtWideBuckets.{IsMade, OfAddition}

-- The change is made; or it is an addition whose bucket has no room.
abbrev pub TellsOfDecision : WalkContext → LocalState → WalkFields → WalkFields → RecChange → Option ℕ
    → WalkAnswer → Type 0
TellsOfDecision context new before after decided found WalkAnswer.Changed =
    IsMade context new before after decided found
TellsOfDecision context new before after decided found WalkAnswer.NeedSplit =
    OfAddition decided (λ value. NeedsSplit context new before after value)
TellsOfDecision context new before after decided found WalkAnswer.Widen =
    OfAddition decided (λ value. MustWiden context new before after)
TellsOfDecision context new before after decided found (WalkAnswer.Refused Refusal.NoRoom) =
    OfAddition decided (λ value. HasNoRoom context new before after)
TellsOfDecision context new before after decided found other = ⊥
