-- What a decision tells, from what the walk's change tells
use Rattle.std.proofs.Common.{◌≡◌, ℕ, Option, None, Some, refl, sym, subst, ◌∙◌, inl, inr, IsSome}
use Rattle.mlt_tx_operation.proofs.Names.{false≢true, Refusal, RecChange, Add, Revive, CanChange, LocalState, WalkContext, WalkFields, one_key, HasFound, Phase, Change, WalkAnswer, Performs, TellsOfDecision}
use Rattle.mlt_hash.specs.Changes.{IsAtRecord, TellsOfAddition, TellsOfChange}

-- an addition
pub addition_tells : (context : WalkContext) (new : LocalState) (before after : WalkFields) (value : ℕ) (found : Option ℕ) (told : WalkAnswer)
    → TellsOfAddition (one_key context) new before after value told → TellsOfDecision (one_key context) new before after (Add value) found told
addition_tells context new before after value found WalkAnswer.Changed (inl makes) = record { done = Change.Revive value; makes = makes; performs = inr refl }
addition_tells context new before after value found WalkAnswer.Changed (inr makes) = record { done = Change.Put value; makes = makes; performs = inl refl }
addition_tells context new before after value found WalkAnswer.NeedSplit tells = tells
addition_tells context new before after value found WalkAnswer.Widen tells = tells
addition_tells context new before after value found (WalkAnswer.Refused Refusal.NoRoom) tells = tells
addition_tells context new before after value found (WalkAnswer.Refused other) tells = absurd (tells.1 refl)
addition_tells context new before after value found other tells = tells

-- any other change
pub change_tells : (context : WalkContext) (new : LocalState) (before after : WalkFields) (decided : RecChange) (found : Option ℕ) (done : Change) (told : WalkAnswer)
    → Performs decided found done → TellsOfChange (one_key context) new before after done told → TellsOfDecision (one_key context) new before after decided found told
change_tells context new before after decided found done WalkAnswer.Changed performs makes = record { done = done; makes = makes; performs = performs }
change_tells context new before after decided found done (WalkAnswer.Refused reason) performs tells = absurd (tells.1 refl)
change_tells context new before after decided found done other performs tells = absurd tells

-- it finds a record, unless one is new or comes back
pub is_found : (decided : RecChange) (found : Option ℕ) → CanChange (Some decided) found → ((v : ℕ) → decided ≡ Add v → ⊥) → (decided ≡ Revive → ⊥) → (v : ℕ) × (found ≡ Some v)
is_found (Add v) found can not_new not_back = absurd (not_new v refl)
is_found Revive found can not_new not_back = absurd (not_back refl)
is_found decided (Some v) can not_new not_back = (v, refl)
is_found decided None can not_new not_back = absurd (false≢true can)

pub at_record : (phase : Phase) (found : Option ℕ) (v : ℕ) → HasFound phase found → found ≡ Some v → IsAtRecord phase
at_record (Phase.AtBucket bucket depth own) found v has is = subst IsSome (sym (has ∙ is)) refl
at_record other found v has is = absurd has
