-- What the change tells that raises a size
use Rattle.std.proofs.Common.{◌≡◌, ℕ, Option, None, Some, refl, sym, inl, inr}
use Rattle.mlt_tx_two_records.proofs.Names.{none-some, Refusal, RecChange, Add, Plus, CanChange, record_after, LocalState, TellsOfAddition, WalkContext, WalkFields, WalkAnswer, Change, Pass, Raises, TellsOfRaise, Performs}
use Rattle.mlt_hash.specs.Changes.{TellsOfChange}
use Rattle.mlt_tx_two_records.proofs.WideOwn.{not_narrow}

-- it leaves a record: one that it adds where there is none, and else a higher value
pub leaves_record : (found : Option ℕ) (raise : RecChange) → Raises found raise → record_after (Some raise) found ≡ None → ⊥
leaves_record None (Add value) raises none = none-some value (sym none)
leaves_record (Some value) (Plus amount) raises none = none-some _ (sym none)
leaves_record found other raises none = raises

pub is_added : (raise : RecChange) (value : ℕ) → Raises None raise → record_after (Some raise) None ≡ Some value → raise ≡ Add value
is_added (Add other) value raises is = cc
is_added other value raises is = absurd raises

pub can_raise : (found : Option ℕ) (raise : RecChange) → Raises found raise → CanChange (Some raise) found
can_raise None (Add value) raises = refl
can_raise (Some value) (Plus amount) raises = refl
can_raise found other raises = absurd raises

-- **A record that is added,**
pub addition_raises : (context : WalkContext) (new : LocalState) (before after : WalkFields) (value : ℕ) (found : Option ℕ) (told : WalkAnswer) → before.pass ≡ Pass.Wide → TellsOfAddition context new before after value told → TellsOfRaise context new before after (Add value) found told
addition_raises context new before after value found WalkAnswer.Changed wide (inl makes) = record { done = Change.Revive value; makes = makes; performs = inr refl }
addition_raises context new before after value found WalkAnswer.Changed wide (inr makes) = record { done = Change.Put value; makes = makes; performs = inl refl }
addition_raises context new before after value found WalkAnswer.NeedSplit wide tells = tells
addition_raises context new before after value found WalkAnswer.Widen wide tells = absurd (not_narrow before wide tells.narrow)
addition_raises context new before after value found (WalkAnswer.Refused Refusal.NoRoom) wide tells = tells
addition_raises context new before after value found (WalkAnswer.Refused other) wide tells = tells.0
addition_raises context new before after value found other wide tells = absurd tells

-- **and one whose value is raised.**
pub update_raises : (context : WalkContext) (new : LocalState) (before after : WalkFields) (raise : RecChange) (found : Option ℕ) (value : ℕ) (told : WalkAnswer) → Performs raise found (Change.Set value) → TellsOfChange context new before after (Change.Set value) told → TellsOfRaise context new before after raise found told
update_raises context new before after raise found value WalkAnswer.Changed performs makes = record { done = Change.Set value; makes = makes; performs = performs }
update_raises context new before after raise found value (WalkAnswer.Refused Refusal.NoRoom) performs tells = absurd (let only : Refusal.NoRoom ≡ Refusal.OutOfMemory = tells.0 in cc)
update_raises context new before after raise found value (WalkAnswer.Refused other) performs tells = tells.0
update_raises context new before after raise found value other performs tells = absurd tells
