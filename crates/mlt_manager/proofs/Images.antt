-- The base that is made of an image
use Rattle.std.proofs.Common.{◌≡◌, List, sym, ◌∙◌, inl, inr}
use Rattle.mlt_manager.proofs.Names.{Base, Slot, CopiesSlots}
use Rattle.mlt_object_kinds.proofs.BaseLaws.{same_base as one_base}
use Rattle.mlt_manager.specs.Images.{ShowBase}

-- **Slots that show a base make it.**
pub made_of_slots : (slots : List Slot) (base old new : Base) → ShowBase slots base → CopiesSlots slots old new base → new ≡ base
made_of_slots slots base old new shown copies = one_base new base (λ cell. elim (shown.all cell) [
  | inl nothing ↦ elim (copies.part cell) [ inl same ↦ same | inr none ↦ none ∙ sym nothing ]
  | inr has ↦ copies.copied cell has.1.0 has.0 has.1.1
])
