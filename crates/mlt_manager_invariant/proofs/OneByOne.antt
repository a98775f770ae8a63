-- Slots are copied one after another.
use Rattle.std.proofs.Common.{◌≡◌, ◌⊎◌, ℕ, ◌+◌, ◌<◌, List, [], ◌∷◌, ◌++◌, length, take, get_or, Contains, Some, None, sym, ap, subst, ◌∙◌, inl, inr, arith}
use Rattle.std.proofs.lemmas.List.{take_more, Elements.Contains-push, Elements.Contains-push_cases}
use Rattle.mlt_types.specs.{declared.cell.Cell.Cell, Cells.IsInRange, Cells.key_number}
use Rattle.mlt_object_kinds.{specs.Bases.Base, specs.Bases.SameBut, specs.Bases.state_at, proofs.BaseLaws.one_cell_or_two}
use Rattle.mlt_object_base.{specs.Records.IsRecord, specs.Records.state_of_record, proofs.Meanings.same_cell}
use Rattle.mlt_page.specs.declared.slot.Slot.{Slot, TheVariants.Live}
use Rattle.mlt_manager_invariant.specs.Copies.{AreSlotsOf, CopiesSlots, IsPartOf}

-- ---- one slot

contains-nothing : {X : Type 0} (x : X) → Contains [] x → ⊥
contains-nothing x h = absurd (omega (arith, h.1))

only : {X : Type 0} (one x : X) → Contains (one ∷ []) x → one ≡ x
only one x has = elim (Contains-push_cases [] one x has) [ inl none ↦ absurd (contains-nothing x none) | inr is ↦ is ]

-- a slot that means no cell leaves the base as it is
pub none_copied : (slot : Slot) (base whole : Base) → ((cell : Cell) (value : ℕ) → IsInRange cell → slot ≡ Live (key_number cell) value → ⊥) → IsPartOf base whole → CopiesSlots (slot ∷ []) base base whole
none_copied slot base whole none part = record {
  copied = λ cell value in_range has. absurd (none cell value in_range (only slot (Live (key_number cell) value) has));
  stays = λ cell is. is;
  part = part;
}

same_key : (slot : Slot) (k key v value : ℕ) → slot ≡ Live k v → slot ≡ Live key value → k ≡ key
same_key slot k key v value one two = (let both : Live k v ≡ Live key value = sym one ∙ two in cc)

-- ---- one after another

pub nothing_copied : (base whole : Base) → IsPartOf base whole → CopiesSlots [] base base whole
nothing_copied base whole part = record {
  copied = λ cell value in_range has. absurd (contains-nothing (Live (key_number cell) value) has);
  stays = λ cell is. is;
  part = part;
}

then_copied : (slots : List Slot) (slot : Slot) (old mid new whole : Base) → CopiesSlots slots old mid whole → CopiesSlots (slot ∷ []) mid new whole → CopiesSlots (slots ++ slot ∷ []) old new whole
then_copied slots slot old mid new whole first last = record {
  copied = λ cell value in_range has. elim (Contains-push_cases slots slot (Live (key_number cell) value) has) [
    | inl before ↦ last.stays cell (first.copied cell value in_range before)
    | inr is ↦ last.copied cell value in_range (subst (λ (s : Slot). Contains (slot ∷ []) s) is (Contains-push [] slot))
  ];
  stays = λ cell is. last.stays cell (first.stays cell is);
  part = last.part;
}

module _ (slots : List Slot) (index : ℕ) (slot : Slot) (within : index < length slots) (is : slot ≡ get_or slots index slot) where
  one_further : take (index + 1) slots ≡ take index slots ++ slot ∷ []
  one_further = take_more slots index slot within ∙ ap (λ (s : Slot). take index slots ++ s ∷ []) (sym is)

  pub went_on : (old mid new whole : Base) → CopiesSlots (take index slots) old mid whole → CopiesSlots (slot ∷ []) mid new whole → CopiesSlots (take (index + 1) slots) old new whole
  went_on old mid new whole first last = subst (λ (l : List Slot). CopiesSlots l old new whole) (sym one_further) (then_copied (take index slots) slot old mid new whole first last)

  -- each of them is a slot of the base where all of them are
  pub one_of_slots : (whole : Base) → AreSlotsOf slots whole → AreSlotsOf (slot ∷ []) whole
  one_of_slots whole all cell value in_range has =
      let same = only slot (Live (key_number cell) value) has in
      all cell value in_range (subst (λ (s : Slot). Contains slots s) same (index, within, sym is))
