-- Where a search in a bucket's slots ends
use Rattle.std.proofs.Common.{ℕ, ◌≡◌, ◌<◌, Bool, List, length, Some, None, ltb, refl, sym, ◌∙◌, arith, inl, inr, position, lt-ltb}
use Rattle.std.{specs.List.position_or_len, proofs.lemmas.Bool.cases_lt, proofs.lemmas.Bool.cond-true, proofs.lemmas.Option.none-some, proofs.lemmas.List.Sums.fails_before_first, proofs.lemmas.List.Quantifiers.position-Some}
use Rattle.mlt_page.specs.{declared.slot.Slot.Slot, declared.slot.Slot.TheVariants.Free, Values.BucketFields}
use Rattle.mlt_hash_form.specs.Plans.{IsNowhere, SetsFirst}

-- a search that finds nothing
pub nowhere : (has : Slot → Bool) (slots : List Slot) → position has slots ≡ None → IsNowhere has slots
nowhere has slots none i within =
    elim (cases_lt (position_or_len has slots) (length slots)) [
      | inl lt ↦ absurd (none-some _ (sym none ∙ cond-true (ltb (position_or_len has slots) (length slots)) (Some (position_or_len has slots)) None (lt-ltb (position_or_len has slots) (length slots) lt)))
      | inr le ↦ fails_before_first has slots i Free (omega arith)
    ]

-- and one that finds a slot
pub first_found : (has : Slot → Bool) (number : ℕ) (bucket : BucketFields) (s : Slot) (i : ℕ) → i < 8 → position has bucket.slots ≡ Some i → SetsFirst number bucket has s (record { number = number; at = i; slot = s })
first_found has number bucket s i within found =
    let at = position-Some has bucket.slots i Free found in
    record { slot = i; within = within; was = at.1; first = at.2; written = refl }
