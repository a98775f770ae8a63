-- A half of a split, slot by slot.
use Rattle.std.proofs.Common.{◌≡◌, ℕ, ◌<◌, ◌+◌, List, length, map, set, get_or, sym, ap, ◌∙◌, arith, ext_get_or, get_or-set_same, get_or-set_other}
use Rattle.std.proofs.lemmas.{Bool.cases_eq, List.get_or-map, List.get_or_default, List.length-map}
use Rattle.mlt_page.specs.{declared.slot.Slot.Slot, declared.slot.Slot.TheVariants.Free, Values.BucketFields}

-- the first n slots of a half
abbrev pub AreHalves : (Slot → Slot) → List Slot → List Slot → ℕ → Type 0
AreHalves f slots half n = (k : ℕ) → k < n → get_or half k Free ≡ f (get_or slots k Free)

pub next_half : (f : Slot → Slot) (slots half : List Slot) (n : ℕ) (s d : Slot) → length slots ≡ 8 → length half ≡ 8 → n < 8 → s ≡ f (get_or slots n d) → AreHalves f slots half n → AreHalves f slots (set half n s) (n + 1)
next_half f slots half n s d slots_sized sized within is halves k lt = grind (arith, cases_eq k n, get_or-set_same half n s Free (omega (arith, within, sized)), get_or-set_other half n k s Free, get_or_default slots n Free d (omega (arith, within, slots_sized)), halves k, is)

pub all_halves : (f : Slot → Slot) (slots half : List Slot) (bucket : BucketFields) (depth : ℕ) → slots ≡ bucket.slots → length slots ≡ 8 → length half ≡ 8 → AreHalves f slots half 8 → ◌≡◌ {A = BucketFields} (record { depth = depth; slots = half }) (record { depth = depth; slots = map f bucket.slots })
all_halves f slots half bucket depth of_bucket slots_sized half_sized halves =
    let same = ext_get_or Free half (map f slots) (half_sized ∙ sym slots_sized ∙ sym (length-map slots f)) (λ k lt.
    halves k (omega (arith, half_sized, lt)) ∙ sym (get_or-map f slots k Free Free (omega (arith, slots_sized, half_sized, lt)))) in
    λ i. record { depth = depth; slots = (same ∙ ap (map f) of_bucket) i }
