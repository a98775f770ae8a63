-- How many steps the splits of a pass take at most. Other crates cite this module.
use Rattle.std.proofs.Common.{ℕ, zero, suc, ◌≡◌, ◌≤◌, ◌+◌, ◌*◌, ◌-◌, ◌^◌, nat_eq, nat_lt, if◌then◌else◌, refl, ap, ◌∙◌, inl, inr, arith, eq-eqb, le-ltb, lt-ltb, ne_eqb}
use Rattle.std.proofs.Math.Nat.{pow-le-pow_right, pow-succ'}
use Rattle.mlt_tx_two_records.proofs.Names.{cases_eq, cases_lt, cond-false, cond-true, depth_after}
use Rattle.mlt_hash_split.specs.Splits.{directory_steps}
use Rattle.mlt_hash.specs.StepsLeft.{steps_of_splits}

-- a power of two is twice the one before
twice : (a b : ℕ) → a ≡ suc b → 2 ^ a ≡ 2 * 2 ^ b
twice a b next = ap (λ n. 2 ^ n) next ∙ pow-succ' 2 b

-- a doubling takes at most two steps more of the directory than 2 ^ (g - 7) grows by
doubling_steps : (g : ℕ) → directory_steps g g + 2 ^ (g - 7) + 2 ≤ 2 ^ (g + 1 - 7) + 4
doubling_steps g =
    let same : directory_steps g g ≡ (if nat_lt g 8 then 2 else 2 ^ (g - 7) + 1) = cond-true (nat_eq g g) _ _ (eq-eqb g g refl) in
    elim (cases_lt g 8) [
      | inl short ↦
          let few : directory_steps g g ≡ 2 = same ∙ cond-true (nat_lt g 8) _ _ (lt-ltb g 8 short) in
          let none : 2 ^ (g - 7) ≡ 1 = (let zero_is : g - 7 ≡ 0 = omega (arith, short) in ap (λ n. 2 ^ n) zero_is) in
          let some : 1 ≤ 2 ^ (g + 1 - 7) = pow-le-pow_right {n = 2} (omega arith) {i = 0} {j = g + 1 - 7} (omega arith) in
          omega (arith, few, none, some)
      | inr long ↦
          let many : directory_steps g g ≡ 2 ^ (g - 7) + 1 = same ∙ cond-false (nat_lt g 8) _ _ (le-ltb g 8 long) in
          let next = twice (g + 1 - 7) (g - 7) (omega (arith, long)) in
          omega (arith, many, next)
    ]

-- a split in place writes half of the pages that the one before it wrote, or one
halving_steps : (l g : ℕ) → 2 * 2 ^ (g - (l + 9)) ≤ 2 ^ (g - (l + 8)) + 2
halving_steps l g = elim (cases_lt g (l + 9)) [
  | inl one ↦
      let none : 2 ^ (g - (l + 9)) ≡ 1 = (let zero_is : g - (l + 9) ≡ 0 = omega (arith, one) in ap (λ n. 2 ^ n) zero_is) in
      omega (arith, none)
  | inr more ↦ let next = twice (g - (l + 8)) (g - (l + 9)) (omega (arith, more)) in omega (arith, next)
]

-- Each split takes four steps at most, but for the pages of the directory: those that are written in place halve with each
-- split, and those of all doublings are at most 512.
counted : (n l g : ℕ) → n + l ≤ 16 → g ≤ 16 → steps_of_splits n l g + 2 ^ (g - 7) ≤ 4 * n + 2 ^ (g - (l + 8)) + 513
unfolding steps_of_splits
counted zero l g deep small =
    let most : 2 ^ (g - 7) ≤ 512 = pow-le-pow_right {n = 2} (omega arith) {i = g - 7} {j = 9} (omega (arith, small)) in
    omega (arith, most)
counted (suc n) l g deep small = elim (cases_eq l g) [
  | inl same ↦
      let steps : directory_steps l g ≡ directory_steps g g = ap (λ d. directory_steps d g) same in
      let two_records = doubling_steps g in
      let deeper : depth_after l g ≡ g + 1 = cond-true (nat_eq l g) _ _ (eq-eqb l g same) in
      let rest = counted n (l + 1) (g + 1) (omega (arith, deep)) (omega (arith, deep, same)) in
      let left : steps_of_splits n (l + 1) (depth_after l g) ≡ steps_of_splits n (l + 1) (g + 1) = ap (λ d. steps_of_splits n (l + 1) d) deeper in
      let one : 2 ^ (g + 1 - (l + 1 + 8)) ≡ 1 = (let zero_is : g + 1 - (l + 1 + 8) ≡ 0 = omega (arith, same) in ap (λ m. 2 ^ m) zero_is) in
      let some : 1 ≤ 2 ^ (g - (l + 8)) = pow-le-pow_right {n = 2} (omega arith) {i = 0} {j = g - (l + 8)} (omega arith) in
      omega (arith, steps, two_records, rest, left, one, some)
  | inr other ↦
      let steps : directory_steps l g ≡ 2 ^ (g - (l + 9)) = cond-false (nat_eq l g) _ _ (ne_eqb l g other) in
      let stays : depth_after l g ≡ g = cond-false (nat_eq l g) _ _ (ne_eqb l g other) in
      let rest = counted n (l + 1) g (omega (arith, deep)) small in
      let left : steps_of_splits n (l + 1) (depth_after l g) ≡ steps_of_splits n (l + 1) g = ap (λ d. steps_of_splits n (l + 1) d) stays in
      let less : 2 ^ (g - (l + 1 + 8)) ≡ 2 ^ (g - (l + 9)) = (let same : g - (l + 1 + 8) ≡ g - (l + 9) = omega arith in ap (λ m. 2 ^ m) same) in
      let halves = halving_steps l g in
      omega (arith, steps, rest, left, less, halves)
]

-- **The splits of a bucket down to depth 16 at most, and the write of the record, take at most 577 steps.**
pub few_splits : (d l g : ℕ) → d ≤ 16 → g ≤ 16 → steps_of_splits (d - l) l g ≤ 577
unfolding steps_of_splits
few_splits d l g small shallow = elim (cases_lt d l) [
  | inl none ↦ let zero_is : d - l ≡ 0 = omega (arith, none) in let one : steps_of_splits (d - l) l g ≡ 1 = ap (λ n. steps_of_splits n l g) zero_is in omega (arith, one)
  | inr more ↦
      let most = counted (d - l) l g (omega (arith, more, small)) shallow in
      let less : 2 ^ (g - (l + 8)) ≤ 2 ^ (g - 7) = pow-le-pow_right {n = 2} (omega arith) {i = g - (l + 8)} {j = g - 7} (omega arith) in
      omega (arith, most, less, small)
]
