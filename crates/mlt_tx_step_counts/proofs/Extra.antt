-- The steps of splits: three each, and what they take beyond
use Rattle.std.proofs.Common.{ℕ, zero, suc, ◌≡◌, ◌≤◌, ◌+◌, ◌*◌, ◌-◌, ◌^◌, refl, arith}
use Rattle.std.proofs.{Math.Nat.pow-le-pow_right, lemmas.Bool.Decides.nat_tests}
use Rattle.mlt_tx_step_counts.proofs.Names.{directory_steps, depth_after}
use Rattle.mlt_hash.specs.StepsLeft.{steps_of_splits}
use Rattle.mlt_tx_step_counts.specs.Extra.{extra_of_split, extra_of_splits}

-- of one split
pub of_one : (l g : ℕ) → 2 + directory_steps l g ≡ 3 + extra_of_split l g
of_one l g = let some : 1 ≤ 2 ^ (g - (l + 9)) = pow-le-pow_right {n = 2} (omega arith) {i = 0} {j = g - (l + 9)} (omega arith) in grind (arith, nat_tests)

-- **Of k splits, and of the write of the record behind them.**
pub of_splits : (k l g : ℕ) → steps_of_splits k l g ≡ 1 + 3 * k + extra_of_splits k l g
unfolding steps_of_splits extra_of_splits
of_splits zero l g = refl
of_splits (suc k) l g = omega (arith, of_one l g, of_splits k (l + 1) (depth_after l g))

-- there is the write of the record, or a split of three steps before it
pub one_or_four : (k l g : ℕ) → steps_of_splits k l g ≤ 3 → steps_of_splits k l g ≡ 1
unfolding steps_of_splits
one_or_four zero l g few = refl
one_or_four (suc k) l g few = absurd (omega (arith, of_splits (suc k) l g, few))
