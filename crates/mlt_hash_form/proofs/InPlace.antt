-- The run of places of a new bucket, where the directory is not doubled: within one page, or whole pages.
-- Other crates cite this module.
use Rattle.std.proofs.Common.{ℕ, ◌≡◌, ◌<◌, ◌≤◌, ◌+◌, ◌-◌, ◌*◌, ◌/◌, ◌%◌, ◌^◌, sym, ◌∙◌, ap, arith, add-zero, pow-add, pow_pos}
use Rattle.mlt_hash_form.proofs.Names.{shl-shr}
use Rattle.std.proofs.lemmas.Nat.{mod-pow-add, mod_low, row_fits, mod_below, one_shl}
use Rattle.std.proofs.Math.Nat.{mul-le-mul_right}

-- a run of 2 ^ k places, k at most 8, lies within one page
pub run_fits : (prefix k : ℕ) → k ≤ 8 → (prefix * 2 ^ k) % 256 + 2 ^ k ≤ 256
run_fits prefix k h =
    let j = 8 - k in
    let e : j + k ≡ 8 = omega arith in
    let parts = mod-pow-add (prefix * 2 ^ k) j k in
    let low : (prefix * 2 ^ k) % 2 ^ k ≡ 0 = let m = mod_low prefix k 0 (pow_pos k) in rw add-zero at m in
    let parts' = rw (e, shl-shr, low) at parts in
    let size = rw e at (pow-add 2 j k) in
    let row = row_fits (prefix % 2 ^ j) (2 ^ k) (2 ^ j) (2 ^ k) (mod_below prefix (2 ^ j) (pow_pos j)) (omega arith) in
    omega (arith, parts', size, row)

-- a run of at most 256 places within the page of its first place
pub one_page : (g l prefix : ℕ) → g ≤ l + 9 → prefix * 2 ^ (g - (l + 1)) + 2 ^ (g - (l + 1)) ≤ 256 * (prefix * 2 ^ (g - (l + 1)) / 256 + 1)
one_page g l prefix few = let fits = run_fits prefix (g - (l + 1)) (omega arith) in omega (arith, fits)

-- where the directory is at least 9 deeper, the new bucket's places are whole pages
pub whole_pages : (g l prefix : ℕ) → l + 9 ≤ g → (prefix * 2 ^ (g - (l + 1)) ≡ 256 * (prefix * 2 ^ (g - (l + 9)))) × (2 ^ (g - (l + 1)) ≡ 256 * 2 ^ (g - (l + 9)))
whole_pages g l prefix h =
    let e : g - (l + 1) ≡ 8 + (g - (l + 9)) = omega arith in
    let size : 2 ^ (g - (l + 1)) ≡ 256 * 2 ^ (g - (l + 9)) = ap (λ k. 2 ^ k) e ∙ pow-add 2 8 (g - (l + 9)) in
    (rw size (grind arith), size)

-- the new bucket's places are places of the directory
pub new_places_within : (g l f : ℕ) → l < g → g ≤ 16 → f < 2 ^ l → (2 * f + 1) * (1 * 2 ^ (g - (l + 1)) % 2 ^ 64) + 1 * 2 ^ (g - (l + 1)) % 2 ^ 64 ≤ 2 ^ g
new_places_within g l f h small below =
    let n = 2 ^ (g - (l + 1)) in
    let shl : (1 * n) % 2 ^ 64 ≡ n = one_shl (g - (l + 1)) 64 (omega arith) in
    let e : (l + 1) + (g - (l + 1)) ≡ g = omega arith in
    let all : 2 ^ g ≡ 2 ^ (l + 1) * n = sym (ap (λ k. 2 ^ k) e) ∙ pow-add 2 (l + 1) (g - (l + 1)) in
    let twice : 2 ^ (l + 1) ≡ 2 ^ l * 2 = pow-add 2 l 1 in
    let fits : 2 * f + 2 ≤ 2 ^ (l + 1) = omega (arith, twice) in
    let times : (2 * f + 2) * n ≤ 2 ^ (l + 1) * n = mul-le-mul_right n fits in
    let parts : (2 * f + 1) * n + n ≡ (2 * f + 2) * n = grind arith in
    rw (shl, all) (omega (arith, times, parts))
