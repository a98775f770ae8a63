-- How many steps splits take beyond three each: those for more pages of the directory
use Rattle.std.specs.Prelude.{ℕ, zero, suc, ◌+◌, ◌-◌, ◌^◌, nat_eq, nat_lt, if◌then◌else◌}
use Rattle.mlt_hash.specs.StepsLeft.{depth_after}

-- Of a bucket of depth l in a directory of depth g. Where the directory is doubled, one more, for the header; and from depth
-- 8 on two for each page that it had, less one, and the header. Where it is not, one for each page but the first that has
-- an entry of the new bucket.
abbrev pub extra_of_split : ℕ → ℕ → ℕ
extra_of_split l g =
    if nat_eq l g then (if nat_lt g 8 then 1 else 2 ^ (g - 7)) else 2 ^ (g - (l + 9)) - 1

-- of k splits, one after another, each of the key's half
unfoldable pub extra_of_splits : ℕ → ℕ → ℕ → ℕ
extra_of_splits zero l g = 0
extra_of_splits (suc k) l g = extra_of_split l g + extra_of_splits k (l + 1) (depth_after l g)
