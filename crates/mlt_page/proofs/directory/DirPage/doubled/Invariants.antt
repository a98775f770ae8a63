use Rattle.std.proofs.Common.{◌≡◌, ℕ, ◌+◌, ◌/◌, ◌<◌, length, slice_index}
use Rattle.mlt_page.proofs.directory.DirPage.doubled.Given as goal

abbrev pub invariant-loop-at : goal.invariant-loop-at
invariant-loop-at l =
    (length l.entries ≡ 256) × ((k : ℕ) → k < l.at → slice_index l.entries k ≡ slice_index l.self-inside.entries (l.from + k / 2))
