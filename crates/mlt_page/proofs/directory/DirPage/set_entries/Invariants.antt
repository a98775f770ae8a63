use Rattle.std.proofs.Common.{◌≡◌, ℕ, ◌<◌, ◌≤◌, ◌⊎◌, length, slice_index}
use Rattle.mlt_page.proofs.directory.DirPage.set_entries.Given as goal

abbrev pub invariant-loop-place : goal.invariant-loop-place
invariant-loop-place l = record {
  size : length l.self-inside.entries ≡ 256;
  inside : (k : ℕ) → l.from ≤ k → k < l.place → slice_index l.self-inside.entries k ≡ l.bucket;
  outside : (k : ℕ) → (k < l.from) ⊎ (l.place ≤ k) → slice_index l.self-inside.entries k ≡ slice_index l.initial.self-inside.entries k;
}
