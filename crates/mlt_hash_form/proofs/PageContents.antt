-- What the pages of a directory hold after a split. Other crates cite this module.
use Rattle.std.proofs.Common.{ℕ, ◌≡◌, ◌<◌, ◌≤◌, ◌+◌, ◌*◌, ◌/◌, ◌%◌, List, slice_index, Option, ◌⊎◌}
use Rattle.mlt_hash_form.proofs.Names.{Page, MaySplit, header_of, buckets_of, depth_of, dirs_of, entry, prefix_of, run_length, run_start}
use Rattle.mlt_hash_form.{specs.Splits.target_of, proofs.FillEnds.double_right, proofs.FillEnds.place_right}

pub doubled_right : (base : ℕ → Option Page) (root n new x j : ℕ) (old made : List ℕ)
    → (buckets_of base n).depth ≡ depth_of base root
    → ((r : ℕ) → r < 256 → slice_index old r ≡ entry base (dirs_of base root) (256 * (j / 2) + r))
    → ((r : ℕ) → r < 256 → (256 * j + r ≡ prefix_of base n x → ⊥) → slice_index made r ≡ slice_index old (128 * (j % 2) + r / 2))
    → ((r : ℕ) → r < 256 → 256 * j + r ≡ prefix_of base n x → slice_index made r ≡ new)
    → (r : ℕ) → r < 256 → slice_index made r ≡ target_of base root n new x (depth_of base root + 1) (256 * j + r)
doubled_right base root n new x j old made deep was else here r h =
    let g = (header_of (base root)).depth in
    let right = double_right (entry base (header_of (base root)).dirs) old made g j (prefix_of base n x) new was else here r h in
    let right2 = rw deep at right in
    rw deep right2

pub placed_right : (bits : ℕ → ℕ) (base : ℕ → Option Page) (root n new x j : ℕ) (old made : List ℕ)
    → MaySplit bits base root x n new
    → ((r : ℕ) → r < 256 → slice_index old r ≡ entry base (dirs_of base root) (256 * j + r))
    → ((r : ℕ) → r < 256 → run_start base root n x ≤ 256 * j + r → 256 * j + r < run_start base root n x + run_length base root n → slice_index made r ≡ new)
    → ((r : ℕ) → r < 256 → (256 * j + r < run_start base root n x) ⊎ (run_start base root n x + run_length base root n ≤ 256 * j + r) → slice_index made r ≡ slice_index old r)
    → (r : ℕ) → r < 256 → slice_index made r ≡ target_of base root n new x (depth_of base root) (256 * j + r)
placed_right bits base root n new x j old made may =
    place_right base base (header_of (base root)).dirs (header_of (base root)).depth (buckets_of base n).depth (prefix_of base n x) new may.form.listed old made j
