-- How many steps a pass still takes once its bucket had no room, those that wait aside
use Rattle.std.specs.Prelude.{ℕ, zero, suc, ◌+◌, ◌-◌, nat_eq, if◌then◌else◌, Option, Some, None}
use Rattle.mlt_hash_form.specs.File.{bucket_of, header_of}
use Rattle.mlt_hash_access.specs.Views.{View}
use Rattle.mlt_hash_split.specs.{Rests.held_page, Splits.SplitFields, Splits.directory_steps, Splits.steps_left}
use Rattle.mlt_hash.specs.{Walks.WalkFields, declared.pass.Phase.Phase}

-- how deep the directory is, of depth g, once a bucket of depth l is split
abbrev pub depth_after : ℕ → ℕ → ℕ
depth_after l g = if nat_eq l g then g + 1 else g

-- The steps of n splits of a bucket of depth l in a directory of depth g, and of the write of the record behind them. A
-- split makes the new bucket, writes the old one, and then writes the directory.
unfoldable pub steps_of_splits : ℕ → ℕ → ℕ → ℕ
steps_of_splits zero l g = 1
steps_of_splits (suc n) l g = 2 + directory_steps l g + steps_of_splits n (l + 1) (depth_after l g)

-- what is left of the split under way, and then down to this depth
abbrev pub steps_with_split : Option SplitFields → ℕ → ℕ
steps_with_split None room_depth = 0
steps_with_split (Some split) room_depth = steps_left split
    + steps_of_splits (room_depth - (split.depth + 1)) (split.depth + 1)
    (depth_after split.depth split.directory_depth)

-- how deep the bucket on page q is, as the walk has it, and the directory
abbrev pub bucket_depth : View → ℕ → ℕ
bucket_depth view q = (bucket_of (held_page view q)).depth

abbrev pub directory_depth : View → ℕ → ℕ
directory_depth view root = (header_of (held_page view root)).depth

-- The steps that a pass still takes that splits its bucket down to a depth at which there is room, and puts its record. It
-- takes fewer where there is room before.
abbrev pub steps_to_put_at : Phase → ℕ → WalkFields → View → ℕ
steps_to_put_at (Phase.Adding value bucket room_depth unsplit) root walk view =
    steps_of_splits (room_depth - bucket_depth view bucket) (bucket_depth view bucket)
    (directory_depth view root)
steps_to_put_at (Phase.Splitting value room_depth) root walk view = steps_with_split walk.split room_depth
steps_to_put_at other root walk view = 0

abbrev pub steps_to_put : ℕ → WalkFields → View → ℕ
steps_to_put root walk view = steps_to_put_at walk.phase root walk view

-- the walk splits its bucket, or is to split it or to put its record
abbrev pub IsPutting : Phase → Type 0
IsPutting (Phase.Adding value bucket room_depth unsplit) = Unit {0}
IsPutting (Phase.Splitting value room_depth) = Unit {0}
IsPutting other = ⊥
