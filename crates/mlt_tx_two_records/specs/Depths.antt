-- How far a walk has split its bucket
use Rattle.std.specs.Prelude.{ℕ, ◌≡◌, ◌<◌, ◌+◌, ◌⊎◌, Option, None, Some}
use Rattle.mlt_hash_access.specs.Views.{View}
use Rattle.mlt_hash_split.specs.Splits.{SplitFields}
use Rattle.mlt_hash.specs.{StepsLeft.bucket_depth, StepsLeft.depth_after, StepsLeft.directory_depth, Walks.WalkFields, declared.pass.Phase.Phase}

-- Down to which depth a walk splits its bucket. And how deep the bucket is, and the directory: before the split that is under
-- way, where one is.
pub record Depths : Type 0 where
  pub room : ℕ
  pub bucket : ℕ
  pub directory : ℕ

abbrev pub depths_with_split : Option SplitFields → ℕ → Option Depths
depths_with_split None room_depth = None
depths_with_split (Some split) room_depth =
    Some (record { room = room_depth; bucket = split.depth; directory = split.directory_depth })

-- of a walk that splits its bucket, or is to split it or to put its record
abbrev pub depths_at : Phase → ℕ → WalkFields → View → Option Depths
depths_at (Phase.Adding value bucket room_depth unsplit) root walk view = Some (record {
  room = room_depth;
  bucket = bucket_depth view bucket;
  directory = directory_depth view root;
})
depths_at (Phase.Splitting value room_depth) root walk view = depths_with_split walk.split room_depth
depths_at other root walk view = None

-- once the bucket is split
abbrev pub deeper : Depths → Depths
deeper depths = record {
  room = depths.room;
  bucket = depths.bucket + 1;
  directory = depth_after depths.bucket depths.directory;
}

-- A step of a walk that splits its bucket leaves the depths, or closes a split: then the bucket is one deeper. Only a bucket
-- that is less deep than is needed is split.
pub record GoesDown (root : ℕ) (before after : WalkFields) (old new : View) : Type 0 where
  pub was : Depths
  pub is : Depths
  pub was_is : depths_at before.phase root before old ≡ Some was
  pub is_is : depths_at after.phase root after new ≡ Some is
  pub by_one : (is ≡ was) ⊎ ((is ≡ deeper was) × (was.bucket < was.room))
