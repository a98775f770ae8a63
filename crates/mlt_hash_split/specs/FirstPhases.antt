-- Where a split begins to write the directory
use Rattle.std.specs.Prelude.{◌≡◌, ◌<◌}
use Rattle.mlt_hash_split.specs.{declared.phase.SplitPhase.SplitPhase, Splits.HaveNewPlaces, Splits.SplitFields}

-- a directory that is as deep as the bucket doubles, from its first page on; another is written in place
abbrev pub IsFirstPhase : SplitFields → SplitPhase → Type 0
IsFirstPhase split SplitPhase.OldBucket = ⊥
IsFirstPhase split (SplitPhase.InPlace place end) =
    (split.depth < split.directory_depth)
    × HaveNewPlaces split.seed split.depth split.directory_depth place end
IsFirstPhase split (SplitPhase.Double place) = (split.depth ≡ split.directory_depth) × (place ≡ 0)
IsFirstPhase split (SplitPhase.SecondHalf place) = ⊥
IsFirstPhase split SplitPhase.Header = ⊥
