use Rattle.std.proofs.Common.{rules}
use Rattle.mlt_work.proofs.ClaimMoves.{splits}
use Rattle.mlt_work.proofs.claim_handles.ClientCounter.split.Goals as goal

pub split_seat-seat-requires : goal.split_seat-seat-requires
split_seat-seat-requires c = (search rules, search rules, splits _ _ _ c.requires.parts c.requires.overruns)
