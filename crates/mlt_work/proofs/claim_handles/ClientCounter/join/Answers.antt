use Rattle.std.proofs.Common.{rules}
use Rattle.mlt_work.proofs.ClaimMoves.{joins}
use Rattle.mlt_work.proofs.claim_handles.ClientCounter.join.Goals as goal

pub join_seat-requires : goal.join_seat-requires
join_seat-requires c = (search rules, search rules, search rules, search rules, joins _ _ _ _ _ c.requires.parts)
