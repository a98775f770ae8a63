use Rattle.std.proofs.Common.{rules}
use Rattle.mlt_work.proofs.ClaimMoves.{draws}
use Rattle.mlt_work.proofs.claim_handles.ClientCounter.draw.Goals as goal

pub fetch_add-requires : goal.fetch_add-requires
fetch_add-requires c = (search rules, search rules, draws _ _ _ _ c.requires.parts c.requires.overruns)
