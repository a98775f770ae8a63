-- The list owns nothing, so any thread may see it.
use denote.RattleType.{RattleType}
use denote.Param.Send.{IsSync, part_keyless}
use Rattle.mlt_types.{specs.contracts.ghost_list.GhostList.the_row, proofs.ghost_list.GhostList.TheSendSync.Send.send}

pub sync : (T : RattleType) → IsSync (the_row T)
sync T = record { shared = λ d b o κ q. part_keyless (the_row T) (send T) q d b o }
