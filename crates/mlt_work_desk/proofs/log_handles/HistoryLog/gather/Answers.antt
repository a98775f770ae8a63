use Rattle.std.proofs.Common.{rules}
use Rattle.mlt_work_desk.proofs.LogMoves.{gathers}
use Rattle.mlt_work_desk.proofs.log_handles.HistoryLog.gather.Goals as goal

pub join_seat-requires : goal.join_seat-requires
join_seat-requires c = (search rules, search rules, search rules, search rules, gathers _ _ _ _)
