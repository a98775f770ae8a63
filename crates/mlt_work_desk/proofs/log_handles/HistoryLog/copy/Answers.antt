use Rattle.std.proofs.Common.{rules}
use Rattle.mlt_work_desk.proofs.LogMoves.{splits}
use Rattle.mlt_work_desk.proofs.log_handles.HistoryLog.copy.Goals as goal

pub split_seat-seat-requires : goal.split_seat-seat-requires
split_seat-seat-requires c = (search rules, search rules, splits _ _)
