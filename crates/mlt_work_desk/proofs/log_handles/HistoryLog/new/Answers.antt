use Rattle.mlt_work_desk.proofs.LogMoves.{begins}
use Rattle.mlt_work_desk.proofs.log_handles.HistoryLog.new.Goals as goal

pub of_words-requires : goal.of_words-requires
of_words-requires c = begins
