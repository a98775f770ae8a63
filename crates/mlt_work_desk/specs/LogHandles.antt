-- Handles of a log.
use Rattle.std.specs.Prelude.{◌≡◌, ℕ, List, []}
use Rattle.atomic_table.specs.Seated.{TableId}
use Rattle.mlt_trace.specs.declared.item.TraceItem.{TraceItem}
use Rattle.mlt_work_desk.specs.declared.log_handles.{HistoryLog.HistoryLog, LogSnapshot.LogSnapshot, LogWriter.LogWriter, Past.Past}

-- what tells a log from others
abbrev pub LogId : Type 0
LogId = TableId

-- no log has this
abbrev pub no_log : LogId
no_log = record {
  words = 0;
  slots = 0;
  views_name = 0;
  atom = 0;
  block = 0;
  offset = 0;
  slot_names = [];
}

-- which log it is
abbrev pub id_of : HistoryLog → LogId
id_of log = log.table.shared.table_id

-- it is the writer of this log
abbrev pub IsWriterOf : LogId → LogWriter → Type 0
IsWriterOf id writer = writer.seat.table_id ≡ id

-- it is a snapshot of this log
abbrev pub IsOf : LogId → LogSnapshot → Type 0
IsOf id snapshot = snapshot.seat.table_id ≡ id

-- all that the manager has done
abbrev pub past_of : LogWriter → Past
past_of writer = writer.seat.me.0.past

-- what it had done when it was seen
abbrev pub seen_by : LogSnapshot → Past
seen_by snapshot = snapshot.seat.me.0.past

-- the first items of the history, those that it had when it was seen
abbrev pub first_items : LogSnapshot → List TraceItem
first_items snapshot = (seen_by snapshot).items

-- the transactions that its holder has begun, in order
abbrev pub begun_by : LogSnapshot → List ℕ
begun_by snapshot = snapshot.seat.me.0.begun
