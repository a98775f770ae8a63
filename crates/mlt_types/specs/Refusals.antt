-- The numbers and names that are printed of refusals, and the names of causes.
use Rattle.std.specs.Prelude.{ℕ, List, codes}
use Rattle.mlt_types.specs.declared.refusal.{Refusal.Refusal, ScriptCause.ScriptCause, TraceCause.TraceCause}

-- the name of the cause of a faulty script
abbrev pub script_cause_name : ScriptCause → List ℕ
script_cause_name ScriptCause.Line = codes "Line"
script_cause_name ScriptCause.Words = codes "Words"
script_cause_name ScriptCause.Place = codes "Place"
script_cause_name ScriptCause.Deep = codes "Deep"
script_cause_name ScriptCause.Long = codes "Long"
script_cause_name ScriptCause.Unfinished = codes "Unfinished"

-- the name of the cause of a faulty trace
abbrev pub trace_cause_name : TraceCause → List ℕ
trace_cause_name TraceCause.Line = codes "Line"
trace_cause_name TraceCause.Cut = codes "Cut"
trace_cause_name TraceCause.Words = codes "Words"
trace_cause_name TraceCause.Place = codes "Place"
trace_cause_name TraceCause.Reply = codes "Reply"

-- the number of a refusal, from 1 to 16
abbrev pub number_of : Refusal → ℕ
number_of Refusal.OutOfMemory = 1
number_of Refusal.NoRoom = 2
number_of Refusal.NoSuchTx = 3
number_of Refusal.Undoing = 4
number_of Refusal.Running = 5
number_of Refusal.NotRunning = 6
number_of Refusal.TooManyOpen = 7
number_of Refusal.LogFull = 8
number_of Refusal.IdsSpent = 9
number_of (Refusal.ScriptFault line cause) = 10
number_of (Refusal.TraceFault line cause) = 11
number_of Refusal.LineTooLong = 12
number_of Refusal.Io = 13
number_of Refusal.GaveUp = 14
number_of Refusal.Audit = 15
number_of Refusal.BadLimits = 16

-- the name of a refusal
abbrev pub name_of : Refusal → List ℕ
name_of Refusal.OutOfMemory = codes "OutOfMemory"
name_of Refusal.NoRoom = codes "NoRoom"
name_of Refusal.NoSuchTx = codes "NoSuchTx"
name_of Refusal.Undoing = codes "Undoing"
name_of Refusal.Running = codes "Running"
name_of Refusal.NotRunning = codes "NotRunning"
name_of Refusal.TooManyOpen = codes "TooManyOpen"
name_of Refusal.LogFull = codes "LogFull"
name_of Refusal.IdsSpent = codes "IdsSpent"
name_of (Refusal.ScriptFault line cause) = codes "ScriptFault"
name_of (Refusal.TraceFault line cause) = codes "TraceFault"
name_of Refusal.LineTooLong = codes "LineTooLong"
name_of Refusal.Io = codes "Io"
name_of Refusal.GaveUp = codes "GaveUp"
name_of Refusal.Audit = codes "Audit"
name_of Refusal.BadLimits = codes "BadLimits"
