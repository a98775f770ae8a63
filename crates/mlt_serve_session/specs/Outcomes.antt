-- What became of the transactions of a session.
use Rattle.std.specs.Prelude.{ℕ, ◌+◌, List, [], ◌∷◌, ◌++◌, Option, Some, None}
use Rattle.mlt_object_kinds.specs.declared.operation.{ObjOp.ObjOp, ObjReply.ObjReply}
use Rattle.mlt_script_serial.specs.declared.{outcome.End.End, outcome.Outcome.Outcome, call.DeskAnswer.DeskAnswer, call.DeskAnswer.TheVariants.Begun, call.DeskAnswer.TheVariants.Replied, call.DeskAnswer.TheVariants.Committed, call.DeskCall.DeskCall}
use Rattle.mlt_serve_session.specs.Talks.{Turn, call_for}

-- what became of a transaction of a client
abbrev pub outcome_of : ℕ → ℕ → ℕ → List (ObjOp × ObjReply) → End → Outcome
outcome_of client number tx done ending =
    record { client = client; number = number; tx = tx; done = done; end = ending }

-- how many transactions an answer begins
abbrev pub begins_by : Option DeskAnswer → ℕ
begins_by (Some (Begun tx)) = 1
begins_by answer = 0

-- whether a transaction began in the turn
abbrev pub begun_in : Option DeskCall → Option DeskAnswer → Option ℕ
begun_in (Some DeskCall.Begin) (Some (Begun tx)) = Some tx
begun_in asked answer = None

-- what was done in the turn
abbrev pub done_in : Option DeskCall → Option DeskAnswer → List (ObjOp × ObjReply)
done_in (Some (DeskCall.Operation tx op)) (Some (Replied reply)) = (op, reply) ∷ []
done_in asked answer = []

-- how a transaction ends by the turn, if it ended so before
abbrev pub end_in : End → Option DeskCall → Option DeskAnswer → End
end_in before (Some (DeskCall.Commit tx)) (Some (Committed n)) = End.Committed n
end_in before asked answer = before

abbrev pub call_of : Turn → Option DeskCall
call_of t = call_for t.open_before t.line

-- the turns up to the next in which a transaction begins
abbrev pub up_to : Option ℕ → Turn → List Turn → List Turn
up_to None t rest = t ∷ rest
up_to (Some tx) t rest = []

abbrev pub before_next : List Turn → List Turn
before_next [] = []
before_next (t ∷ ts) = up_to (begun_in (call_of t) t.answer) t (before_next ts)

abbrev pub all_done : List Turn → List (ObjOp × ObjReply)
all_done [] = []
all_done (t ∷ ts) = done_in (call_of t) t.answer ++ all_done ts

abbrev pub ended_by : End → List Turn → End
ended_by before [] = before
ended_by before (t ∷ ts) = ended_by (end_in before (call_of t) t.answer) ts

-- the outcome of a transaction that began: all that was done before the next one began, and how it
-- ended; it was taken
-- back where no commit was answered
abbrev pub outcome_behind : ℕ → ℕ → ℕ → List Turn → Outcome
outcome_behind client number tx behind =
    outcome_of client number tx (all_done (before_next behind))
    (ended_by End.Aborted (before_next behind))

abbrev pub outcome_if : ℕ → ℕ → Option ℕ → List Turn → List Outcome
outcome_if client number None behind = []
outcome_if client number (Some tx) behind = outcome_behind client number tx behind ∷ []

-- one outcome for each transaction that began, in their order
abbrev pub outcomes_of : ℕ → ℕ → List Turn → List Outcome
outcomes_of client begun [] = []
outcomes_of client begun (t ∷ ts) = outcome_if client (begun + 1) (begun_in (call_of t) t.answer) ts
    ++ outcomes_of client (begun + begins_by t.answer) ts
