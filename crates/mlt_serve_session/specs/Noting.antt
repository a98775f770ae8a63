-- The outcomes of a session so far, and what an answer makes of them.
use Rattle.std.specs.Prelude.{ℕ, ◌+◌, List, [], ◌∷◌, ◌++◌, Option, Some, None}
use Rattle.mlt_object_kinds.specs.declared.operation.{ObjOp.ObjOp, ObjReply.ObjReply}
use Rattle.mlt_script_serial.specs.declared.{outcome.End.End, outcome.Outcome.Outcome, call.DeskAnswer.DeskAnswer, call.DeskAnswer.TheVariants.Begun, call.DeskAnswer.TheVariants.Replied, call.DeskAnswer.TheVariants.Committed, call.DeskCall.DeskCall}
use Rattle.mlt_serve_session.specs.{declared.notes.SessionRecord.SessionRecord, declared.receipts.Receipts.Ghosts, Outcomes.outcome_of}

-- the outcome of the transaction that is open, if one is: it would be taken back now
abbrev pub pending : ℕ → ℕ → Option ℕ → List (ObjOp × ObjReply) → List Outcome
pending client number None done = []
pending client number (Some tx) done = outcome_of client number tx done End.Aborted ∷ []

-- all outcomes so far, that of the open transaction among them
abbrev pub outcomes_in : {K : Type 0} {of : Ghosts K} → ℕ → SessionRecord K of → List Outcome
outcomes_in {of = of} client notes = of.receipts notes.outcomes
    ++ pending client notes.progress.begun notes.progress.tx notes.done.items

-- the outcomes after the answer to a begin
abbrev pub begun_noted : ℕ → ℕ → List Outcome → DeskAnswer → List Outcome
begun_noted client number rs (Begun tx) = rs ++ outcome_of client number tx [] End.Aborted ∷ []
begun_noted client number rs answer = rs

-- an outcome after the answer to an operation
abbrev pub replied_noted : ObjOp → DeskAnswer → Outcome → Outcome
replied_noted op (Replied reply) r = record r { done = r.done ++ (op, reply) ∷ [] }
replied_noted op answer r = r

-- an outcome after the answer to a commit
abbrev pub committed_noted : DeskAnswer → Outcome → Outcome
committed_noted (Committed n) r = record r { end = End.Committed n }
committed_noted answer r = r

-- the last of the outcomes changes
abbrev pub at_last : (Outcome → Outcome) → List Outcome → List Outcome
at_last f [] = []
at_last f (r ∷ []) = f r ∷ []
at_last f (r ∷ s ∷ rs) = r ∷ at_last f (s ∷ rs)

-- the outcomes after a call and its answer, where so many transactions were begun before
abbrev pub noted : ℕ → ℕ → List Outcome → DeskCall → DeskAnswer → List Outcome
noted client begun rs DeskCall.Begin answer = begun_noted client (begun + 1) rs answer
noted client begun rs (DeskCall.Operation tx op) answer = at_last (replied_noted op answer) rs
noted client begun rs (DeskCall.Commit tx) answer = at_last (committed_noted answer) rs
noted client begun rs (DeskCall.Abort tx) answer = rs
