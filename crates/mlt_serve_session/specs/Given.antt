-- Outcomes in which all is what a desk answered.
use Rattle.std.specs.Prelude.{ℕ, List, All}
use Rattle.mlt_object_kinds.specs.declared.operation.{ObjOp.ObjOp, ObjReply.ObjReply}
use Rattle.mlt_script_serial.specs.{declared.outcome.End.End, declared.outcome.Outcome.Outcome, declared.call.DeskAnswer.DeskAnswer, declared.call.DeskAnswer.TheVariants.Begun, declared.call.DeskAnswer.TheVariants.Replied, declared.call.DeskAnswer.TheVariants.Committed, declared.call.DeskCall.DeskCall, Calls.Moves}
use Rattle.mlt_serve_session.specs.Desks.{Answers}

-- a desk that moves so comes from the one state to the other by some calls
pub record LeadsTo {D : Type 0} (moves : Moves D) (from to : D) : Type 0 where
  pub calls : List DeskCall
  pub answers : List DeskAnswer
  pub run : Answers moves from calls answers to

-- a desk that moves so gave this answer to this call, and came to its last state after that
pub record Gave {D : Type 0} (moves : Moves D) (last : D) (asked : DeskCall) (answer : DeskAnswer)
    : Type 0 where
  pub before : D
  pub after : D
  pub moved : moves before asked answer after
  pub leads : LeadsTo moves after last

-- it gave the transaction this reply to this operation
abbrev pub GaveReply : {D : Type 0} → Moves D → D → ℕ → ObjOp × ObjReply → Type 0
GaveReply moves last tx done = Gave moves last (DeskCall.Operation tx done.0) (Replied done.1)

-- it gave the transaction its commit, if it has one
abbrev pub GaveEnd : {D : Type 0} → Moves D → D → ℕ → End → Type 0
GaveEnd moves last tx (End.Committed number) = Gave moves last (DeskCall.Commit tx) (Committed number)
GaveEnd moves last tx other = Unit {0}

-- it began the transaction, and gave it each of its replies and its commit, if it has one
pub record GaveAll {D : Type 0} (moves : Moves D) (last : D) (o : Outcome) : Type 0 where
  pub begun : Gave moves last DeskCall.Begin (Begun o.tx)
  pub replies : All (GaveReply moves last o.tx) o.done
  pub end : GaveEnd moves last o.tx o.end
