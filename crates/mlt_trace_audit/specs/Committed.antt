-- The committed outcomes, in the order of their commits, and the base that they lead to.
use Rattle.std.specs.Prelude.{◌≡◌, ℕ, ◌+◌, List, [], ◌∷◌, map, Contains}
use Rattle.mlt_object_kinds.specs.{declared.operation.ObjOp.ObjOp, declared.operation.ObjReply.ObjReply, Bases.Base, Bases.Step, Bases.empty_base}
use Rattle.mlt_order.specs.Runs.{IsSerialBase}
use Rattle.mlt_script_serial.specs.declared.outcome.{End.TheVariants.Committed, Outcome.Outcome}
use Rattle.mlt_trace_audit.specs.Orders.{IsCommitted}

-- the commits of the outcomes have this number, the next one, and so on
abbrev pub CommitFrom : ℕ → List Outcome → Type 0
CommitFrom number [] = Unit {0}
CommitFrom number (o ∷ os) = (o.end ≡ Committed number) × CommitFrom (number + 1) os

-- the transcripts of outcomes, in their order
abbrev pub transcripts_of : List Outcome → List (List (ObjOp × ObjReply))
transcripts_of outcomes = map (λ o. o.done) outcomes

-- the committed ones of the outcomes, in the order of their commits, whose numbers are 1, 2, 3 and so on
pub record AreCommittedOf (outcomes ordered : List Outcome) : Type 0 where
  pub all : (o : Outcome) → Contains outcomes o → IsCommitted o → Contains ordered o
  pub no_others : (o : Outcome) → Contains ordered o → Contains outcomes o
  pub counted : CommitFrom 1 ordered

-- the transcripts of the committed outcomes, one after another in the order of the commits, lead from the empty base to
-- this one
abbrev pub IsBaseOfOutcomes : List Outcome → Base → Type 0
IsBaseOfOutcomes outcomes base =
    (ordered : List Outcome) × AreCommittedOf outcomes ordered × IsSerialBase Step empty_base (transcripts_of ordered) base
