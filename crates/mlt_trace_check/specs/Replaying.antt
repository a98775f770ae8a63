-- Operations that are done anew.
use Rattle.std.specs.Prelude.{◌≡◌, ℕ, List, ◌∷◌, ◌++◌, map, Result, Ok, Err}
use Rattle.mlt_types.specs.declared.refusal.{Refusal.Refusal, Refusal.TheVariants.OutOfMemory, Refusal.TheVariants.TraceFault, TraceCause.TraceCause}
use Rattle.mlt_object_kinds.specs.{declared.operation.ObjOp.ObjOp, declared.operation.ObjReply.ObjReply, Bases.Base, Bases.Step}
use Rattle.mlt_order.specs.Runs.{Runs}

-- an operation with its reply, and the number of its line
abbrev pub DoneAt : Type 0
DoneAt = ℕ × (ObjOp × ObjReply)

-- the operations without their lines
abbrev pub dones : List DoneAt → List (ObjOp × ObjReply)
dones ops = map (λ op. op.1) ops

-- no step of the operation with this reply leads anywhere
abbrev pub IsFalseAt : Base → ObjOp × ObjReply → Type 0
IsFalseAt base done = (next : Base) → Step base done next → ⊥

-- the operation is a step from a base to a base, or its reply is false there
abbrev pub ReplaysOne : Result (Unit {0}) Refusal → ℕ → ObjOp × ObjReply → Base → Base → Type 0
ReplaysOne (Ok it) line done before after = Step before done after
ReplaysOne (Err OutOfMemory) line done before after = Unit {0}
ReplaysOne (Err (TraceFault n TraceCause.Reply)) line done before after = (n ≡ line) × IsFalseAt before done
ReplaysOne (Err refusal) line done before after = ⊥

-- the operations run from a base to a base, or the one in the line is the first that is false
abbrev pub Replays : Result (Unit {0}) Refusal → List DoneAt → Base → Base → Type 0
Replays (Ok done_all) ops before after = Runs Step before (dones ops) after
Replays (Err OutOfMemory) ops before after = Unit {0}
Replays (Err (TraceFault line TraceCause.Reply)) ops before after =
    (front : List DoneAt) × (rest : List DoneAt) × (done : ObjOp × ObjReply) × (middle : Base)
    × (ops ≡ front ++ (line, done) ∷ rest) × Runs Step before (dones front) middle × IsFalseAt middle done
Replays (Err refusal) ops before after = ⊥
