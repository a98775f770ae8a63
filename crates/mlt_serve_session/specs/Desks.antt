-- Runs of a desk.
use Rattle.std.specs.Prelude.{◌≡◌, ℕ, List, [], ◌∷◌, Option, Some, None}
use Rattle.mlt_script_serial.specs.{declared.call.DeskAnswer.DeskAnswer, declared.call.DeskCall.DeskCall, Calls.Moves, Calls.answer_to}

-- the desk moves so, and the answer is one to the call
abbrev pub Moved : {D : Type 0} → Moves D → Moves D
Moved moves old c a new = (answer_to c a ≡ a) × moves old c a new

-- the desk gives these answers to these calls, one after the other
abbrev pub Answers : {D : Type 0} → Moves D → D → List DeskCall → List DeskAnswer → D → Type 0
Answers moves old [] [] new = new ≡ old
Answers {D} moves old (c ∷ calls) (a ∷ answers) new = (mid : D) × Moved moves old c a mid
    × Answers moves mid calls answers new
Answers moves old [] (a ∷ answers) new = ⊥
Answers moves old (c ∷ calls) [] new = ⊥

-- the transaction that has to be open for a call
abbrev pub open_for : DeskCall → Option ℕ
open_for DeskCall.Begin = None
open_for (DeskCall.Operation tx op) = Some tx
open_for (DeskCall.Commit tx) = Some tx
open_for (DeskCall.Abort tx) = Some tx
