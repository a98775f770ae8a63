-- Scripts that are played, over the relation of what answers them, of its states, calls and answers.
use Rattle.std.specs.Prelude.{◌≡◌, ℕ, [], ◌∷◌, Result, Ok, Err}
use Rattle.mlt_types.specs.declared.refusal.Refusal.{Refusal}
use Rattle.mlt_object_kinds.specs.{declared.operation.ObjOp.ObjOp, Bases.Transcript}
use Rattle.mlt_script.specs.{declared.statement.Ending.Ending, Scripts.ScriptForm}
use Rattle.mlt_script_serial.specs.{declared.call.DeskAnswer.TheVariants.Refused, declared.call.DeskAnswer.TheVariants.Replied, declared.call.DeskCall.TheVariants.Operation, declared.cursor.Next.Next, Calls.Moves}
use Rattle.mlt_script_serial.specs.Follows.{Follows, IsNext, Questions, Reaches, questions_of_script}

module _ {D : Type 0} (moves : Moves D) where
  -- asked the operations of the transcript in turn, the desk gives just its replies
  abbrev pub Gives : ℕ → D → Transcript → D → Type 0
  Gives tx d [] e = d ≡ e
  Gives tx d (x ∷ t) e = (m : D) × moves d (Operation tx x.0) (Replied x.1) m × Gives tx m t e

  -- the script was told the replies of a partial transcript, and then what it asked next was refused
  pub record StopsAt (s : ScriptForm) (tx : ℕ) (d : D) (t : Transcript) (refusal : Refusal) (e : D)
      : Type 0 where
    pub left : Questions
    pub reaches : Reaches (questions_of_script s) t left
    pub middle : D
    pub gives : Gives tx d t middle
    pub op : ObjOp
    pub asked : IsNext (Next.Op op) left
    pub refused : moves middle (Operation tx op) (Refused refusal) e

  -- the script comes to its end, or is stopped by a refusal
  abbrev pub PlaysAt : ScriptForm → ℕ → D → Transcript → Result Ending Refusal → D → Type 0
  PlaysAt s tx d t (Ok ending) e = Follows s t ending × Gives tx d t e
  PlaysAt s tx d t (Err refusal) e = StopsAt s tx d t refusal e
