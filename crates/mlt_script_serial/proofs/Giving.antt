-- Scripts that are played, as their transcripts grow.
use Rattle.std.proofs.Common.{ℕ, [], ◌∷◌, ◌++◌, refl, sym, subst}
use Rattle.mlt_script_serial.proofs.Names.{ObjOp, ObjReply, Transcript, Gives}
use Rattle.mlt_script_serial.specs.{declared.call.DeskAnswer.TheVariants.Replied, declared.call.DeskCall.TheVariants.Operation, Calls.Moves}

-- one more reply is given
pub gives_more : {D : Type 0} (moves : Moves D) (tx : ℕ) (d : D) (t : Transcript) (m e : D) (op : ObjOp) (r : ObjReply)
    → Gives moves tx d t m → moves m (Operation tx op) (Replied r) e → Gives moves tx d (t ++ (op, r) ∷ []) e
gives_more moves tx d [] m e op r h a = (e, subst (λ z. moves z (Operation tx op) (Replied r) e) (sym h) a, refl)
gives_more moves tx d (x ∷ t) m e op r h a = (h.0, h.1, gives_more moves tx h.0 t m e op r h.2 a)
