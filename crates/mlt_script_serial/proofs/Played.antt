-- Scripts that are played at a base.
use Rattle.std.proofs.Common.{ℕ, [], ◌∷◌, Result, Ok, Err, OnErr, sym, ap, subst}
use Rattle.mlt_types.specs.declared.refusal.Refusal.{Refusal}
use Rattle.mlt_object_kinds.specs.Bases.{Base, TranscriptLeads, Transcript}
use Rattle.mlt_script.specs.{declared.statement.Ending.Ending, Scripts.ScriptForm}
use Rattle.mlt_script_serial.{specs.Follows.IsPartial, specs.Calls.Moves, specs.Plays.Gives, specs.Plays.PlaysAt, proofs.Transcripts.is_partial, specs.Answering.AnswersOf}

-- anything that answers as its base does
module _ {D : Type 0} (base_of : D → Base) where
  abbrev pub base_moves : Moves D
  base_moves old call answer new = AnswersOf (base_of old) call answer (base_of new)

  gives_runs : (tx : ℕ) (d : D) (t : Transcript) (e : D) → Gives base_moves tx d t e → TranscriptLeads (base_of d) t (base_of e)
  gives_runs tx d [] e h = ap base_of h
  gives_runs tx d (x ∷ t) e h = (base_of h.0, h.1, gives_runs tx h.0 t e h.2)

  -- **What was done is a run of the base,** whether the script ended or was refused.
  pub plays_runs : (s : ScriptForm) (tx : ℕ) (d : D) (t : Transcript) (ended : Result Ending Refusal) (e : D) → PlaysAt base_moves s tx d t ended e → TranscriptLeads (base_of d) t (base_of e)
  plays_runs s tx d t (Ok ending) e h = gives_runs tx d t e h.1
  plays_runs s tx d t (Err refusal) e h = subst (λ (b : Base). TranscriptLeads (base_of d) t b) (sym h.refused.1) (gives_runs tx d t h.middle h.gives)

  -- where it was refused, that is a partial transcript
  pub plays_partial : (s : ScriptForm) (tx : ℕ) (d : D) (t : Transcript) (ended : Result Ending Refusal) (e : D) → PlaysAt base_moves s tx d t ended e → OnErr ended (IsPartial s t)
  plays_partial s tx d t (Ok ending) e h = tt
  plays_partial s tx d t (Err refusal) e h = is_partial s t h.left h.reaches
