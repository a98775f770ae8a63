-- Scripts at a desk, over the desk's relation of its states, calls and answers.
use Rattle.std.specs.Prelude.{◌≡◌, ◌⊎◌, ℕ, [], Result, Ok, Err}
use Rattle.mlt_types.specs.declared.refusal.Refusal.{Refusal}
use Rattle.mlt_object_kinds.specs.Bases.{Transcript}
use Rattle.mlt_script.specs.{declared.statement.Ending.Ending, declared.statement.Ending.TheVariants.Commit, declared.statement.Ending.TheVariants.Abort, Scripts.ScriptForm}
use Rattle.mlt_script_serial.specs.{Follows.Follows, Follows.IsPartial, declared.call.DeskAnswer.DeskAnswer, declared.call.DeskCall.DeskCall, Calls.Moves, Plays.PlaysAt, declared.outcome.End.End, declared.outcome.End.TheVariants.Committed, declared.outcome.End.TheVariants.Aborted, declared.outcome.End.TheVariants.Refused}

-- A committed script has a whole transcript that ends in its commit, an aborted one has one that ends in its abort, and a
-- refused one a partial transcript.
abbrev pub HasEndedAs : ScriptForm → Transcript → End → Type 0
HasEndedAs s t (Committed number) = Follows s t Commit
HasEndedAs s t Aborted = Follows s t Abort
HasEndedAs s t (Refused refusal) = IsPartial s t

-- What a script is refused with whose transaction was refused this. That there is none of its number, that its abort has
-- begun or that it is at an operation is told only where another acts for it; then the script gives up.
abbrev pub refusal_of_script : Refusal → Refusal
refusal_of_script Refusal.NoSuchTx = Refusal.GaveUp
refusal_of_script Refusal.Undoing = Refusal.GaveUp
refusal_of_script Refusal.Running = Refusal.GaveUp
refusal_of_script other = other

module _ {D : Type 0} (moves : Moves D) where
  -- how a transaction is closed, by how its script ended; where it does not commit it is aborted
  abbrev pub ClosesAs : ℕ → Result Ending Refusal → D → End → D → Type 0
  ClosesAs tx (Ok Commit) d (Committed number) e =
      moves d (DeskCall.Commit tx) (DeskAnswer.Committed number) e
  ClosesAs tx (Ok Commit) d (Refused other) e =
      (refusal : Refusal) × (other ≡ refusal_of_script refusal)
      × ((m : D) × moves d (DeskCall.Commit tx) (DeskAnswer.Refused refusal) m
      × moves m (DeskCall.Abort tx) DeskAnswer.Aborted e)
  ClosesAs tx (Ok Abort) d Aborted e = moves d (DeskCall.Abort tx) DeskAnswer.Aborted e
  ClosesAs tx (Err refusal) d (Refused other) e =
      (other ≡ refusal_of_script refusal) × moves d (DeskCall.Abort tx) DeskAnswer.Aborted e
  ClosesAs tx ended d end e = ⊥

  -- no transaction begins for the script
  pub record IsUnbegun (d : D) (tx : ℕ) (t : Transcript) (end : End) (e : D) : Type 0 where
    pub refusal : Refusal
    pub begins_none : moves d DeskCall.Begin (DeskAnswer.Refused refusal) e
    pub no_number : tx ≡ 0
    pub nothing : t ≡ []
    pub refused : end ≡ Refused refusal

  -- the transaction of a script begins, the script plays in it, and it is closed
  pub record IsBegun (s : ScriptForm) (d : D) (tx : ℕ) (t : Transcript) (end : End) (e : D)
      : Type 0 where
    pub after_begin : D
    pub after_script : D
    pub ended : Result Ending Refusal
    pub begun : moves d DeskCall.Begin (DeskAnswer.Begun tx) after_begin
    pub plays : PlaysAt moves s tx after_begin t ended after_script
    pub closes : ClosesAs tx ended after_script end e

  -- the transaction of a script, from its begin to its end
  abbrev pub IsRunAt : ScriptForm → D → ℕ → Transcript → End → D → Type 0
  IsRunAt s d tx t end e = IsUnbegun d tx t end e ⊎ IsBegun s d tx t end e
