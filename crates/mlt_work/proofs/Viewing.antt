-- Runs of scripts at a desk, as they are for one who sees a view of its states.
use Rattle.std.proofs.Common.{ℕ, List, [], ◌∷◌, Result, Ok, Err, ap, inl, inr}
use Rattle.mlt_types.specs.declared.refusal.Refusal.{Refusal}
use Rattle.mlt_object_kinds.specs.Bases.{Transcript}
use Rattle.mlt_script.specs.{declared.statement.Ending.Ending, declared.statement.Ending.TheVariants.Commit, declared.statement.Ending.TheVariants.Abort, Scripts.ScriptForm}
use Rattle.mlt_script_serial.specs.{Calls.Moves, Clients.AreRunsAt, Clients.IsServedAt, DeskRuns.ClosesAs, DeskRuns.IsRunAt, Plays.Gives, Plays.PlaysAt, declared.outcome.End.End, declared.outcome.End.TheVariants.Committed, declared.outcome.End.TheVariants.Aborted, declared.outcome.End.TheVariants.Refused, declared.outcome.Outcome.Outcome}

module _ {D V : Type 0} (view : D → V) (moves : Moves V) where
  -- the desk moves as its view does
  abbrev pub moves_by : Moves D
  moves_by old call answer new = moves (view old) call answer (view new)

  gives : (tx : ℕ) (d : D) (t : Transcript) (e : D) → Gives moves_by tx d t e → Gives moves tx (view d) t (view e)
  gives tx d [] e same = ap view same
  gives tx d (x ∷ t) e (m, moved, more) = (view m, moved, gives tx m t e more)

  plays : (s : ScriptForm) (tx : ℕ) (d : D) (t : Transcript) (ended : Result Ending Refusal) (e : D) → PlaysAt moves_by s tx d t ended e → PlaysAt moves s tx (view d) t ended (view e)
  plays s tx d t (Ok ending) e (follows, given) = (follows, gives tx d t e given)
  plays s tx d t (Err refusal) e stops = record {
    left = stops.left;
    reaches = stops.reaches;
    middle = view stops.middle;
    gives = gives tx d t stops.middle stops.gives;
    op = stops.op;
    asked = stops.asked;
    refused = stops.refused;
  }

  closes : (tx : ℕ) (ended : Result Ending Refusal) (d : D) (end : End) (e : D) → ClosesAs moves_by tx ended d end e → ClosesAs moves tx ended (view d) end (view e)
  closes tx (Ok Commit) d (Committed number) e closed = closed
  closes tx (Ok Commit) d (Refused other) e (reason, same, (m, commits, aborts)) = (reason, same, (view m, commits, aborts))
  closes tx (Ok Commit) d Aborted e closed = absurd closed
  closes tx (Ok Abort) d Aborted e closed = closed
  closes tx (Ok Abort) d (Committed number) e closed = absurd closed
  closes tx (Ok Abort) d (Refused other) e closed = absurd closed
  closes tx (Err refusal) d (Refused other) e closed = closed
  closes tx (Err refusal) d (Committed number) e closed = absurd closed
  closes tx (Err refusal) d Aborted e closed = absurd closed

  is_run : (s : ScriptForm) (d : D) (tx : ℕ) (t : Transcript) (end : End) (e : D) → IsRunAt moves_by s d tx t end e → IsRunAt moves s (view d) tx t end (view e)
  is_run s d tx t end e (inl unbegun) = inl (record {
    refusal = unbegun.refusal;
    begins_none = unbegun.begins_none;
    no_number = unbegun.no_number;
    nothing = unbegun.nothing;
    refused = unbegun.refused;
  })
  is_run s d tx t end e (inr begun) = inr (record {
    after_begin = view begun.after_begin;
    after_script = view begun.after_script;
    ended = begun.ended;
    begun = begun.begun;
    plays = plays s tx begun.after_begin t begun.ended begun.after_script begun.plays;
    closes = closes tx begun.ended begun.after_script end e begun.closes;
  })

  is_served : (s : ScriptForm) (d : D) (tx : ℕ) (t : Transcript) (end : End) (e : D) → IsServedAt moves_by s d tx t end e → IsServedAt moves s (view d) tx t end (view e)
  is_served s d tx t end e (inl none) = inl (record { no_number = none.no_number; nothing = none.nothing; refused = none.refused; unasked = ap view none.unasked })
  is_served s d tx t end e (inr run) = inr (is_run s d tx t end e run)

  -- **Runs at the desk are runs at its view.**
  pub are_runs : (ss : List ScriptForm) (d : D) (os : List Outcome) (e : D) → AreRunsAt moves_by ss d os e → AreRunsAt moves ss (view d) os (view e)
  are_runs [] d [] e same = ap view same
  are_runs [] d (o ∷ os) e none = absurd none
  are_runs (s ∷ ss) d [] e none = absurd none
  are_runs (s ∷ ss) d (o ∷ os) e (m, served, more) = (view m, is_served s d o.tx o.done o.end m served, are_runs ss m os e more)
