-- What all session threads have served.
use Rattle.std.specs.Prelude.{◌≡◌, List, All, false, flat_map}
use Rattle.mlt_script_serial.specs.declared.outcome.Outcome.{Outcome}
use Rattle.mlt_types.specs.declared.pseudo.Pseudo as pseudo
use Rattle.mlt_work_desk.specs.declared.made_with.MadeWith as making
use Rattle.mlt_serve_session.specs.declared.receipts.Receipts as receipts
use Rattle.mlt_serve.specs.declared.session_thread.SessionThread.{SessionThread}

module _ {P L K : Type 0} {by : pseudo.Ghosts P} {made : making.Ghosts L P} {of : receipts.Ghosts K} where
  -- the outcomes that its receipts have taken
  abbrev pub outcomes_of : SessionThread P L K by made of → List Outcome
  outcomes_of thread = of.receipts thread.outcomes

  -- the outcomes of all threads, one thread after the other
  abbrev pub all_outcomes : List (SessionThread P L K by made of) → List Outcome
  all_outcomes threads = flat_map outcomes_of threads

  -- none of their sessions was refused a growth
  abbrev pub AllHaveMemory : List (SessionThread P L K by made of) → Type 0
  AllHaveMemory threads = All (λ thread. thread.is_short ≡ false) threads
