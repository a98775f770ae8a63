-- Among whole events nobody waits
use Rattle.std.proofs.Common.{◌≡◌, ℕ, List, [], ◌∷◌, None, Some, Ok, Err, sym, ap, subst, ◌∙◌, nat_cmp}
use Rattle.std.specs.FinMap as map
use Rattle.mlt_manager.proofs.Names.{Limits, Answer, Event, Told, Transaction, Table, IsByAnother, IsRunning, counted, StepsUpTo, IsRun, Meets, ManagerFields, IsNew, AnswersWholeUndo, GoesOnBack, StopsBack}
use Rattle.mlt_manager.specs.Events.{AreWholeEvents, IsNoWait, IsWholeEvent, NoneWaits}
use Rattle.mlt_manager.proofs.EachOpen.{Each, EachOther, LooksAt, abort_each, begin_each, commit_each, each_without, others_of, others_with, same_each, step_each, steps_each, table_is, whole_each}

-- no operation and no inverse of it runs
abbrev Still : ℕ → Transaction → Type 0
Still u t = IsRunning t.at → ⊥

looks : LooksAt Still
looks = record {
  by_at = λ u t t' same still runs. still (subst IsRunning same runs);
  idle = λ u t is runs. subst IsRunning is runs;
  turned = λ u t is runs. subst IsRunning is runs;
}

abbrev Quiet : {P : Type 0} → ManagerFields P → Type 0
Quiet m = Each Still m.txs

-- whom one waits for runs, so that nobody waits where nobody else runs
no_wait : (one : Answer) (txs : Table) (tx : ℕ) → EachOther Still tx txs → IsByAnother one txs tx → IsNoWait (Told.Answered one)
no_wait (Answer.Waiting page by) txs tx quiet (ne, runs) = quiet by runs.one ne runs.there runs.is_at
no_wait Answer.Going txs tx quiet none = tt
no_wait (Answer.Blocked by) txs tx quiet named = tt
no_wait (Answer.Done reply) txs tx quiet none = tt
no_wait Answer.Undone txs tx quiet none = tt
no_wait Answer.Aborted txs tx quiet none = tt
no_wait (Answer.Refused reason) txs tx quiet none = tt

module _ {P : Type 0} where
  module _ (bits_of : P → ℕ → ℕ) (tx : ℕ) where
    -- an abort ends with nothing left, where nobody else runs
    undone_still : (m m' : ManagerFields P) (told : Answer) → StepsUpTo bits_of GoesOnBack StopsBack m m' tx told → IsByAnother told m'.txs tx → Quiet m → Quiet m'
    undone_still m m' (Answer.Waiting page by) s named quiet =
        absurd (no_wait (Answer.Waiting page by) m'.txs tx (step_each Still looks bits_of tx s.before m' (Answer.Waiting page by) s.ends (steps_each Still looks bits_of tx GoesOnBack m s.before s.steps s.goes (others_of Still m.txs tx quiet))) named)
    undone_still m m' Answer.Aborted s named quiet =
        let others = steps_each Still looks bits_of tx GoesOnBack m s.before s.steps s.goes (others_of Still m.txs tx quiet) in
        table_is Still looks m' (map.remove s.ends.txs tx) (ap (λ (n : ManagerFields P). n.txs) s.ends.rest)
        (each_without Still s.ends.txs tx (subst (EachOther Still tx) (sym s.ends.steps.changes.is) (others_with Still s.before.txs tx s.ends.steps.changes.after others)))
    undone_still m m' other s named quiet = absurd s.stops

    whole_undo_quiet : (m m' : ManagerFields P) (told : Answer) → AnswersWholeUndo bits_of m m' tx (Ok told) → IsByAnother told m'.txs tx → Quiet m → Quiet m'
    whole_undo_quiet m m' told a named quiet = undone_still m m' told a.1 named quiet

  -- **A whole event leaves nobody running, and nobody waits.**
  event_quiet : (bits_of : P → ℕ → ℕ) (e : Event) (t : Told) (m m' : ManagerFields P) → IsWholeEvent e → Meets bits_of e t m m' → Quiet m → IsNoWait t × Quiet m'
  event_quiet bits_of Event.Begin (Told.Begun tx) m m' whole a quiet = (tt, begin_each Still looks m m' (Ok tx) a quiet)
  event_quiet bits_of Event.Begin (Told.Refused reason) m m' whole a quiet = (tt, begin_each Still looks m m' (Err reason) a quiet)
  event_quiet bits_of (Event.Commit tx) (Told.Committed number) m m' whole a quiet = (tt, commit_each Still looks m m' tx (Ok number) a quiet)
  event_quiet bits_of (Event.Commit tx) (Told.Refused reason) m m' whole a quiet = (tt, commit_each Still looks m m' tx (Err reason) a quiet)
  event_quiet bits_of (Event.Abort tx) (Told.Aborting closed) m m' whole a quiet = (tt, abort_each Still looks m m' tx (Ok closed) a quiet)
  event_quiet bits_of (Event.Abort tx) (Told.Refused reason) m m' whole a quiet = (tt, abort_each Still looks m m' tx (Err reason) a quiet)
  event_quiet bits_of (Event.Whole tx op) (Told.Answered answer) m m' whole (a, leaves, named) quiet =
      let still = whole_each Still looks bits_of tx op m m' (Ok answer) a quiet in
      (no_wait answer m'.txs tx (others_of Still m'.txs tx still) named, still)
  event_quiet bits_of (Event.Whole tx op) (Told.Refused reason) m m' whole a quiet = (tt, whole_each Still looks bits_of tx op m m' (Err reason) a quiet)
  event_quiet bits_of (Event.WholeUndo tx) (Told.Answered answer) m m' whole (a, leaves, named) quiet =
      let still = whole_undo_quiet bits_of tx m m' answer a named quiet in
      (no_wait answer m'.txs tx (others_of Still m'.txs tx still) named, still)
  event_quiet bits_of (Event.WholeUndo tx) (Told.Refused reason) m m' whole a quiet = (tt, same_each Still looks m m' a.1 quiet)
  event_quiet bits_of Event.Begin other m m' whole none quiet = absurd none
  event_quiet bits_of (Event.Commit tx) other m m' whole none quiet = absurd none
  event_quiet bits_of (Event.Abort tx) other m m' whole none quiet = absurd none
  event_quiet bits_of (Event.Whole tx op) other m m' whole none quiet = absurd none
  event_quiet bits_of (Event.WholeUndo tx) other m m' whole none quiet = absurd none
  event_quiet bits_of (Event.Call tx op) t m m' none a quiet = absurd none
  event_quiet bits_of (Event.Step tx) t m m' none a quiet = absurd none
  event_quiet bits_of (Event.Cancel tx) t m m' none a quiet = absurd none

  run_waits : (bits_of : P → ℕ → ℕ) (events : List Event) (tolds : List Told) (m m' : ManagerFields P) → IsRun bits_of m events tolds m' → AreWholeEvents events → Quiet m → NoneWaits tolds
  run_waits bits_of [] [] m m' run whole quiet = tt
  run_waits bits_of (e ∷ es) (t ∷ ts) m m' (next, meets, rest) whole quiet =
      let here = event_quiet bits_of e t (counted m) next whole.0 meets quiet in
      (here.0, run_waits bits_of es ts next m' rest whole.1 here.1)
  run_waits bits_of [] (t ∷ ts) m m' none whole quiet = absurd none
  run_waits bits_of (e ∷ es) [] m m' none whole quiet = absurd none

  -- **After whole events alone, nobody was told to wait.**
  pub none_waits : (bits_of : P → ℕ → ℕ) (limits : Limits) (pseudo : P) (events : List Event) (tolds : List Told) (m m' : ManagerFields P) → IsNew m limits pseudo → IsRun bits_of m events tolds m' → AreWholeEvents events → NoneWaits tolds
  none_waits bits_of limits pseudo events tolds m m' new run whole =
      run_waits bits_of events tolds m m' run whole
      (λ u one there. let is : None ≡ Some one = sym (map.get-empty {X = Transaction} nat_cmp u) ∙ sym (ap (λ (t : Table). map.get t u) new.txs) ∙ there in absurd cc)
