-- What an event leaves by which an operation goes on.
use Rattle.std.proofs.Common.{◌≡◌, ◌∙◌, ◌++◌, ℕ, Bool, true, false, List, [], None, ap, refl, subst}
use Rattle.mlt_work_desk.proofs.Names.{false≢true, is_done, Answer, Event, Told, Waits, SleepingThread}
use Rattle.mlt_work_waits.specs.Turns.{TurnsIfWaits, given_back_by, goes_on, wait_if, waits_after, woken_by}
use Rattle.mlt_work_waits.specs.declared.{turn.Turn.Turn, wait.Waker.Waker}

pub not_done : (t : Told) → goes_on t ≡ true → is_done t ≡ false
not_done (Told.Answered (Answer.Done reply)) is = absurd (false≢true is)
not_done other is = refl

nothing_given : (e : Event) (t : Told) (waits : Waits) → goes_on t ≡ true → woken_by (given_back_by e t) waits ≡ []
nothing_given (Event.Commit x) (Told.Committed number) waits is = absurd (false≢true is)
nothing_given (Event.Abort x) (Told.Aborting true) waits is = absurd (false≢true is)
nothing_given (Event.Step x) (Told.Answered Answer.Going) waits is = refl
nothing_given (Event.Step x) (Told.Answered other) waits is = absurd (false≢true is)
nothing_given (Event.Cancel x) Told.Cancelled waits is = absurd (false≢true is)
nothing_given e t waits is = refl

no_wait : (may : Bool) (t : Told) (s : SleepingThread) → goes_on t ≡ true → wait_if may t s ≡ None
no_wait false t s is = refl
no_wait true (Told.Answered (Answer.Waiting page by)) s is = absurd (false≢true is)
no_wait true (Told.Answered (Answer.Blocked by)) s is = absurd (false≢true is)
no_wait true t s is = refl

-- no desk is woken by it
pub wakes_none : (may : Bool) (e : Event) (t : Told) (s : SleepingThread) (count : ℕ) (waits after : Waits) (turn : Turn) (woken : List Waker) → goes_on t ≡ true
    → TurnsIfWaits count (wait_if may t s) (waits_after (given_back_by e t) waits) turn after woken → woken_by (given_back_by e t) waits ++ woken ≡ []
wakes_none may e t s count waits after turn woken is turns =
    let none = subst (λ w. TurnsIfWaits count w (waits_after (given_back_by e t) waits) turn after woken) (no_wait may t s is) turns in
    ap (λ l. l ++ woken) (nothing_given e t waits is) ∙ none.2
