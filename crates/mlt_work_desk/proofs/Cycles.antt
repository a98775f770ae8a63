-- Whose transaction is the youngest of a cycle of waits.
use Rattle.std.proofs.Common.{◌≡◌, ◌∙◌, ℕ, Bool, List, Option, None, Some, false, true, ap, refl, subst, sym}
use Rattle.mlt_work_desk.proofs.Names.{false≢true, Answer, Told, Waits, Awaited, Waiting, SleepingThread}
use Rattle.mlt_work_waits.specs.{declared.wait.Waker.Waker, Turns.TurnsIfWaits, Turns.wait_if, declared.turn.Turn.Turn}
use Rattle.mlt_work_desk.specs.Tries.{IsYoungestOfCycle}

gives_up : Turn → Bool
gives_up Turn.Deadlock = true
gives_up other = false

-- a desk gives up by its turn where it waits for an object, as the youngest
of_wait : (tx count : ℕ) (wait : Option (Awaited × Waiting)) (before after : Waits) (woken : List Waker)
    → ((kind : Awaited) (one : Waiting) → wait ≡ Some (kind, one) → one.waiter ≡ tx)
    → TurnsIfWaits count wait before Turn.Deadlock after woken → IsYoungestOfCycle tx
unfolding gives_up
of_wait tx count None before after woken own turns = absurd (false≢true (sym (ap gives_up turns.0)))
of_wait tx count (Some (Awaited.Objects, wait)) before after woken own turns = record {
  wait = wait;
  waits = before;
  youngest = turns.0.0;
  is_youngest = turns.0.1;
  is_own = own Awaited.Objects wait refl;
  same = turns.0.2;
}
of_wait tx count (Some (Awaited.Pages, wait)) before after woken own turns = absurd turns

waiter_of : ℕ → Option (Awaited × Waiting) → ℕ
waiter_of tx None = tx
waiter_of tx (Some wait) = wait.1.waiter

-- the wait of a sleeping thread is its own
is_its_own : (may : Bool) (t : Told) (s : SleepingThread) → waiter_of s.tx (wait_if may t s) ≡ s.tx
unfolding waiter_of
is_its_own false t s = refl
is_its_own true (Told.Begun x) s = refl
is_its_own true Told.Called s = refl
is_its_own true Told.Cancelled s = refl
is_its_own true (Told.Committed number) s = refl
is_its_own true (Told.Aborting closed) s = refl
is_its_own true (Told.Refused refusal) s = refl
is_its_own true (Told.Answered Answer.Going) s = refl
is_its_own true (Told.Answered (Answer.Waiting page by)) s = refl
is_its_own true (Told.Answered (Answer.Blocked by)) s = refl
is_its_own true (Told.Answered (Answer.Done reply)) s = refl
is_its_own true (Told.Answered (Answer.Refused refusal)) s = refl
is_its_own true (Told.Answered Answer.Undone) s = refl
is_its_own true (Told.Answered Answer.Aborted) s = refl

pub youngest_of_cycle : (may : Bool) (t : Told) (s : SleepingThread) (count : ℕ) (before after : Waits) (taken : Turn) (woken : List Waker)
    → TurnsIfWaits count (wait_if may t s) before taken after woken → taken ≡ Turn.Deadlock → IsYoungestOfCycle s.tx
unfolding waiter_of
youngest_of_cycle may t s count before after taken woken turns gives =
    of_wait s.tx count (wait_if may t s) before after woken
    (λ kind one is. sym (ap (waiter_of s.tx) is) ∙ is_its_own may t s)
    (subst (λ one. TurnsIfWaits count (wait_if may t s) before one after woken) gives turns)
