-- How desks wait, and what wakes them.
use Rattle.std.specs.Prelude.{ℕ, ◌≡◌, ◌+◌, ◌<◌, ◌≤◌, ◌⊎◌, nat_lt, length, if◌then◌else◌, Bool, true, false, List, [], ◌++◌, ◌||◌, is_some, Option, None, Some}
use Rattle.std.specs.List.{list_all}
use Rattle.mlt_event.specs.declared.{answer.Answer.Answer, event.Event.Event, told.Told.Told}
use Rattle.mlt_work_waits.specs.Waits.{Waits, CanJoin, CantJoin, Deadlocks, IsYoungest, joined, nobody_waits, released, wakers_in}
use Rattle.mlt_work_waits.specs.{declared.wait.Awaited.Awaited, declared.wait.Waker.Waker, declared.wait.Waiting.Waiting, declared.wait.Whose.Whose, declared.blocked_queue.Blocked.Blocked, Queues.stands, Queues.with_blocked, Queues.without, declared.turn.GivenBack.GivenBack, declared.turn.SleepingThread.SleepingThread, declared.turn.Turn.Turn}

-- told this, it is done
abbrev pub is_done : Told → Bool
is_done (Told.Answered (Answer.Done reply)) = true
is_done other = false

-- told this, its operation goes on
abbrev pub goes_on : Told → Bool
goes_on Told.Called = true
goes_on (Told.Answered Answer.Going) = true
goes_on other = false

-- whose locks a step of x has given back, by its answer
abbrev pub given_back_by_step : ℕ → Answer → GivenBack
given_back_by_step x Answer.Aborted = GivenBack.All x
given_back_by_step x (Answer.Done reply) = GivenBack.Operation x
given_back_by_step x (Answer.Refused reason) = GivenBack.Operation x
given_back_by_step x (Answer.Blocked by) = GivenBack.Pages x
given_back_by_step x Answer.Undone = GivenBack.Pages x
given_back_by_step x other = GivenBack.Nothing

-- whose locks an event has given back, by what it was told
abbrev pub given_back_by : Event → Told → GivenBack
given_back_by (Event.Commit x) (Told.Committed number) = GivenBack.All x
given_back_by (Event.Abort x) (Told.Aborting true) = GivenBack.All x
given_back_by (Event.Step x) (Told.Answered answer) = given_back_by_step x answer
given_back_by (Event.Cancel x) Told.Cancelled = GivenBack.Operation x
given_back_by other another = GivenBack.Nothing

-- the wait of a sleeping thread for a lock of y
abbrev pub wait_for : SleepingThread → ℕ → Waiting
wait_for thread y = record {
  waiter = thread.tx;
  holder = y;
  waker = thread.waker;
  timestamp = Some thread.timestamp;
}

-- its wait for its turn behind y
abbrev pub turn_behind : SleepingThread → ℕ → Waiting
turn_behind thread y = record (wait_for thread y) { timestamp = None }

-- the wait of a sleeping thread that was told this, if it is to wait
abbrev pub wait_of : Told → SleepingThread → Option (Awaited × Waiting)
wait_of (Told.Answered (Answer.Waiting page by)) thread = Some (Awaited.Pages, wait_for thread by)
wait_of (Told.Answered (Answer.Blocked by)) thread = Some (Awaited.Objects, wait_for thread by)
wait_of other thread = None

-- and if it may sleep
abbrev pub wait_if : Bool → Told → SleepingThread → Option (Awaited × Waiting)
wait_if true told thread = wait_of told thread
wait_if false told thread = None

-- who still waits once locks were given back: those who wait for others
abbrev pub waits_after : GivenBack → Waits → Waits
waits_after (GivenBack.All x) waits =
    released Awaited.Pages (Whose.One x) (released Awaited.Objects (Whose.One x) waits)
waits_after (GivenBack.Operation x) waits =
    released Awaited.Pages (Whose.One x) (released Awaited.Objects (Whose.Turn x) waits)
waits_after (GivenBack.Pages x) waits = released Awaited.Pages (Whose.One x) waits
waits_after GivenBack.Nothing waits = waits

-- who is woken then: all who waited for what was given back
abbrev pub woken_by : GivenBack → Waits → List Waker
woken_by (GivenBack.All x) waits =
    wakers_in (Whose.One x) waits.objects ++ wakers_in (Whose.One x) waits.pages
woken_by (GivenBack.Operation x) waits =
    wakers_in (Whose.Turn x) waits.objects ++ wakers_in (Whose.One x) waits.pages
woken_by (GivenBack.Pages x) waits = wakers_in (Whose.One x) waits.pages
woken_by GivenBack.Nothing waits = []

-- who still waits once x waits no longer
abbrev pub waits_without : ℕ → Waits → Waits
waits_without x waits =
    released Awaited.Pages (Whose.Of x) (released Awaited.Objects (Whose.Of x) waits)

-- and who is woken then
abbrev pub woken_of : ℕ → Waits → List Waker
woken_of x waits = wakers_in (Whose.Of x) waits.objects ++ wakers_in (Whose.Of x) waits.pages

-- how many desks wait
abbrev pub waiting : Waits → ℕ
waiting waits = length waits.objects + length waits.pages

-- who waits once one of so many desks has left: nobody, if all others wait
abbrev pub waits_of_others : ℕ → Waits → Waits
waits_of_others count waits = if nat_lt (waiting waits + 1) count then waits else nobody_waits

-- and who is woken then
abbrev pub woken_by_end : ℕ → Waits → List Waker
woken_by_end count waits =
    if nat_lt (waiting waits + 1) count then [] else wakers_in Whose.All waits.objects ++ wakers_in Whose.All waits.pages

-- another of so many desks is awake, and the wait can join
abbrev pub CanSleep : ℕ → Awaited → Waiting → Waits → Type 0
CanSleep count kind wait waits = (waiting waits + 1 < count) × CanJoin kind wait waits

-- all others wait, or the wait can't join
abbrev pub CantSleep : ℕ → Awaited → Waiting → Waits → Type 0
CantSleep count kind wait waits = (count ≤ waiting waits + 1) ⊎ CantJoin kind wait waits

-- The wait would close a cycle, of which this one, of another transaction, is the youngest.
pub record GivesWay (wait : Waiting) (before : Waits) (one : Waiting) : Type 0 where
  pub youngest : IsYoungest wait before one
  pub is_other : one.waiter ≡ wait.waiter → ⊥

-- who waits once the youngest, if one is to, has given way
abbrev pub cleared : Option Waiting → Waits → Waits
cleared None waits = waits
cleared (Some one) waits = released Awaited.Objects (Whose.Of one.waiter) waits

abbrev pub woken_first : Option Waiting → Waits → List Waker
woken_first None waits = []
woken_first (Some one) waits = wakers_in (Whose.Of one.waiter) waits.objects

-- no cycle would be closed, or this one gives way
abbrev pub IsCleared : Waiting → Waits → Option Waiting → Type 0
IsCleared wait before None = Deadlocks wait before → ⊥
IsCleared wait before (Some one) = GivesWay wait before one

-- what becomes of the desk once the cycle is gone: it sleeps if it can, and else tries at once
abbrev pub SleepsIfItCan : ℕ → Waiting → Waits → Turn → Waits → Type 0
SleepsIfItCan count wait before Turn.Sleeps after =
    CanSleep count Awaited.Objects wait before × (after ≡ joined Awaited.Objects wait before)
SleepsIfItCan count wait before Turn.Goes after =
    CantSleep count Awaited.Objects wait before × (after ≡ before)
SleepsIfItCan count wait before Turn.Deadlock after = ⊥

-- Who waits, and who is woken, after one that was to wait for an object has taken its turn, of so many desks. It gives up if its
-- transaction is the youngest of a cycle; else the youngest gives way, if a cycle would be closed.
abbrev pub ObjectTurns : ℕ → Waiting → Waits → Turn → Waits → List Waker → Type 0
ObjectTurns count wait before Turn.Deadlock after woken =
    ((one : Waiting) × IsYoungest wait before one × (one.waiter ≡ wait.waiter))
    × (after ≡ before) × (woken ≡ [])
ObjectTurns count wait before taken after woken =
    (one : Option Waiting) × IsCleared wait before one × (woken ≡ woken_first one before)
    × SleepsIfItCan count wait (cleared one before) taken after

-- The same for a page. It sleeps if it can; else it tries at once, and so do all others that want one.
abbrev pub PageTurns : ℕ → Waiting → Waits → Turn → Waits → List Waker → Type 0
PageTurns count wait before Turn.Sleeps after woken =
    CanSleep count Awaited.Pages wait before × (after ≡ joined Awaited.Pages wait before)
    × (woken ≡ [])
PageTurns count wait before Turn.Goes after woken =
    CantSleep count Awaited.Pages wait before × (after ≡ released Awaited.Pages Whose.All before)
    × (woken ≡ wakers_in Whose.All before.pages)
PageTurns count wait before Turn.Deadlock after woken = ⊥

-- its turn, where it may be that it is not to wait, or may not sleep
abbrev pub TurnsIfWaits
    : ℕ → Option (Awaited × Waiting) → Waits → Turn → Waits → List Waker → Type 0
TurnsIfWaits count None before taken after woken =
    (taken ≡ Turn.Goes) × (after ≡ before) × (woken ≡ [])
TurnsIfWaits count (Some (Awaited.Objects, wait)) before taken after woken =
    ObjectTurns count wait before taken after woken
TurnsIfWaits count (Some (Awaited.Pages, wait)) before taken after woken =
    PageTurns count wait before taken after woken

-- it waits for a lock, or for its turn behind one that stands in the queue
abbrev pub waits_in_turn : List Blocked → Waiting → Bool
waits_in_turn queue wait = is_some wait.timestamp || stands wait.holder queue

-- and so does each of these
abbrev pub AreInTurn : List Waiting → List Blocked → Type 0
AreInTurn waits queue = list_all (waits_in_turn queue) waits ≡ true

-- who is blocked once locks were given back: no longer one whose operation has ended
abbrev pub queue_after : GivenBack → List Blocked → List Blocked
queue_after (GivenBack.All x) queue = without x queue
queue_after (GivenBack.Operation x) queue = without x queue
queue_after other queue = queue

-- who is blocked once a sleeping thread was told this
abbrev pub queue_with : Told → SleepingThread → List Blocked → List Blocked
queue_with (Told.Answered (Answer.Blocked by)) thread queue =
    with_blocked thread.tx thread.op queue
queue_with other thread queue = queue

-- and if it may sleep
abbrev pub queue_if : Bool → Told → SleepingThread → List Blocked → List Blocked
queue_if true told thread queue = queue_with told thread queue
queue_if false told thread queue = queue
