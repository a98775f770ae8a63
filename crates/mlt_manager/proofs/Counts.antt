-- No step changes for how many transactions there are locks, how many pages there may be, or how many have committed
use Rattle.std.proofs.Common.{◌≡◌, ℕ, List, [], ◌∷◌, ◌++◌, length, arith, Option, None, Some, inl, inr, refl, ap, ◌∙◌, length-append}
use Rattle.mlt_manager.proofs.Names.{Running, Undo, LocalState, local, WalkContext, StepAnswer, TellsOfStep, OperationFields, ObjOp, ObjReply, TraceItem, commit_count, Answer, SharedState, At, Transaction, EndsBack, TellsOfBack, TellsOfPending, TellsAt}
use Rattle.mlt_hash_access.specs.{PageSteps.LocksAtMost, PageSteps.TouchesOnePage, PageSteps.WritesAtMost, PageTurns.IsRolledBack, PageTurns.TakesTurn}
use Rattle.mlt_trace.{specs.Numbers.commit_numbers, proofs.ItemLaws.commit_numbers-append}
use Rattle.mlt_tx.specs.{Endings.EndsSubtx, Endings.IsDone, Endings.RollsBackSubtx, Endings.tx_state, Steps.TakesBack, Transactions.LeavesRoom, Transactions.TellsOfCancel}

-- the limits of locks and pages are as they were
pub record KeepsLimits (old new : LocalState) : Type 0 where
  pub locks : new.locks.max_open ≡ old.locks.max_open
  pub pages : new.store.max_pages ≡ old.store.max_pages

pub same_limits : (m m' : LocalState) → m' ≡ m → KeepsLimits m m'
same_limits m m' same = record { locks = λ i. (same i).locks.max_open; pages = λ i. (same i).store.max_pages }

pub both_limits : (a b c : LocalState) → KeepsLimits a b → KeepsLimits b c → KeepsLimits a c
both_limits a b c one two = record { locks = two.locks ∙ one.locks; pages = two.pages ∙ one.pages }

locks_limits : (m m' : LocalState) (q : ℕ) → LocksAtMost m m' q → KeepsLimits m m'
locks_limits m m' q (inl same) = same_limits m m' same
locks_limits m m' q (inr (mode, l)) = record { locks = λ i. (l.locks i).max_open; pages = λ i. (l.store i).max_pages }

writes_limits : (m m' : LocalState) (q : ℕ) → WritesAtMost m m' q → KeepsLimits m m'
writes_limits m m' q (inl same) = same_limits m m' same
writes_limits m m' q (inr (page, w)) = record { locks = λ i. (w.locks i).max_open; pages = λ i. (w.store i).max_pages }

touches_limits : (m m' : LocalState) → TouchesOnePage m m' → KeepsLimits m m'
touches_limits m m' (q, inl (mid, locks, writes)) = both_limits m mid m' (locks_limits m mid q locks) (writes_limits mid m' q writes)
touches_limits m m' (q, inr (page, made)) = record { locks = λ i. (made.locks i).max_open; pages = λ i. (made.store i).max_pages }

turn_limits : (m m' : LocalState) → TakesTurn m m' → KeepsLimits m m'
turn_limits m m' t = touches_limits m m' t.touches

back_limits : (m m' : LocalState) → IsRolledBack m m' → KeepsLimits m m'
back_limits m m' b = record { locks = λ i. (b.locks i).max_open; pages = λ i. (b.store i).max_pages }

step_limits : (context : WalkContext) (m m' : LocalState) (o o' : OperationFields) (told : StepAnswer) → TellsOfStep context m m' o o' told → KeepsLimits m m'
step_limits context m m' o o' StepAnswer.Going (inl goes) = turn_limits m m' goes.turn
step_limits context m m' o o' StepAnswer.Going (inr (inl splits)) = turn_limits m m' splits.turn
step_limits context m m' o o' StepAnswer.Going (inr (inr again)) = both_limits m again.back.mid m' (turn_limits m again.back.mid again.back.turn) (back_limits again.back.mid m' again.back.back)
step_limits context m m' o o' (StepAnswer.Waiting page by) waits = same_limits m m' waits.pages
step_limits context m m' o o' (StepAnswer.Refused reason) r = both_limits m r.back.mid m' (turn_limits m r.back.mid r.back.turn) (back_limits r.back.mid m' r.back.back)

-- for how many transactions there are locks, how many pages there may be, and how many have committed
pub record KeepsCounts (old new : SharedState) : Type 0 where
  pub locks : new.pages.locks.max_open ≡ old.pages.locks.max_open
  pub pages : new.pages.store.max_pages ≡ old.pages.store.max_pages
  pub commits : commit_count new.history.items ≡ commit_count old.history.items

-- items without a commit
pub no_more_commits : (items later : List TraceItem) → commit_numbers later ≡ [] → commit_count (items ++ later) ≡ commit_count items
no_more_commits items later none =
    ap length (commit_numbers-append items later) ∙ length-append (commit_numbers items) (commit_numbers later)
    ∙ (let zero_more : length (commit_numbers later) ≡ 0 = ap length none in omega (arith, zero_more))

pub items_counts : (old new : SharedState) (later : List TraceItem) → new.pages ≡ old.pages → new.history.items ≡ old.history.items ++ later → commit_numbers later ≡ [] → KeepsCounts old new
items_counts old new later same grows none = record {
  locks = λ i. (same i).locks.max_open;
  pages = λ i. (same i).store.max_pages;
  commits = ap commit_count grows ∙ no_more_commits old.history.items later none;
}

pub same_counts : (old new : SharedState) → new.pages ≡ old.pages → new.history.items ≡ old.history.items → KeepsCounts old new
same_counts old new same items = record { locks = λ i. (same i).locks.max_open; pages = λ i. (same i).store.max_pages; commits = ap commit_count items }

both_counts : (a b c : SharedState) → KeepsCounts a b → KeepsCounts b c → KeepsCounts a c
both_counts a b c one two = record { locks = two.locks ∙ one.locks; pages = two.pages ∙ one.pages; commits = two.commits ∙ one.commits }

local_counts : (running running' : Running) (old new : SharedState) → KeepsLimits (local running old.pages) (local running' new.pages) → new.history ≡ old.history → KeepsCounts old new
local_counts running running' old new k same = record { locks = k.locks; pages = k.pages; commits = λ i. commit_count ((same i).items) }

rolls_counts : (before after : Running) (old new : SharedState) → RollsBackSubtx before after old new → new.history ≡ old.history → KeepsCounts old new
rolls_counts before after old new b same = record { locks = λ i. (b.locks i).max_open; pages = λ i. (b.store i).max_pages; commits = λ i. commit_count ((same i).items) }

done_counts : (item : ObjOp × ObjReply) (before after : Running) (undo undo' : Undo) (old new : SharedState) → IsDone item (tx_state before undo old) (tx_state after undo' new) → KeepsCounts old new
done_counts item before after undo undo' old new d = record {
  locks = λ i. (d.ends.locks i).max_open;
  pages = λ i. (d.ends.store i).max_pages;
  commits = ap commit_count d.items ∙ no_more_commits old.history.items (TraceItem.Op before.tx item ∷ []) refl;
}

pending_counts : (context : WalkContext) (o o' : OperationFields) (running running' : Running) (undo undo' : Undo) (old new : SharedState) (told : Answer)
    → TellsOfPending context o o' (tx_state running undo old) (tx_state running' undo' new) told → KeepsCounts old new
pending_counts context o o' running running' undo undo' old new Answer.Going w =
    local_counts running running' old new (step_limits context (local running old.pages) (local running' new.pages) o o' StepAnswer.Going w.tells) w.rest.history
pending_counts context o o' running running' undo undo' old new (Answer.Waiting page by) w =
    local_counts running running' old new (step_limits context (local running old.pages) (local running' new.pages) o o' (StepAnswer.Waiting page by) w.tells) w.rest.history
pending_counts context o o' running running' undo undo' old new (Answer.Refused reason) w =
    local_counts running running' old new (step_limits context (local running old.pages) (local running' new.pages) o o' (StepAnswer.Refused reason) w.tells) w.rest.history
pending_counts context o o' running running' undo undo' old new (Answer.Blocked by) (e, anew) = rolls_counts running running' old new e.tells.back e.tells.history
pending_counts context o o' running running' undo undo' old new (Answer.Done reply) e = done_counts (e.op, e.reply) running running' undo undo' old new e.tells.1
pending_counts context o o' running running' undo undo' old new Answer.Undone none = absurd none
pending_counts context o o' running running' undo undo' old new Answer.Aborted none = absurd none

leaves_counts : (told : Answer) (between new : SharedState) → LeavesRoom told between new → KeepsCounts between new
leaves_counts (Answer.Refused reason) between new gives = same_counts between new gives.pages gives.items
leaves_counts other between new same = same_counts between new (λ i. (same i).pages) (λ i. (same i).history.items)

takes_counts : (tx : ℕ) (undo undo' : Undo) (old new : SharedState) (told : Answer) → TakesBack tx undo undo' old new told → KeepsCounts old new
takes_counts tx undo undo' old new Answer.Undone takes = items_counts old new (TraceItem.Back tx ∷ []) takes.off.pages takes.items refl
takes_counts tx undo undo' old new Answer.Aborted takes = items_counts old new (TraceItem.Back tx ∷ TraceItem.Abort tx ∷ []) takes.off.pages takes.items refl
takes_counts tx undo undo' old new other takes = absurd takes

-- with an inverse, by the end of its subtransaction, or without one
between_counts : (inverting : Option OperationFields) (running running' : Running) (old between : SharedState)
    → (inverting ≡ None → (between ≡ old) × (running' ≡ running))
    → ((o : OperationFields) → inverting ≡ Some o → KeepsCounts old between) → KeepsCounts old between
between_counts None running running' old between fast at_end = let same = (fast refl).0 in same_counts old between (λ i. (same i).pages) (λ i. (same i).history.items)
between_counts (Some o) running running' old between fast at_end = at_end o refl

end_counts : (before after : Running) (old new : SharedState) → EndsSubtx before after old new → new.history ≡ old.history → KeepsCounts old new
end_counts before after old new e same = record { locks = λ i. (e.locks i).max_open; pages = λ i. (e.store i).max_pages; commits = λ i. commit_count ((same i).items) }

ends_back_counts : (inverting inverting' : Option OperationFields) (running running' : Running) (undo undo' : Undo) (old new : SharedState) (told : Answer)
    → EndsBack inverting inverting' (tx_state running undo old) (tx_state running' undo' new) told → KeepsCounts old new
ends_back_counts inverting inverting' running running' undo undo' old new told e =
    both_counts old e.between new
    (between_counts inverting running running' old e.between e.fast (λ o is. end_counts running running' old e.between (e.at_end o is).1 (e.at_end o is).3))
    (takes_counts running.tx undo undo' e.between new told e.takes)

back_counts : (context : WalkContext) (inverting inverting' : Option OperationFields) (running running' : Running) (undo undo' : Undo) (old new : SharedState) (told : Answer)
    → TellsOfBack context inverting inverting' (tx_state running undo old) (tx_state running' undo' new) told → KeepsCounts old new
back_counts context inverting inverting' running running' undo undo' old new Answer.Going s =
    local_counts running running' old new (turn_limits (local running old.pages) (local running' new.pages) s.tells.turn) s.rest.history
back_counts context inverting inverting' running running' undo undo' old new (Answer.Waiting page by) s =
    local_counts running running' old new (same_limits (local running old.pages) (local running' new.pages) s.tells.pages) s.rest.history
back_counts context inverting inverting' running running' undo undo' old new Answer.Undone e = ends_back_counts inverting inverting' running running' undo undo' old new Answer.Undone e
back_counts context inverting inverting' running running' undo undo' old new Answer.Aborted e = ends_back_counts inverting inverting' running running' undo undo' old new Answer.Aborted e
back_counts context inverting inverting' running running' undo undo' old new other none = absurd none

-- **No step of a transaction changes them.**
pub step_counts : (a : At) (context : WalkContext) (before after : Transaction) (old new : SharedState) (told : Answer) → TellsAt a context before after old new told → KeepsCounts old new
step_counts At.Idle context before after old new told none = absurd none
step_counts (At.Pending o) context before after old new told s =
    both_counts old s.between new (pending_counts context o s.next before.subtx after.subtx before.undo after.undo old s.between told s.tells) (leaves_counts told s.between new s.leaves)
step_counts (At.Undoing inverting) context before after old new told s =
    back_counts context inverting s.next before.subtx after.subtx before.undo after.undo old new told s.tells

-- **Nor does a cancel.**
pub cancel_counts : (before after : Transaction) (old new : SharedState) → TellsOfCancel before after old new → KeepsCounts old new
cancel_counts before after old new c = both_counts old c.between new (rolls_counts before.subtx after.subtx old c.between c.back c.history) (same_counts c.between new c.room.pages c.room.items)
