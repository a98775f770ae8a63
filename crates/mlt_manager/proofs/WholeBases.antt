-- What a whole operation does to the base
use Rattle.mlt_manager.proofs.Names.{cases_eq, Refusal, Base, Step, empty_base, entries_of, ObjOp, ObjReply, Held, IsLowestClash, TraceItem, Running, Do, OperationFields, Answer, LocalState, local, WalkContext, context_by, TellsOfStep, StepAnswer, At, Transaction, IsPending, Table, images_kept, inserted_elsewhere, inserted_here, AnswersCancel, HasCalled, HasStepped, IsOpenAt, HasBase, IsPendingWith, KeepsWhatCounts, LeavesBase, WholeLeavesBase, StepsBy, IsManager, ManagerFields, AnswersWhole, DropsIfItStands, HasRun, LetsGoOn, Stops}
use Rattle.std.proofs.Common.{◌≡◌, ℕ, List, [], ◌∷◌, ◌++◌, Some, Result, Ok, Err, IfOk, OnOk, inl, inr, refl, sym, ap, subst, ◌∙◌}
use Rattle.std.specs.FinMap as map
use Rattle.mlt_order.specs.Histories.{IsHistory}
use Rattle.mlt_manager.{specs.Bases.AddsStep, specs.Bases.IsBlockedBy, proofs.Called.called_keeps, proofs.Called.cancelled_keeps, proofs.Called.one_there, proofs.Chains.found_before, proofs.Chains.steps_keep, proofs.CleanPages.still_clean, proofs.RunningOn.operation_at, proofs.RunningOn.steps_pending, proofs.RunningOn.there_by, proofs.Stepped.step_keeps}

-- one after another
then_keeps : {P : Type 0} (old mid new : ManagerFields P) → KeepsWhatCounts old mid → KeepsWhatCounts mid new → KeepsWhatCounts old new
then_keeps old mid new first second = record {
  clean = λ clean has. second.clean clean (first.clean clean has);
  items = second.items ∙ first.items;
  held = second.held ∙ first.held;
}

same_keeps : {P : Type 0} (old new : ManagerFields P) → new ≡ old → KeepsWhatCounts old new
same_keeps old new same = subst (KeepsWhatCounts old) (sym same) (record { clean = λ clean has. has; items = refl; held = refl })

-- where the history is the same, so is the base
pub base_by : {P : Type 0} (old new : ManagerFields P) → new.shared.history.items ≡ old.shared.history.items → (base : Base) → HasBase old base → HasBase new base
base_by old new same base leads = subst (λ (l : List TraceItem). IsHistory Step empty_base (entries_of l) base) (sym same) leads

-- a call
module _ {P : Type 0} (m m' : ManagerFields P) (tx : ℕ) (op : ObjOp) (c : HasCalled m m' tx op) where
  images_stay : (i : ℕ) → images_kept (map.get m'.txs i) ≡ images_kept (map.get m.txs i)
  images_stay i =
      let ch = c.calls.changes in
      ap (λ (t : Table). images_kept (map.get t i)) ch.is
      ∙ elim (cases_eq i tx) [
        | inl here ↦
            ap (λ (k : ℕ). images_kept (map.get (map.insert m.txs tx ch.after) k)) here ∙ ap images_kept (inserted_here m.txs tx ch.after)
            ∙ ap (λ (r : Running). Some r.images) c.calls.tells.makes.subtx_kept ∙ sym (ap images_kept ch.was) ∙ sym (ap (λ (k : ℕ). images_kept (map.get m.txs k)) here)
        | inr differ ↦ ap images_kept (inserted_elsewhere m.txs tx ch.after i differ)
      ]

  called_counts : KeepsWhatCounts m m'
  called_counts = record {
    clean = λ clean has. still_clean m m' clean images_stay (λ q. λ p. map.get (c.calls.tells.makes.pages p).store.pages q) has;
    items = c.calls.tells.makes.items;
    held = c.calls.tells.makes.held;
  }

  pub called_with : IsOpenAt m'.txs tx (IsPendingWith op)
  called_with = record {
    one = c.calls.changes.after;
    there = ap (λ (t : Table). map.get t tx) c.calls.changes.is ∙ inserted_here m.txs tx c.calls.changes.after;
    is_at = subst (IsPendingWith op) (sym c.calls.tells.pending) refl;
  }

-- steps of a pending operation that goes on
on_counts : {P : Type 0} (told : Answer) (m m' : ManagerFields P) (tx : ℕ) → LetsGoOn told → LeavesBase told m m' tx → KeepsWhatCounts m m'
on_counts Answer.Going m m' tx goes leaves = leaves
on_counts (Answer.Waiting page by) m m' tx none leaves = absurd none
on_counts (Answer.Blocked by) m m' tx none leaves = absurd none
on_counts (Answer.Done reply) m m' tx none leaves = absurd none
on_counts Answer.Undone m m' tx none leaves = absurd none
on_counts Answer.Aborted m m' tx none leaves = absurd none
on_counts (Answer.Refused reason) m m' tx none leaves = absurd none

asked_pending : (op : ObjOp) (a : At) → IsPendingWith op a → IsPending a
asked_pending op At.Idle none = none
asked_pending op (At.Pending o) asked = tt
asked_pending op (At.Undoing inverting) none = none

pub weaker : (txs : Table) (tx : ℕ) (op : ObjOp) → IsOpenAt txs tx (IsPendingWith op) → IsOpenAt txs tx IsPending
weaker txs tx op p = record { one = p.one; there = p.there; is_at = asked_pending op p.one.at p.is_at }

pub same_request : (context : WalkContext) (old new : LocalState) (o next : OperationFields) → TellsOfStep context old new o next StepAnswer.Going → next.request ≡ o.request
same_request context old new o next (inl on) = on.request
same_request context old new o next (inr (inl begins)) = begins.request
same_request context old new o next (inr (inr restarts)) = restarts.request

module _ {P : Type 0} (bits_of : P → ℕ → ℕ) (tx : ℕ) (op : ObjOp) where
  -- the operation stays the same
  asked_on : (m m' : ManagerFields P) (told : Answer) → LetsGoOn told → IsOpenAt m.txs tx (IsPendingWith op) → HasStepped bits_of m m' tx told → IsOpenAt m'.txs tx (IsPendingWith op)
  asked_on m m' Answer.Going goes pending d =
      let there = weaker m.txs tx op pending in
      let o = operation_at bits_of m m' tx Answer.Going there d in
      let s = steps_pending bits_of m m' tx Answer.Going there d in
      let was : o.0.request ≡ Do op = subst (IsPendingWith op) o.1 (found_before bits_of LetsGoOn m m m' tx Answer.Going (IsPendingWith op) pending d) in
      let is : s.next.request ≡ Do op =
      same_request (context_by bits_of m.root m.active d.steps.changes.before.subtx.tx) (local d.steps.changes.before.subtx m.shared.pages) (local d.steps.changes.after.subtx s.between.pages) o.0 s.next s.tells.tells ∙ was in
      record { one = d.steps.changes.after; there = there_by bits_of m m' tx Answer.Going there d Answer.Going refl refl; is_at = subst (IsPendingWith op) (sym s.now_at) is }
  asked_on m m' (Answer.Waiting page by) none pending d = absurd none
  asked_on m m' (Answer.Blocked by) none pending d = absurd none
  asked_on m m' (Answer.Done reply) none pending d = absurd none
  asked_on m m' Answer.Undone none pending d = absurd none
  asked_on m m' Answer.Aborted none pending d = absurd none
  asked_on m m' (Answer.Refused reason) none pending d = absurd none

  pub steps_ask : (old last : ManagerFields P) (steps : List (ManagerFields P × Answer)) → StepsBy bits_of LetsGoOn old steps last tx → IsOpenAt old.txs tx (IsPendingWith op) → IsOpenAt last.txs tx (IsPendingWith op)
  steps_ask old last [] same pending = subst (λ (n : ManagerFields P). IsOpenAt n.txs tx (IsPendingWith op)) (sym same) pending
  steps_ask old last (one ∷ more) (first, on, rest) pending = steps_ask one.0 last more rest (asked_on old one.0 one.1 on pending first)

  steps_count : (old last : ManagerFields P) (steps : List (ManagerFields P × Answer)) → IsManager bits_of old → StepsBy bits_of LetsGoOn old steps last tx → KeepsWhatCounts old last
  steps_count old last [] h same = same_keeps old last same
  steps_count old last (one ∷ more) h (first, on, rest) =
      let step = step_keeps bits_of old h tx one.0 one.1 first in
      then_keeps old one.0 last (on_counts one.1 old one.0 tx on step.1) (steps_count one.0 last more step.0 rest)

-- one number is at one operation
same_asked : (txs : Table) (tx : ℕ) (op other : ObjOp) → IsOpenAt txs tx (IsPendingWith op) → IsOpenAt txs tx (IsPendingWith other) → other ≡ op
same_asked txs tx op other a b = both b.one.at (subst (λ (t : Transaction). IsPendingWith op t.at) (one_there txs tx a.one b.one a.there b.there) a.is_at) b.is_at
  where
    both : (at : At) → IsPendingWith op at → IsPendingWith other at → other ≡ op
    both At.Idle none also = absurd none
    both (At.Pending o) is also = let one : Do other ≡ Do op = sym also ∙ is in cc
    both (At.Undoing inverting) none also = absurd none

module _ {P : Type 0} (bits_of : P → ℕ → ℕ) (m m' : ManagerFields P) (tx : ℕ) (op : ObjOp) (h : IsManager bits_of m) where
  -- what is blocked after steps that change nothing that counts would have been before them
  blocked_still : (before : ManagerFields P) (by : ℕ) (reply : ObjReply) → KeepsWhatCounts m before → IsBlockedBy before tx (op, reply) by → IsBlockedBy m tx (op, reply) by
  blocked_still before by reply keeps b = record {
    steps = λ base leads. b.steps base (base_by m before keeps.items base leads);
    lowest = subst (λ (held : List Held). IsLowestClash held tx (op, reply) by) keeps.held b.lowest;
  }

  -- up to the step that stops nothing that counts has changed; and this is what it leaves
  by_told : (told : Answer) (before stopped : ManagerFields P) → KeepsWhatCounts m before → IsOpenAt before.txs tx (IsPendingWith op) → IsManager bits_of stopped → LeavesBase told before stopped tx → Stops told → DropsIfItStands told stopped m' tx
      → WholeLeavesBase told m m' tx op
  by_told (Answer.Done reply) before stopped keeps asked hs (other, makes) stops same =
      let is = same_asked before.txs tx op other asked makes.pending in
      let adds : AddsStep before m' tx (op, reply) = subst (λ (n : ManagerFields P). AddsStep before n tx (op, reply)) (sym same) (subst (λ (o : ObjOp). AddsStep before stopped tx (o, reply)) is makes.adds) in
      record {
        items = adds.items ∙ ap (λ (l : List TraceItem). l ++ TraceItem.Op tx (op, reply) ∷ []) keeps.items;
        leads = λ base leads. adds.leads base (base_by m before keeps.items base leads);
      }
  by_told (Answer.Blocked by) before stopped keeps asked hs (stays, found) stops drops = (
    then_keeps m stopped m' (then_keeps m before stopped keeps stays) (cancelled_keeps bits_of stopped hs tx m' drops.rest drops.pending drops.cancels).1,
    (found.0.1, blocked_still before by found.0.1 keeps (subst (λ (o : ObjOp). IsBlockedBy before tx (o, found.0.1) by) (same_asked before.txs tx op found.0.0 asked found.1.pending) found.1.blocked)),
  )
  by_told (Answer.Waiting page by) before stopped keeps asked hs stays stops drops =
      then_keeps m stopped m' (then_keeps m before stopped keeps stays) (cancelled_keeps bits_of stopped hs tx m' drops.rest drops.pending drops.cancels).1
  by_told (Answer.Refused reason) before stopped keeps asked hs stays stops same = then_keeps m stopped m' (then_keeps m before stopped keeps stays) (same_keeps stopped m' same)
  by_told Answer.Going before stopped keeps asked hs stays none same = absurd none
  by_told Answer.Undone before stopped keeps asked hs takes none same = absurd none
  by_told Answer.Aborted before stopped keeps asked hs takes none same = absurd none

  -- **What a whole operation does to the base is one step of it, or nothing.**
  run_leads : (told : Answer) → HasRun bits_of m m' tx op told → WholeLeavesBase told m m' tx op
  run_leads told r =
      let up = r.runs.steps in
      let hc = called_keeps bits_of m h tx r.called r.calls.rest op r.calls in
      let hb = steps_keep bits_of LetsGoOn tx r.called up.before up.steps hc up.goes in
      let last = step_keeps bits_of up.before hb tx r.runs.stopped told up.ends in
      by_told told up.before r.runs.stopped (then_keeps m r.called up.before (called_counts m r.called tx op r.calls) (steps_count bits_of tx op r.called up.before up.steps hc up.goes))
      (steps_ask bits_of tx op r.called up.before up.steps up.goes (called_with m r.called tx op r.calls)) last.0 last.1 up.stops r.runs.drops

  pub whole_leads : (r : Result Answer Refusal) → AnswersWhole bits_of m m' tx op r → IfOk r (λ told. WholeLeavesBase told m m' tx op)
  whole_leads (Ok told) a = run_leads told a
  whole_leads (Err reason) a = tt

-- a cancel changes nothing that counts
pub cancel_leads : {P : Type 0} (bits_of : P → ℕ → ℕ) (m m' : ManagerFields P) (tx : ℕ) → IsManager bits_of m → (r : Result (Unit {0}) Refusal) → AnswersCancel m m' tx r → OnOk r (KeepsWhatCounts m m')
cancel_leads bits_of m m' tx h (Ok done) a = (cancelled_keeps bits_of m h tx m' a.2 a.0 a.1).1
cancel_leads bits_of m m' tx h (Err reason) a = tt
