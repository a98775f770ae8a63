-- The steps of a transaction in a run are steps of its own
use Rattle.std.proofs.Common.{◌≡◌, ◌≢◌, ◌⊎◌, ℕ, List, [], ◌∷◌, ◌++◌, nat_eq, Some, Ok, Err, refl, sym, ap, subst, ◌∙◌, inl, inr, eq-eqb, ne_eqb, nat_cmp}
use Rattle.std.proofs.lemmas.Bool.{cases_eq, cond-false, cond-true}
use Rattle.std.specs.FinMap as map
use Rattle.std.specs.FinSet as set
use Rattle.mlt_types.specs.declared.limits.Limits.{Limits}
use Rattle.mlt_manager_laws.proofs.Names.{ObjOp, context_by, Answer, Event, Told, At, Transaction, Table, view_in, HasStepped, txs_after, Meets, IsManager, ManagerFields, one_there, promises_kept}
use Rattle.mlt_object_kinds.specs.declared.operation.ObjReply.{ObjReply}
use Rattle.mlt_page.specs.declared.page.Page.{Page}
use Rattle.mlt_hash_access.specs.Views.{View}
use Rattle.mlt_hash.specs.Walks.{WalkContext}
use Rattle.mlt_hash_form.specs.{File.FilePages, File.GivesPseudokeys, File.HasForm, Prefixes.IsExtendibleHashFile, Records.IsRecordMap, Records.live_records, declared.root.Root.Root}
use Rattle.mlt_object_base.specs.declared.request.Request.TheVariants.{Do}
use Rattle.mlt_tx_operation.specs.Operating.{OperationFields, started_for}
use Rattle.mlt_tx.specs.{declared.shared.SharedState.SharedState, Transactions.TellsAt, Transactions.TellsOfTransaction}
use Rattle.mlt_manager_invariant.proofs.Tables.{inserted_here}
use Rattle.mlt_tx_step_counts.{specs.Counts.IsToTakeBack, specs.CountsOfTwo.TakesBackOf, specs.OwnSteps.AreOwnSteps, specs.OwnSteps.OwnStep, specs.OwnSteps.with_answer, proofs.PassesOfTwo.inverse_of_any, proofs.PassesOfTwo.pass_of}
use Rattle.mlt_manager.{specs.Answers.counted, specs.Bases.IsPendingWith, specs.Events.IsRun, specs.Openings.IsNew, proofs.Keeping.counted_keeps}
use Rattle.mlt_manager.proofs.Kept.{abort_kept, begin_kept, call_kept, cancel_kept, commit_kept, new_kept, step_kept, whole_kept, whole_undo_kept}
use Rattle.mlt_manager_laws.specs.Runs.{BeginsFirstPass, HasOwnSteps, IsCutBehind, IsReached, IsStepOrAnothers, OnlySteps, TakesOwnSteps, TakesPassInRun, answers_to, up_to_end, with_told}
use Rattle.mlt_manager_laws.proofs.{Events.event_leaves, Events.same_stays, Seen.StaysAs}

-- **An event that meets its contract keeps what is always true.**
pub meets_keeps : {P : Type 0} (bits_of : P → ℕ → ℕ) (m m' : ManagerFields P) (h : IsManager bits_of m) (e : Event) (t : Told) → Meets bits_of e t m m' → IsManager bits_of m'
meets_keeps bits_of m m' h Event.Begin (Told.Begun tx) a = begin_kept bits_of m m' h (Ok tx) a
meets_keeps bits_of m m' h (Event.Call tx op) Told.Called a = call_kept bits_of m m' h tx op (Ok tt) a
meets_keeps bits_of m m' h (Event.Call tx op) (Told.Refused reason) a = call_kept bits_of m m' h tx op (Err reason) a
meets_keeps bits_of m m' h (Event.Step tx) (Told.Answered answer) a = step_kept bits_of m m' h tx (Ok answer) a.0
meets_keeps bits_of m m' h (Event.Cancel tx) Told.Cancelled a = cancel_kept bits_of m m' h tx (Ok tt) a.0
meets_keeps bits_of m m' h (Event.Commit tx) (Told.Committed number) a = commit_kept bits_of m m' h tx (Ok number) a
meets_keeps bits_of m m' h (Event.Abort tx) (Told.Aborting closed) a = abort_kept bits_of m m' h tx (Ok closed) a
meets_keeps bits_of m m' h (Event.Whole tx op) (Told.Answered answer) a = whole_kept bits_of m m' h tx op (Ok answer) a.0
meets_keeps bits_of m m' h (Event.Whole tx op) (Told.Refused reason) a = whole_kept bits_of m m' h tx op (Err reason) a
meets_keeps bits_of m m' h (Event.WholeUndo tx) (Told.Answered answer) a = whole_undo_kept bits_of m m' h tx (Ok answer) a.0
meets_keeps bits_of m m' h e (Told.Refused reason) a = subst (IsManager bits_of) (sym a.1) h
meets_keeps bits_of m m' h e t none = absurd none

run_keeps : {P : Type 0} (bits_of : P → ℕ → ℕ) (events : List Event) (tolds : List Told) (m m' : ManagerFields P) → IsManager bits_of m → IsRun bits_of m events tolds m' → IsManager bits_of m'
run_keeps bits_of [] [] m m' h same = subst (IsManager bits_of) (sym same) h
run_keeps bits_of (e ∷ es) (t ∷ ts) m m' h (next, meets, rest) = run_keeps bits_of es ts next m' (meets_keeps bits_of (counted m) next (counted_keeps bits_of m h) e t meets) rest
run_keeps bits_of es ts m m' h none = absurd none

-- **So it is true of a manager to which events lead.**
pub reached : {P : Type 0} (bits_of : P → ℕ → ℕ) (m : ManagerFields P) → ((pseudo : P) → GivesPseudokeys (bits_of pseudo)) → IsReached bits_of m → IsManager bits_of m
reached bits_of m keys r = run_keeps bits_of r.events r.tolds r.opening m (new_kept bits_of r.opening r.limits r.pseudo (keys r.opening.root.pseudo) r.is_new) r.run

-- **And a run can be cut behind any of its events.**
module _ {P : Type 0} (bits_of : P → ℕ → ℕ) (has_file : (bits : ℕ → ℕ) (active : set.FinSet nat_cmp) (pages : FilePages) (root : ℕ) → GivesPseudokeys bits → HasForm bits pages root → IsExtendibleHashFile bits active pages root)
    (has_records : (bits : ℕ → ℕ) (pages : map.FinMap nat_cmp Page) (root : ℕ) → GivesPseudokeys bits → HasForm bits (map.get pages) root → IsRecordMap (live_records pages) (map.get pages)) where
  cut : (before later : List Event) (tolds : List Told) (m m' : ManagerFields P) → IsManager bits_of m → IsRun bits_of m (before ++ later) tolds m' → IsCutBehind bits_of m m' before later tolds
  cut [] later tolds m m' h run = record { told_before = []; told_later = tolds; told = refl; between = m; leads = refl; goes_on = run; promises = promises_kept bits_of m h has_file has_records }
  cut (e ∷ es) later [] m m' h none = absurd none
  cut (e ∷ es) later (t ∷ ts) m m' h (next, meets, rest) =
      let c = cut es later ts next m' (meets_keeps bits_of (counted m) next (counted_keeps bits_of m h) e t meets) rest in
      record {
        told_before = t ∷ c.told_before;
        told_later = c.told_later;
        told = ap (λ (l : List Told). t ∷ l) c.told;
        between = c.between;
        leads = (next, meets, c.leads);
        goes_on = c.goes_on;
        promises = c.promises;
      }

  pub cut_run : ((pseudo : P) → GivesPseudokeys (bits_of pseudo)) → (opening new : ManagerFields P) (limits : Limits) (pseudo : P) (before later : List Event) (tolds : List Told)
      → IsNew opening limits pseudo → IsRun bits_of opening (before ++ later) tolds new → IsCutBehind bits_of opening new before later tolds
  cut_run keys opening new limits pseudo before later tolds is_new run = cut before later tolds opening new (new_kept bits_of opening limits pseudo (keys opening.root.pseudo) is_new) run

-- an answer is the last of an abort, or is told before what is told later
is_last : (a : Answer) → (a ≡ Answer.Aborted) ⊎ (((txs : Table) (tx : ℕ) → txs_after a tx txs ≡ txs) × ((more : List Answer) → up_to_end a more ≡ with_answer a more))
is_last Answer.Aborted = inl refl
is_last other = inr (λ txs tx. refl, λ more. refl)

module _ {P : Type 0} (bits_of : P → ℕ → ℕ) (root : Root P) (active : set.FinSet nat_cmp) (tx : ℕ) where
  not_told : (t0 : Told) (more : List Answer) (i : ℕ) → tx ≢ i → with_told tx (Event.Step i) t0 more ≡ more
  not_told (Told.Answered answer) more i differ = cond-false (nat_eq tx i) (up_to_end answer more) more (ne_eqb tx i differ)
  not_told other more i differ = refl

  -- what is so of the events behind this one makes it so of this one too
  module _ (m next : ManagerFields P) (h : IsManager bits_of m) (t : Transaction) (there : map.get m.txs tx ≡ Some t) (same_root : m.root ≡ root) (es : List Event) (tolds : List Told)
      (again : (t' : Transaction) → map.get next.txs tx ≡ Some t' → next.root ≡ root → HasOwnSteps (context_by bits_of root active tx) t' (view_in t' next.shared) tx es tolds) where
    left_aside : (e : Event) (told : Told) → StaysAs (counted m) next tx t → with_told tx e told (answers_to tx es tolds) ≡ answers_to tx es tolds
        → HasOwnSteps (context_by bits_of root active tx) t (view_in t m.shared) tx (e ∷ es) (told ∷ tolds)
    left_aside e told stays nothing =
        let rest = again t stays.there (stays.root ∙ same_root) in
        record {
          steps = rest.steps;
          own = subst (λ (v : View). AreOwnSteps (context_by bits_of root active tx) t v rest.steps) stays.sees rest.own;
          answers = rest.answers ∙ sym nothing;
        }

    -- a step of its own
    module _ (answer : Answer) (d : HasStepped bits_of (counted m) next tx answer) where
      tells : TellsOfTransaction (context_by bits_of root m.active tx) t d.steps.changes.after m.shared next.shared answer
      tells =
          let c = d.steps.changes in
          let same : c.before ≡ t = one_there m.txs tx c.before t c.was there in
          let number = (h.sound.fits tx t there).number in
          subst (λ (r : Root P). TellsOfTransaction (context_by bits_of r m.active tx) t c.after m.shared next.shared answer) same_root
          (subst (λ (n : ℕ). TellsOfTransaction (context_by bits_of m.root m.active n) t c.after m.shared next.shared answer) number
          (subst (λ (x : Transaction). TellsOfTransaction (context_by bits_of m.root m.active x.subtx.tx) x c.after m.shared next.shared answer) same d.steps.tells))

      own_step : HasOwnSteps (context_by bits_of root active tx) t (view_in t m.shared) tx (Event.Step tx ∷ es) (Told.Answered answer ∷ tolds)
      own_step =
          let here = cond-true (nat_eq tx tx) (up_to_end answer (answers_to tx es tolds)) (answers_to tx es tolds) (eq-eqb tx tx refl) in
          let one : OwnStep = record { active = m.active; old = m.shared; new = next.shared; after = d.steps.changes.after; told = answer } in
          elim (is_last answer) [
            | inl last ↦ record {
              steps = one ∷ [];
              own = (refl, tells, tt);
              answers = ap (λ (a : Answer). with_answer a []) last ∙ sym (here ∙ ap (λ (a : Answer). up_to_end a (answers_to tx es tolds)) last);
            }
            | inr (stays, first) ↦
                let after_there : map.get next.txs tx ≡ Some d.steps.changes.after =
                ap (λ (n : ManagerFields P). map.get n.txs tx) d.rest ∙ ap (λ (x : Table). map.get x tx) (stays d.txs tx ∙ d.steps.changes.is) ∙ inserted_here m.txs tx d.steps.changes.after in
                let rest = again d.steps.changes.after after_there (ap (λ (n : ManagerFields P). n.root) d.rest ∙ same_root) in
                record {
                  steps = one ∷ rest.steps;
                  own = (refl, tells, rest.own);
                  answers = ap (with_answer answer) rest.answers ∙ sym (here ∙ first (answers_to tx es tolds));
                }
          ]

    by_told : (told : Told) → Meets bits_of (Event.Step tx) told (counted m) next → HasOwnSteps (context_by bits_of root active tx) t (view_in t m.shared) tx (Event.Step tx ∷ es) (told ∷ tolds)
    by_told (Told.Answered answer) a = own_step answer a.0
    by_told (Told.Refused reason) a = left_aside (Event.Step tx) (Told.Refused reason) (same_stays (counted m) next tx t a.1 there) refl
    by_told other none = absurd none

    one_event : (e : Event) (told : Told) → IsStepOrAnothers tx e → Meets bits_of e told (counted m) next
        → HasOwnSteps (context_by bits_of root active tx) t (view_in t m.shared) tx (e ∷ es) (told ∷ tolds)
    one_event (Event.Step i) told ne a = elim (cases_eq tx i) [
      | inl own ↦
          subst (λ (k : ℕ). HasOwnSteps (context_by bits_of root active tx) t (view_in t m.shared) tx (Event.Step k ∷ es) (told ∷ tolds)) own
          (by_told told (subst (λ (k : ℕ). Meets bits_of (Event.Step k) told (counted m) next) (sym own) a))
      | inr differ ↦
          let stays = event_leaves bits_of tx t (counted m) next (counted_keeps bits_of m h) there (Event.Step i) told ne (λ j is e. differ (cc (is, e))) a in
          left_aside (Event.Step i) told stays (not_told told (answers_to tx es tolds) i differ)
    ]
    one_event other told ne a =
        left_aside other told (event_leaves bits_of tx t (counted m) next (counted_keeps bits_of m h) there other told ne (λ i is. absurd (cc is)) a) refl

  -- **The steps of a transaction in a run are steps of its own.**
  run_steps : (events : List Event) (tolds : List Told) (m m' : ManagerFields P) (t : Transaction) → IsManager bits_of m → map.get m.txs tx ≡ Some t → m.root ≡ root → OnlySteps tx events → IsRun bits_of m events tolds m'
      → HasOwnSteps (context_by bits_of root active tx) t (view_in t m.shared) tx events tolds
  run_steps [] [] m m' t h there same only run = record { steps = []; own = tt; answers = refl }
  run_steps (e ∷ es) (told ∷ tolds) m m' t h there same only (next, meets, rest) =
      one_event m next h t there same es tolds
      (λ t' there' same'. run_steps es tolds next m' t' (meets_keeps bits_of (counted m) next (counted_keeps bits_of m h) e told meets) there' same' only.1 rest)
      e told only.0 meets
  run_steps es tolds m m' t h there same only none = absurd none

-- what is pending behind a step that was told Blocked has taken no step
blocked_anew : (context : WalkContext) (a : At) (before after : Transaction) (old new : SharedState) (by : ℕ) (op : ObjOp) → TellsAt a context before after old new (Answer.Blocked by) → IsPendingWith op after.at → after.at ≡ At.Pending (started_for (Do op))
blocked_anew context At.Idle before after old new by op none pending = absurd none
blocked_anew context (At.Pending o) before after old new by op s pending =
    let again : s.next ≡ started_for o.request = s.tells.1 in
    let asked : s.next.request ≡ Do op = subst (IsPendingWith op) s.now_at pending in
    let same : o.request ≡ Do op = sym (ap (λ (n : OperationFields). n.request) again) ∙ asked in
    s.now_at ∙ ap At.Pending (again ∙ ap started_for same)
blocked_anew context (At.Undoing inverting) before after old new by op s pending = absurd s.tells

-- **From the begin of a first pass on.**
pub from_first : {P : Type 0} (bits_of : P → ℕ → ℕ) (tx : ℕ) (op : ObjOp) (events : List Event) (tolds : List Told) (m first new : ManagerFields P) → IsManager bits_of m
    → BeginsFirstPass bits_of m first tx op → OnlySteps tx events → IsRun bits_of first events tolds new → TakesPassInRun bits_of first tx op events tolds
from_first {P = P} bits_of tx op events tolds m first new h begins only run = elim begins [
  | inl call ↦
      let c = call.calls.changes in
      pass_from c.after (inserted c.after c.is) (keeps (Event.Call tx op) Told.Called call) call.calls.tells.pending
  | inr (by, pending, step) ↦
      let c = step.0.steps.changes in
      let there : map.get first.txs tx ≡ Some c.after = inserted c.after (ap (λ (n : ManagerFields P). n.txs) step.0.rest ∙ c.is) in
      let is_at : IsPendingWith op c.after.at = subst (λ (t : Transaction). IsPendingWith op t.at) (one_there first.txs tx pending.one c.after pending.there there) pending.is_at in
      pass_from c.after there (keeps (Event.Step tx) (Told.Answered (Answer.Blocked by)) step)
      (blocked_anew (context_by bits_of m.root m.active c.before.subtx.tx) c.before.at c.before c.after m.shared first.shared by op step.0.steps.tells is_at)
]
  where
    keeps : (e : Event) (told : Told) → Meets bits_of e told (counted m) first → IsManager bits_of first
    keeps e told = meets_keeps bits_of (counted m) first (counted_keeps bits_of m h) e told

    inserted : (t : Transaction) → first.txs ≡ map.insert m.txs tx t → map.get first.txs tx ≡ Some t
    inserted t is = ap (λ (x : Table). map.get x tx) is ∙ inserted_here m.txs tx t

    pass_from : (t : Transaction) → map.get first.txs tx ≡ Some t → IsManager bits_of first → t.at ≡ At.Pending (started_for (Do op)) → TakesPassInRun bits_of first tx op events tolds
    pass_from t there h' pending =
        let has = run_steps bits_of first.root first.active tx events tolds first new t h' there refl only run in
        record {
          t = t;
          there = there;
          takes = (has, pass_of (context_by bits_of first.root first.active tx) op t (view_in t first.shared) has.steps pending has.own);
        }

-- **From the abort on.**
pub from_abort : {P : Type 0} (bits_of : P → ℕ → ℕ) (tx : ℕ) (events : List Event) (tolds : List Told) (m new : ManagerFields P) (t : Transaction) (last : ObjOp × ObjReply) → IsManager bits_of m
    → map.get m.txs tx ≡ Some t → IsToTakeBack t last → OnlySteps tx events → IsRun bits_of m events tolds new
    → TakesOwnSteps (context_by bits_of m.root m.active tx) t (view_in t m.shared) tx events tolds (TakesBackOf last)
from_abort bits_of tx events tolds m new t last h there to only run =
    let has = run_steps bits_of m.root m.active tx events tolds m new t h there refl only run in
    (has, inverse_of_any (context_by bits_of m.root m.active tx) t last (view_in t m.shared) has.steps to has.own)
