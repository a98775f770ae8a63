-- Whom an answer names
use Rattle.mlt_manager.proofs.Names.{false≢true, nat_tests, cases_eq, Mode, Refusal, ObjOp, ObjReply, Modes, is_holder, Held, WalkContext, context_by, OperationFields, Answer, At, Transaction, SharedState, TellsOfBack, TellsOfPending, TellsAt, tx_state_of, Table, FitsAt, State, images_kept, abstract_state_of, inserted_elsewhere, AnswersStep, HasStepped, IsByAnother, IsOpenAt, IsRunning, txs_after, StepsUpTo, IsManager, ManagerFields, state_of, AnswersWholeUndo, GoesOnBack, StopsBack, AnswersWhole, DropsIfItStands, LetsGoOn, Stops}
use Rattle.std.proofs.lemmas.List.Elements.{Contains-append_cases}
use Rattle.std.proofs.Common.{inl, inr, ◌≡◌, ◌≢◌, ℕ, true, List, [], ◌∷◌, Option, None, Some, is_some, Contains, Result, Ok, Err, IfOk, refl, sym, ap, subst, ◌∙◌, arith, IsSome, nat_cmp}
use Rattle.std.specs.FinMap as map
use Rattle.mlt_order.{specs.Histories.Stage, specs.Histories.Stage.Ended, specs.Histories.Stage.Fresh, specs.Histories.Stage.Running, specs.Interleavings.items_of, proofs.Parts.items_of-other, proofs.Parts.items_of-same, proofs.RunLemmas.contains-first, proofs.RunLemmas.contains-later, proofs.RunLemmas.contains-nothing, proofs.Stages.contains-one}
use Rattle.mlt_page_locks.specs.{LockTables.LockTable, Requests.IsLowest, Requests.conflicts}
use Rattle.mlt_tx_meaning.{specs.AbstractStates.lists_in, proofs.Matches.lists_kept}
use Rattle.mlt_manager.proofs.{Called.called_keeps, Chains.steps_keep}

-- who stands in the way of a lock is another, and holds pages
way_of : (table : LockTable) (tx q by : ℕ) (mode : Mode) (e : Option Modes) → map.get table.held by ≡ e → conflicts table tx q mode by ≡ true → is_some e ≡ true
way_of table tx q by mode None is against = grind (arith, is, against, map.get-empty {X = Mode} nat_cmp q)
way_of table tx q by mode (Some modes) is against = refl

other_holds : (table : LockTable) (tx q by : ℕ) (mode : Mode) → conflicts table tx q mode by ≡ true → (by ≢ tx) × (is_holder table by ≡ true)
other_holds table tx q by mode against = (
  λ same. grind (arith, nat_tests, same, against),
  way_of table tx q by mode (map.get table.held by) refl against,
)

-- what is held is held under its number
under_number : (j : ℕ) (held : List Held) (x : ObjOp × ObjReply) → Contains held (j, x) → Contains (items_of j held) x
under_number j [] x is = absurd (contains-nothing (j, x) is)
under_number j (e ∷ held) x is =
    elim (Contains-append_cases (e ∷ []) held (j, x) is) [
      | inl here ↦
          subst (λ (y : Held). Contains (items_of j (y ∷ held)) x) (sym (contains-one e (j, x) here))
          (subst (λ (l : List (ObjOp × ObjReply)). Contains l x) (sym (items_of-same j (j, x) held refl)) (contains-first x (items_of j held)))
      | inr later ↦
          let rest = under_number j held x later in
          elim (cases_eq e.0 j) [
            | inl same ↦ subst (λ (l : List (ObjOp × ObjReply)). Contains l x) (sym (items_of-same j e held same)) (contains-later e.1 x (items_of j held) rest)
            | inr differ ↦ subst (λ (l : List (ObjOp × ObjReply)). Contains l x) (sym (items_of-other j e held differ)) rest
          ]
    ]

module _ {P : Type 0} (bits_of : P → ℕ → ℕ) (m : ManagerFields P) (h : IsManager bits_of m) where
  abbrev now : State
  now = state_of bits_of m h.images h.base

  -- who holds pages runs
  runs_at : (a : At) (by : ℕ) (t : Transaction) → FitsAt a now by t → is_holder m.shared.pages.locks by ≡ true → IsRunning a
  runs_at At.Idle by t nothing holds = absurd (false≢true (sym nothing.no_locks ∙ holds))
  runs_at (At.Pending o) by t fits holds = tt
  runs_at (At.Undoing None) by t (nothing, some) holds = absurd (false≢true (sym nothing.no_locks ∙ holds))
  runs_at (At.Undoing (Some o)) by t fits holds = tt

  open_of : (by : ℕ) (e : Option Transaction) → map.get m.txs by ≡ e → is_some (map.get h.images by) ≡ true → is_some e ≡ true
  open_of by None is holds = absurd (false≢true (sym (ap is_some (h.sound.kept by ∙ ap images_kept is)) ∙ holds))
  open_of by (Some t) is holds = refl

  one_of : (by : ℕ) (e : Option Transaction) → map.get m.txs by ≡ e → is_some e ≡ true → is_holder m.shared.pages.locks by ≡ true → IsOpenAt m.txs by IsRunning
  one_of by None is none holds = absurd (false≢true none)
  one_of by (Some t) is some holds = record { one = t; there = is; is_at = runs_at t.at by t (h.sound.fits by t is).where_at holds }

  -- **Who holds pages is open, and runs.**
  pub holder_runs : (by : ℕ) → is_holder m.shared.pages.locks by ≡ true → IsOpenAt m.txs by IsRunning
  holder_runs by holds = one_of by (map.get m.txs by) refl (open_of by (map.get m.txs by) refl (h.sound.running.holders_open by holds)) holds

  holds_if : (by : ℕ) (item : ObjOp × ObjReply) (stage : Stage) → (lists_in (abstract_state_of now)).stage by ≡ stage → Contains ((lists_in (abstract_state_of now)).held by) item → stage ≡ Running
  holds_if by item Running is held = refl
  holds_if by item Fresh is held =
      let none = ((lists_kept (abstract_state_of now) h.sound.match).only by (λ (r : (lists_in (abstract_state_of now)).stage by ≡ Running). let both : Fresh ≡ Running = sym is ∙ r in cc)).1 in
      absurd (contains-nothing item (subst (λ (l : List (ObjOp × ObjReply)). Contains l item) none held))
  holds_if by item Ended is held =
      let none = ((lists_kept (abstract_state_of now) h.sound.match).only by (λ (r : (lists_in (abstract_state_of now)).stage by ≡ Running). let both : Ended ≡ Running = sym is ∙ r in cc)).1 in
      absurd (contains-nothing item (subst (λ (l : List (ObjOp × ObjReply)). Contains l item) none held))

  -- **Who holds an operation is open.**
  pub owner_open : (by : ℕ) (item : ObjOp × ObjReply) → Contains m.shared.objects.held (by, item) → is_some (map.get m.txs by) ≡ true
  owner_open by item held =
      let listed : Contains ((lists_in (abstract_state_of now)).held by) item = subst (λ (l : List (ObjOp × ObjReply)). Contains l item) (h.sound.held by) (under_number by m.shared.objects.held item held) in
      let running = holds_if by item ((lists_in (abstract_state_of now)).stage by) refl listed in
      sym (h.sound.opened by) ∙ (h.sound.match.records.running by).1 running

-- who is named is another transaction, where the one that changes is left aside
still_another : (told : Answer) (txs : Table) (tx : ℕ) (after : Transaction) → IsByAnother told txs tx → IsByAnother told (map.insert txs tx after) tx
still_another (Answer.Waiting page by) txs tx after (ne, there) = (ne, record { one = there.one; there = inserted_elsewhere txs tx after by ne ∙ there.there; is_at = there.is_at })
still_another (Answer.Blocked by) txs tx after (ne, there) = (ne, subst IsSome (sym (inserted_elsewhere txs tx after by ne)) there)
still_another Answer.Going txs tx after none = tt
still_another (Answer.Done reply) txs tx after none = tt
still_another Answer.Undone txs tx after none = tt
still_another Answer.Aborted txs tx after none = tt
still_another (Answer.Refused reason) txs tx after none = tt

-- one step
module _ {P : Type 0} (bits_of : P → ℕ → ℕ) (m : ManagerFields P) (h : IsManager bits_of m) (tx : ℕ) where
  module _ (before after : Transaction) (shared : SharedState) (was : map.get m.txs tx ≡ Some before) where
    number : before.subtx.tx ≡ tx
    number = (h.sound.fits tx before was).number

    by_lowest : (page by : ℕ) (mode : Mode) → IsLowest (conflicts m.shared.pages.locks before.subtx.tx page mode) by → (by ≢ tx) × IsOpenAt m.txs by IsRunning
    by_lowest page by mode lowest =
        let other = other_holds m.shared.pages.locks before.subtx.tx page by mode lowest.has_it in
        (λ same. other.0 (same ∙ sym number), holder_runs bits_of m h by other.1)

    named_pending : (context : WalkContext) (o next : OperationFields) (between : SharedState) (told : Answer) → TellsOfPending context o next (tx_state_of before m.shared) (tx_state_of after between) told → IsByAnother told m.txs tx
    named_pending context o next between (Answer.Waiting page by) w = by_lowest page by w.tells.mode w.tells.lowest
    named_pending context o next between (Answer.Blocked by) (e, anew) =
        let clash = e.tells.lowest.0 in
        (λ same. clash.0 (same ∙ sym number), owner_open bits_of m h by clash.1.0 clash.1.1)
    named_pending context o next between Answer.Going w = tt
    named_pending context o next between (Answer.Done reply) w = tt
    named_pending context o next between (Answer.Refused reason) w = tt
    named_pending context o next between Answer.Undone none = tt
    named_pending context o next between Answer.Aborted none = tt

    named_back : (context : WalkContext) (inverting next : Option OperationFields) (told : Answer) → TellsOfBack context inverting next (tx_state_of before m.shared) (tx_state_of after shared) told → IsByAnother told m.txs tx
    named_back context inverting next (Answer.Waiting page by) w = by_lowest page by w.tells.mode w.tells.lowest
    named_back context inverting next (Answer.Blocked by) none = absurd none
    named_back context inverting next Answer.Going w = tt
    named_back context inverting next (Answer.Done reply) w = tt
    named_back context inverting next (Answer.Refused reason) w = tt
    named_back context inverting next Answer.Undone none = tt
    named_back context inverting next Answer.Aborted none = tt

    named_at : (a : At) (context : WalkContext) (told : Answer) → TellsAt a context before after m.shared shared told → IsByAnother told m.txs tx
    named_at At.Idle context told none = absurd none
    named_at (At.Pending o) context told s = named_pending context o s.next s.between told s.tells
    named_at (At.Undoing inverting) context told s = named_back context inverting s.next told s.tells

  in_table : (told : Answer) (d : Table) (after : Transaction) → d ≡ map.insert m.txs tx after → IsByAnother told m.txs tx → IsByAnother told (txs_after told tx d) tx
  in_table (Answer.Waiting page by) d after is named = subst (λ (t : Table). IsByAnother (Answer.Waiting page by) t tx) (sym is) (still_another (Answer.Waiting page by) m.txs tx after named)
  in_table (Answer.Blocked by) d after is named = subst (λ (t : Table). IsByAnother (Answer.Blocked by) t tx) (sym is) (still_another (Answer.Blocked by) m.txs tx after named)
  in_table Answer.Going d after is none = tt
  in_table (Answer.Done reply) d after is none = tt
  in_table Answer.Undone d after is none = tt
  in_table Answer.Aborted d after is none = tt
  in_table (Answer.Refused reason) d after is none = tt

  -- **Whom a step names is another transaction: one that runs, or that is open.**
  pub step_names : (m' : ManagerFields P) (told : Answer) → HasStepped bits_of m m' tx told → IsByAnother told m'.txs tx
  step_names m' told d =
      let c = d.steps.changes in
      subst (λ (n : ManagerFields P). IsByAnother told n.txs tx) (sym d.rest)
      (in_table told d.txs c.after c.is (named_at c.before c.after m'.shared c.was c.before.at (context_by bits_of m.root m.active c.before.subtx.tx) told d.steps.tells))

-- many steps
module _ {P : Type 0} (bits_of : P → ℕ → ℕ) (LetsGoOn Stops : Answer → Type 0) where
  pub steps_name : (m m' : ManagerFields P) (tx : ℕ) (told : Answer) → IsManager bits_of m → StepsUpTo bits_of LetsGoOn Stops m m' tx told → IsByAnother told m'.txs tx
  steps_name m m' tx told h s = step_names bits_of s.before (steps_keep bits_of LetsGoOn tx m s.before s.steps h s.goes) tx m' told s.ends

-- an operation that is dropped
dropped_names : {P : Type 0} (told : Answer) (m m' : ManagerFields P) (tx : ℕ) → DropsIfItStands told m m' tx → IsByAnother told m.txs tx → IsByAnother told m'.txs tx
dropped_names (Answer.Waiting page by) m m' tx d named =
    subst (λ (t : Table). IsByAnother (Answer.Waiting page by) t tx) (sym d.cancels.changes.is) (still_another (Answer.Waiting page by) m.txs tx d.cancels.changes.after named)
dropped_names (Answer.Blocked by) m m' tx d named =
    subst (λ (t : Table). IsByAnother (Answer.Blocked by) t tx) (sym d.cancels.changes.is) (still_another (Answer.Blocked by) m.txs tx d.cancels.changes.after named)
dropped_names Answer.Going m m' tx d none = tt
dropped_names (Answer.Done reply) m m' tx d none = tt
dropped_names Answer.Undone m m' tx d none = tt
dropped_names Answer.Aborted m m' tx d none = tt
dropped_names (Answer.Refused reason) m m' tx d none = tt

-- what each call answers
module _ {P : Type 0} (bits_of : P → ℕ → ℕ) (m m' : ManagerFields P) (h : IsManager bits_of m) (tx : ℕ) where
  pub step_others : (r : Result Answer Refusal) → AnswersStep bits_of m m' tx r → IfOk r (λ told. IsByAnother told m'.txs tx)
  step_others (Ok told) a = step_names bits_of m h tx m' told a
  step_others (Err reason) a = tt

  pub whole_undo_others : (r : Result Answer Refusal) → AnswersWholeUndo bits_of m m' tx r → IfOk r (λ told. IsByAnother told m'.txs tx)
  whole_undo_others (Ok told) a = steps_name bits_of GoesOnBack StopsBack m m' tx told h a.1
  whole_undo_others (Err reason) a = tt

  pub whole_others : (op : ObjOp) (r : Result Answer Refusal) → AnswersWhole bits_of m m' tx op r → IfOk r (λ told. IsByAnother told m'.txs tx)
  whole_others op (Ok told) a =
      dropped_names told a.runs.stopped m' tx a.runs.drops
      (steps_name bits_of LetsGoOn Stops a.called a.runs.stopped tx told (called_keeps bits_of m h tx a.called a.calls.rest op a.calls) a.runs.steps)
  whole_others op (Err reason) a = tt
