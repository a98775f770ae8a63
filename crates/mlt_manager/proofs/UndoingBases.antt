-- What a whole undoing does to the base and the history
use Rattle.std.proofs.Common.{zero, suc, ◌≡◌, ℕ, List, [], ◌∷◌, ◌++◌, length, replicate, Some, Result, Ok, Err, IfOk, refl, sym, ap, subst, ◌∙◌, append_assoc, append-nil}
use Rattle.std.specs.FinMap as map
use Rattle.mlt_manager.proofs.Names.{Refusal, Base, Step, ObjOp, ObjReply, TraceItem, Answer, Transaction, HasStepped, IsOpenAt, IsUndoing, HasBase, KeepsWhatCounts, LeavesBase, TakesStepBack, UndoingLeavesBase, StepsBy, StepsUpTo, IsManager, ManagerFields, AnswersWholeUndo, GoesOnBack, StopsBack}
use Rattle.mlt_order.{specs.Runs.Runs, proofs.RunLemmas.runs_append}
use Rattle.mlt_manager.proofs.{Called.one_there, Stepped.step_keeps, UndoingAll.going_entries, UndoingAll.still_undoing, UndoingAll.there_now, WholeBases.base_by}

-- one more of the same, before or behind
pub one_more : {A : Type 0} (n : ℕ) (a : A) (rest : List A) → replicate n a ++ a ∷ rest ≡ a ∷ (replicate n a ++ rest)
one_more zero a rest = refl
one_more (suc n) a rest = ap (λ l. a ∷ l) (one_more n a rest)

push_length : {A : Type 0} (xs : List A) (x : A) → length (xs ++ x ∷ []) ≡ suc (length xs)
push_length [] x = refl
push_length (y ∷ xs) x = ap suc (push_length xs x)

module _ {P : Type 0} (bits_of : P → ℕ → ℕ) (tx : ℕ) where
  -- these operations of the transaction stand
  record HasEntries (m : ManagerFields P) (entries : List (ObjOp × ObjReply)) : Type 0 where
    one : Transaction
    there : map.get m.txs tx ≡ Some one
    is : one.undo.entries ≡ entries

  -- steps of an abort took the last ones back
  record Unwinds (old last : ManagerFields P) (entries : List (ObjOp × ObjReply)) : Type 0 where
    manager : IsManager bits_of last
    undoing : IsOpenAt last.txs tx IsUndoing
    left : List (ObjOp × ObjReply)
    taken : List (ObjOp × ObjReply)
    parts : entries ≡ left ++ taken
    stand : HasEntries last left
    items : last.shared.history.items ≡ old.shared.history.items ++ replicate (length taken) (TraceItem.Back tx)
    leads : (base : Base) → HasBase old base → (before : Base) × Runs Step before taken base × HasBase last before

  nothing_taken : (old last : ManagerFields P) (entries : List (ObjOp × ObjReply)) → last ≡ old → IsManager bits_of old → IsOpenAt old.txs tx IsUndoing → HasEntries old entries → Unwinds old last entries
  nothing_taken old last entries same h undoing stand =
      subst (λ (n : ManagerFields P). Unwinds old n entries) (sym same)
      (record {
        manager = h;
        undoing = undoing;
        left = entries;
        taken = [];
        parts = sym (append-nil entries);
        stand = stand;
        items = sym (append-nil old.shared.history.items);
        leads = λ base leads. (base, refl, leads);
      })

  -- a step that goes on, and then these
  then_unwinds : (old mid last : ManagerFields P) (entries : List (ObjOp × ObjReply)) → KeepsWhatCounts old mid → Unwinds mid last entries → Unwinds old last entries
  then_unwinds old mid last entries keeps u = record {
    manager = u.manager;
    undoing = u.undoing;
    left = u.left;
    taken = u.taken;
    parts = u.parts;
    stand = u.stand;
    items = u.items ∙ ap (λ (l : List TraceItem). l ++ replicate (length u.taken) (TraceItem.Back tx)) keeps.items;
    leads = λ base leads. u.leads base (base_by old mid keeps.items base leads);
  }

  -- one that takes an operation back, and then these
  taken_unwinds : (old mid last : ManagerFields P) (entries left : List (ObjOp × ObjReply)) (item : ObjOp × ObjReply) → HasEntries old entries → TakesStepBack old mid tx left item (TraceItem.Back tx ∷ []) → Unwinds mid last left → Unwinds old last entries
  taken_unwinds old mid last entries left item stand takes u =
      let same : entries ≡ left ++ item ∷ [] = sym stand.is ∙ ap (λ (t : Transaction). t.undo.entries) (one_there old.txs tx stand.one takes.one stand.there takes.there) ∙ takes.entries in
      let back = TraceItem.Back tx in
      record {
        manager = u.manager;
        undoing = u.undoing;
        left = u.left;
        taken = u.taken ++ item ∷ [];
        parts = same ∙ ap (λ (l : List (ObjOp × ObjReply)). l ++ item ∷ []) u.parts ∙ append_assoc u.left u.taken (item ∷ []);
        stand = u.stand;
        items = u.items ∙ ap (λ (l : List TraceItem). l ++ replicate (length u.taken) back) takes.items ∙ append_assoc old.shared.history.items (back ∷ []) (replicate (length u.taken) back)
            ∙ ap (λ (n : ℕ). old.shared.history.items ++ replicate n back) (sym (push_length u.taken item));
        leads = λ base leads.
            let one = takes.leads base leads in
            let more = u.leads one.0 one.2 in
            (more.0, runs_append Step u.taken (item ∷ []) more.0 one.0 base more.1 (base, one.1, refl), more.2);
      }

  step_unwinds : (old mid last : ManagerFields P) (told : Answer) (entries : List (ObjOp × ObjReply)) → IsManager bits_of old → IsOpenAt old.txs tx IsUndoing → HasEntries old entries → (d : HasStepped bits_of old mid tx told) → GoesOnBack told → LeavesBase told old mid tx
      → ((rest : List (ObjOp × ObjReply)) → HasEntries mid rest → Unwinds mid last rest) → Unwinds old last entries
  step_unwinds old mid last Answer.Going entries h undoing stand d goes keeps more =
      let is : d.steps.changes.after.undo.entries ≡ entries = going_entries bits_of old mid tx Answer.Going undoing d refl ∙ ap (λ (t : Transaction). t.undo.entries) (one_there old.txs tx d.steps.changes.before stand.one d.steps.changes.was stand.there) ∙ stand.is in
      then_unwinds old mid last entries keeps (more entries (record { one = d.steps.changes.after; there = there_now bits_of old mid tx Answer.Going undoing d goes; is = is }))
  step_unwinds old mid last Answer.Undone entries h undoing stand d goes takes more =
      let there = there_now bits_of old mid tx Answer.Undone undoing d goes in
      taken_unwinds old mid last entries takes.0 takes.1 stand takes.2 (more takes.0 (record { one = d.steps.changes.after; there = there; is = takes.2.stands d.steps.changes.after there }))
  step_unwinds old mid last (Answer.Waiting page by) entries h undoing stand d none leaves more = absurd none
  step_unwinds old mid last (Answer.Blocked by) entries h undoing stand d none leaves more = absurd none
  step_unwinds old mid last (Answer.Done reply) entries h undoing stand d none leaves more = absurd none
  step_unwinds old mid last Answer.Aborted entries h undoing stand d none leaves more = absurd none
  step_unwinds old mid last (Answer.Refused reason) entries h undoing stand d none leaves more = absurd none

  steps_unwind : (old last : ManagerFields P) (steps : List (ManagerFields P × Answer)) (entries : List (ObjOp × ObjReply)) → IsManager bits_of old → IsOpenAt old.txs tx IsUndoing → HasEntries old entries → StepsBy bits_of GoesOnBack old steps last tx → Unwinds old last entries
  steps_unwind old last [] entries h undoing stand same = nothing_taken old last entries same h undoing stand
  steps_unwind old last (one ∷ more) entries h undoing stand (first, on, rest) =
      let step = step_keeps bits_of old h tx one.0 one.1 first in
      step_unwinds old one.0 last one.1 entries h undoing stand first on step.1
      (λ left stands. steps_unwind one.0 last more left step.0 (still_undoing bits_of old one.0 tx one.1 undoing first on) stands rest)

  -- the step that stops
  last_unwinds : (old before new : ManagerFields P) (one : Transaction) (told : Answer) → map.get old.txs tx ≡ Some one → Unwinds old before one.undo.entries → StopsBack told → LeavesBase told before new tx → UndoingLeavesBase told old new tx
  last_unwinds old before new one Answer.Aborted there u stops (item, takes) =
      let same : u.left ≡ item ∷ [] = sym u.stand.is ∙ ap (λ (t : Transaction). t.undo.entries) (one_there before.txs tx u.stand.one takes.one u.stand.there takes.there) ∙ takes.entries in
      let back = TraceItem.Back tx in
      record {
        one = one;
        there = there;
        taken = item ∷ u.taken;
        entries = u.parts ∙ ap (λ (l : List (ObjOp × ObjReply)). l ++ u.taken) same;
        items = takes.items ∙ ap (λ (l : List TraceItem). l ++ back ∷ TraceItem.Abort tx ∷ []) u.items
            ∙ append_assoc old.shared.history.items (replicate (length u.taken) back) (back ∷ TraceItem.Abort tx ∷ [])
            ∙ ap (λ (l : List TraceItem). old.shared.history.items ++ l) (one_more (length u.taken) back (TraceItem.Abort tx ∷ []));
        leads = λ base leads.
            let more = u.leads base leads in
            let first = takes.leads more.0 more.2 in
            (first.0, (more.0, first.1, more.1), first.2);
      }
  last_unwinds old before new one (Answer.Waiting page by) there u stops keeps = (
    u.left,
    record {
      one = one;
      there = there;
      taken = u.taken;
      entries = u.parts;
      items = keeps.items ∙ u.items ∙ ap (λ (l : List TraceItem). old.shared.history.items ++ l) (sym (append-nil (replicate (length u.taken) (TraceItem.Back tx))));
      leads = λ base leads.
          let more = u.leads base leads in
          (more.0, more.1, base_by before new keeps.items more.0 more.2);
    },
  )
  last_unwinds old before new one Answer.Going there u none leaves = absurd none
  last_unwinds old before new one (Answer.Blocked by) there u none leaves = absurd none
  last_unwinds old before new one (Answer.Done reply) there u none leaves = absurd none
  last_unwinds old before new one Answer.Undone there u none leaves = absurd none
  last_unwinds old before new one (Answer.Refused reason) there u none leaves = absurd none

  up_to_unwinds : (old new : ManagerFields P) (told : Answer) → IsManager bits_of old → IsOpenAt old.txs tx IsUndoing → StepsUpTo bits_of GoesOnBack StopsBack old new tx told → UndoingLeavesBase told old new tx
  up_to_unwinds old new told h undoing s =
      let u = steps_unwind old s.before s.steps undoing.one.undo.entries h undoing (record { one = undoing.one; there = undoing.there; is = refl }) s.goes in
      last_unwinds old s.before new undoing.one told undoing.there u s.stops (step_keeps bits_of s.before u.manager tx new told s.ends).1

-- **What a whole undoing does to the base and the history.**
pub whole_undo_leads : {P : Type 0} (bits_of : P → ℕ → ℕ) (m m' : ManagerFields P) (tx : ℕ) → IsManager bits_of m → (r : Result Answer Refusal) → AnswersWholeUndo bits_of m m' tx r → IfOk r (λ told. UndoingLeavesBase told m m' tx)
whole_undo_leads bits_of m m' tx h (Ok told) a = up_to_unwinds bits_of tx m m' told h a.0 a.1
whole_undo_leads bits_of m m' tx h (Err reason) a = tt
