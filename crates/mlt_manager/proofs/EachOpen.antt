-- What is true of each open transaction, and what events make of it
use Rattle.mlt_manager.proofs.Names.{cases_eq, Refusal, ObjOp, Answer, At, Transaction, IsPending, Table, inserted_elsewhere, inserted_here, removed_here, AnswersAbort, AnswersBegin, AnswersCommit, HasCalled, HasStepped, IsOpenAt, txs_after, StepsBy, ManagerFields, AnswersWhole, DropsIfItStands, HasRun, LetsGoOn, Stops}
use Rattle.std.proofs.Common.{◌≡◌, ◌≢◌, ℕ, List, [], ◌∷◌, Bool, true, false, None, Some, Result, Ok, Err, inl, inr, sym, ap, subst, ◌∙◌}
use Rattle.std.specs.FinMap as map
use Rattle.mlt_manager_invariant.proofs.Tables.{removed_elsewhere}
use Rattle.mlt_manager.proofs.{RunningOn.steps_pending, WholeBases.called_with, WholeBases.steps_ask, WholeBases.weaker}

-- this is true of each open transaction; and of each but that of this number
abbrev pub Each : (ℕ → Transaction → Type 0) → Table → Type 0
Each G txs = (u : ℕ) (one : Transaction) → map.get txs u ≡ Some one → G u one

abbrev pub EachOther : (ℕ → Transaction → Type 0) → ℕ → Table → Type 0
EachOther G tx txs = (u : ℕ) (one : Transaction) → u ≢ tx → map.get txs u ≡ Some one → G u one

module _ (G : ℕ → Transaction → Type 0) where
  pub others_of : (txs : Table) (tx : ℕ) → Each G txs → EachOther G tx txs
  others_of txs tx each u one ne there = each u one there

  pub others_with : (txs : Table) (tx : ℕ) (after : Transaction) → EachOther G tx txs → EachOther G tx (map.insert txs tx after)
  others_with txs tx after each u one ne there = each u one ne (sym (inserted_elsewhere txs tx after u ne) ∙ there)

  others_without : (txs : Table) (tx : ℕ) → EachOther G tx txs → EachOther G tx (map.remove txs tx)
  others_without txs tx each u one ne there = each u one ne (sym (removed_elsewhere txs tx u ne) ∙ there)

  -- with the one that was left aside
  pub each_with : (txs : Table) (tx : ℕ) (after : Transaction) → EachOther G tx txs → G tx after → Each G (map.insert txs tx after)
  each_with txs tx after each still u one there =
      elim (cases_eq u tx) [
        | inl here ↦
            let is : Some after ≡ Some one = sym (inserted_here txs tx after) ∙ ap (λ k. map.get (map.insert txs tx after) k) (sym here) ∙ there in
            let same : after ≡ one = cc in
            subst (λ (k : ℕ). G k one) (sym here) (subst (λ (t : Transaction). G tx t) same still)
        | inr differ ↦ others_with txs tx after each u one differ there
      ]

  pub each_without : (txs : Table) (tx : ℕ) → EachOther G tx txs → Each G (map.remove txs tx)
  each_without txs tx each u one there =
      elim (cases_eq u tx) [
        | inl here ↦
            let is : None ≡ Some one = sym (removed_here txs tx) ∙ ap (λ k. map.get (map.remove txs tx) k) (sym here) ∙ there in
            absurd cc
        | inr differ ↦ others_without txs tx each u one differ there
      ]

-- it is true of those at nothing, and of those whose abort is between two inverses; and it looks at nothing but what they are at
pub record LooksAt (G : ℕ → Transaction → Type 0) : Type 0 where
  pub by_at : (u : ℕ) (t t' : Transaction) → t'.at ≡ t.at → G u t → G u t'
  pub idle : (u : ℕ) (t : Transaction) → t.at ≡ At.Idle → G u t
  pub turned : (u : ℕ) (t : Transaction) → t.at ≡ At.Undoing None → G u t

module _ {P : Type 0} (G : ℕ → Transaction → Type 0) (looks : LooksAt G) where
  abbrev All : ManagerFields P → Type 0
  All m = Each G m.txs

  pub same_each : (m m' : ManagerFields P) → m' ≡ m → All m → All m'
  same_each m m' same each = subst (λ (n : ManagerFields P). Each G n.txs) (sym same) each

  pub table_is : (m' : ManagerFields P) (txs : Table) → m'.txs ≡ txs → Each G txs → All m'
  table_is m' txs same each = subst (Each G) (sym same) each

  pub begin_each : (m m' : ManagerFields P) (r : Result ℕ Refusal) → AnswersBegin m m' r → All m → All m'
  begin_each m m' (Ok tx) b each =
      table_is m' (map.insert m.txs tx b.one) (ap (λ (n : ManagerFields P). n.txs) b.rest) (each_with G m.txs tx b.one (others_of G m.txs tx each) (looks.idle tx b.one b.idle))
  begin_each m m' (Err reason) a each = same_each m m' a.1 each

  pub commit_each : (m m' : ManagerFields P) (tx : ℕ) (r : Result ℕ Refusal) → AnswersCommit m m' tx r → All m → All m'
  commit_each m m' tx (Ok number) c each = table_is m' (map.remove m.txs tx) c.ends.txs (each_without G m.txs tx (others_of G m.txs tx each))
  commit_each m m' tx (Err reason) a each = same_each m m' a.1 each

  pub abort_each : (m m' : ManagerFields P) (tx : ℕ) (r : Result Bool Refusal) → AnswersAbort m m' tx r → All m → All m'
  abort_each m m' tx (Ok true) c each = table_is m' (map.remove m.txs tx) c.ends.txs (each_without G m.txs tx (others_of G m.txs tx each))
  abort_each m m' tx (Ok false) a each =
      let ch = a.puts.changes in
      table_is m' (map.insert m.txs tx ch.after) ch.is
      (each_with G m.txs tx ch.after (others_of G m.txs tx each) (looks.turned tx ch.after (ap (λ (t : Transaction). t.at) a.puts.put)))
  abort_each m m' tx (Err reason) a each = same_each m m' a.1 each

  -- steps
  module _ (bits_of : P → ℕ → ℕ) (tx : ℕ) where
    pub after_step : (told : Answer) (d txs : Table) (after : Transaction) → d ≡ map.insert txs tx after → EachOther G tx txs → EachOther G tx (txs_after told tx d)
    after_step Answer.Aborted d txs after is each = others_without G d tx (subst (EachOther G tx) (sym is) (others_with G txs tx after each))
    after_step Answer.Going d txs after is each = subst (EachOther G tx) (sym is) (others_with G txs tx after each)
    after_step (Answer.Waiting page by) d txs after is each = subst (EachOther G tx) (sym is) (others_with G txs tx after each)
    after_step (Answer.Blocked by) d txs after is each = subst (EachOther G tx) (sym is) (others_with G txs tx after each)
    after_step (Answer.Done reply) d txs after is each = subst (EachOther G tx) (sym is) (others_with G txs tx after each)
    after_step Answer.Undone d txs after is each = subst (EachOther G tx) (sym is) (others_with G txs tx after each)
    after_step (Answer.Refused reason) d txs after is each = subst (EachOther G tx) (sym is) (others_with G txs tx after each)

    pub step_each : (m m' : ManagerFields P) (told : Answer) → HasStepped bits_of m m' tx told → EachOther G tx m.txs → EachOther G tx m'.txs
    step_each m m' told d each =
        subst (λ (n : ManagerFields P). EachOther G tx n.txs) (sym d.rest) (after_step told d.txs m.txs d.steps.changes.after d.steps.changes.is each)

    pub steps_each : (Goes : Answer → Type 0) (m last : ManagerFields P) (steps : List (ManagerFields P × Answer)) → StepsBy bits_of Goes m steps last tx → EachOther G tx m.txs → EachOther G tx last.txs
    steps_each Goes m last [] same each = subst (λ (n : ManagerFields P). EachOther G tx n.txs) (sym same) each
    steps_each Goes m last (one ∷ more) (first, on, rest) each = steps_each Goes one.0 last more rest (step_each m one.0 one.1 first each)

    -- a whole operation ends at nothing
    ends_still : (op : ObjOp) (told : Answer) (before stopped m' : ManagerFields P) → IsOpenAt before.txs tx IsPending → HasStepped bits_of before stopped tx told → Stops told → DropsIfItStands told stopped m' tx
        → EachOther G tx before.txs → All m'
    ends_still op (Answer.Waiting page by) before stopped m' pending d stops drops each =
        table_is m' (map.insert stopped.txs tx drops.cancels.changes.after) drops.cancels.changes.is
        (each_with G stopped.txs tx drops.cancels.changes.after (step_each before stopped (Answer.Waiting page by) d each) (looks.idle tx drops.cancels.changes.after drops.cancels.tells.idle))
    ends_still op (Answer.Blocked by) before stopped m' pending d stops drops each =
        table_is m' (map.insert stopped.txs tx drops.cancels.changes.after) drops.cancels.changes.is
        (each_with G stopped.txs tx drops.cancels.changes.after (step_each before stopped (Answer.Blocked by) d each) (looks.idle tx drops.cancels.changes.after drops.cancels.tells.idle))
    ends_still op (Answer.Done reply) before stopped m' pending d stops same each =
        let s = steps_pending bits_of before stopped tx (Answer.Done reply) pending d in
        table_is m' (map.insert before.txs tx d.steps.changes.after) (ap (λ (n : ManagerFields P). n.txs) (same ∙ d.rest) ∙ d.steps.changes.is)
        (each_with G before.txs tx d.steps.changes.after each (looks.idle tx d.steps.changes.after s.now_at))
    ends_still op (Answer.Refused reason) before stopped m' pending d stops same each =
        let s = steps_pending bits_of before stopped tx (Answer.Refused reason) pending d in
        table_is m' (map.insert before.txs tx d.steps.changes.after) (ap (λ (n : ManagerFields P). n.txs) (same ∙ d.rest) ∙ d.steps.changes.is)
        (each_with G before.txs tx d.steps.changes.after each (looks.idle tx d.steps.changes.after s.now_at))
    ends_still op Answer.Going before stopped m' pending d none drops each = absurd none
    ends_still op Answer.Undone before stopped m' pending d none drops each = absurd none
    ends_still op Answer.Aborted before stopped m' pending d none drops each = absurd none

    called_each : (op : ObjOp) (m m' : ManagerFields P) → HasCalled m m' tx op → All m → EachOther G tx m'.txs
    called_each op m m' c each = subst (EachOther G tx) (sym c.calls.changes.is) (others_with G m.txs tx c.calls.changes.after (others_of G m.txs tx each))

    run_each : (op : ObjOp) (m m' : ManagerFields P) (told : Answer) → HasRun bits_of m m' tx op told → All m → All m'
    run_each op m m' told r each =
        let up = r.runs.steps in
        ends_still op told up.before r.runs.stopped m'
        (weaker up.before.txs tx op (steps_ask bits_of tx op r.called up.before up.steps up.goes (called_with m r.called tx op r.calls)))
        up.ends up.stops r.runs.drops (steps_each LetsGoOn r.called up.before up.steps up.goes (called_each op m r.called r.calls each))

    pub not_called_each : (op : ObjOp) (m m' : ManagerFields P) (reason : Refusal) → AnswersWhole bits_of m m' tx op (Err reason) → All m → All m'
    not_called_each op m m' Refusal.OutOfMemory a each =
        let ch = a.1.changes in
        table_is m' (map.insert m.txs tx ch.after) ch.is (each_with G m.txs tx ch.after (others_of G m.txs tx each) (looks.by_at tx ch.before ch.after a.1.tells.idle (each tx ch.before ch.was)))
    not_called_each op m m' reason a each = same_each m m' a.1 each

    pub whole_each : (op : ObjOp) (m m' : ManagerFields P) (r : Result Answer Refusal) → AnswersWhole bits_of m m' tx op r → All m → All m'
    whole_each op m m' (Ok told) a each = run_each op m m' told a each
    whole_each op m m' (Err reason) a each = not_called_each op m m' reason a each
