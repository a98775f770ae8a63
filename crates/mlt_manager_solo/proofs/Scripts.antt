-- What one script asks of a manager, and what it leaves
use Rattle.std.proofs.Common.{◌≡◌, ◌≤◌, ◌+◌, ℕ, List, [], ◌∷◌, ◌++◌, Ok, Err, inl, inr, refl, sym, ap, subst, ◌∙◌, arith, nat_cmp}
use Rattle.std.specs.Cmp.{nat_cmp_total}
use Rattle.std.specs.FinMap as map
use Rattle.mlt_manager_solo.proofs.Names.{Refusal, Base, Step, Transcript, empty_base, ObjOp, ObjReply, Entry, IsHistory, no_lists, follow_push, Ending, ScriptForm, Committed, Aborted, Refused, TraceItem, entries_of, entries_of-append, Answer, Event, Told, Transaction, inserted_elsewhere, inserted_here, AnswersCall, IsIdle, counted, HasBase, Meets, IsManager, ManagerFields, lists_by, HasOneIdle, IsAtRest, KeepsCommitted, CanMark, HasAsked, HasRunScript, IsRefused, IsTakenBack, done_by, At, HasOne, HasCommitted, begun_by}
use Rattle.mlt_object_kinds.specs.Bases.{TranscriptLeads}
use Rattle.mlt_order.specs.Histories.{Entry.Begun, Stage.Fresh}
use Rattle.mlt_script_serial.{specs.declared.cursor.Next.Next, specs.Follows.Questions.Asks, specs.Follows.Questions.Ends, proofs.Transcripts.is_partial}
use Rattle.mlt_script_serial.specs.Follows.{Follows, IsNext, IsPartial, Questions, Reaches, questions_of_script}
use Rattle.mlt_manager.{specs.Answers.HasBegun, specs.Answers.IsCauseAtBegin, proofs.Ended.begun_keeps, proofs.Keeping.counted_keeps, proofs.Kept.whole_kept}
use Rattle.mlt_manager_solo.{specs.Events.Exchange, specs.Events.taken_back, proofs.Items.back_to_base, proofs.Items.commit_keeps_base, proofs.Items.commits_none, proofs.Items.committed_by, proofs.Runs.run_on, proofs.Steps.still_one}
use Rattle.mlt_manager_solo.proofs.Wholes.{call_refused, run_beside, run_done_idle, run_refused_idle}

module _ {P : Type 0} (bits_of : P → ℕ → ℕ) where
  -- one more event is counted, and nothing else
  pub counted_one : (IsThere : At → Type 0) (m : ManagerFields P) (tx : ℕ) → HasOne bits_of IsThere m tx → HasOne bits_of IsThere (counted m) tx
  counted_one IsThere m tx one = record { manager = counted_keeps bits_of m one.manager; one = one.one; alone = one.alone; limit = one.limit }

  pub counted_rest : (m : ManagerFields P) → IsAtRest bits_of m → IsAtRest bits_of (counted m)
  counted_rest m rest = record { manager = counted_keeps bits_of m rest.manager; nobody = rest.nobody; limit = rest.limit }

  pub none_committed : (a b c : ManagerFields P) → KeepsCommitted a b → KeepsCommitted b c → KeepsCommitted a c
  none_committed a b c one two = (two.0 ∙ one.0, two.1 ∙ one.1)

  -- what the operation of the transaction that alone is open may be told
  module _ (old new : ManagerFields P) (tx : ℕ) (op : ObjOp) (one : HasOneIdle bits_of old tx) where
    abbrev manager_now : IsManager bits_of (counted old)
    manager_now = (counted_one IsIdle old tx one).manager

    pub asked_done : (reply : ObjReply) → Meets bits_of (Event.Whole tx op) (Told.Answered (Answer.Done reply)) (counted old) new
        → HasOneIdle bits_of new tx × HasAsked bits_of old new ((op, reply) ∷ []) (done_by tx ((op, reply) ∷ []))
    asked_done reply r =
        let beside = run_beside bits_of (counted old) new tx op (Answer.Done reply) r.0 in (
          still_one _ _ _ _ (counted_one IsIdle old tx one) (whole_kept bits_of (counted old) new manager_now tx op (Ok (Answer.Done reply)) r.0) (run_done_idle _ _ _ _ _ _ r.0) beside,
          record {
            run = (new, r, refl);
            leads = λ base leads. let next = r.1.leads base leads in (next.0, (next.0, next.1, refl), next.2);
            keeps = (ap committed_by r.1.items ∙ commits_none old.shared.history.items (TraceItem.Op tx (op, reply)) tt, beside.commits);
          },
        )

    pub asked_refused : (reason : Refusal) → Meets bits_of (Event.Whole tx op) (Told.Answered (Answer.Refused reason)) (counted old) new → HasOneIdle bits_of new tx × IsRefused bits_of old new tx op reason
    asked_refused reason r =
        let idle = run_refused_idle bits_of (counted old) new tx op reason r.0 in
        let beside = run_beside bits_of (counted old) new tx op (Answer.Refused reason) r.0 in (
          still_one bits_of (counted old) new tx (counted_one IsIdle old tx one) (whole_kept bits_of (counted old) new manager_now tx op (Ok (Answer.Refused reason)) r.0) idle.0 beside,
          record { said = Told.Answered (Answer.Refused reason); refused = inr refl; meets = r; keeps = (ap committed_by r.1.items, beside.commits); can = idle.1 },
        )

    pub asked_in_vain : (reason : Refusal) → AnswersCall (counted old) new tx op (Err reason) → HasOneIdle bits_of new tx × IsRefused bits_of old new tx op reason
    asked_in_vain reason a =
        let r = call_refused bits_of (counted old) new tx op reason one.one a in (
          still_one bits_of (counted old) new tx (counted_one IsIdle old tx one) (whole_kept bits_of (counted old) new manager_now tx op (Err reason) a) r.0 r.2,
          record { said = Told.Refused reason; refused = inl refl; meets = a; keeps = (ap committed_by r.1, r.2.commits); can = r.3 },
        )

  leads_on : (t u : Transcript) (b m n : Base) → TranscriptLeads b t m → TranscriptLeads m u n → TranscriptLeads b (t ++ u) n
  leads_on [] u b m n same later = subst (λ (x : Base). TranscriptLeads x u n) (sym same) later
  leads_on (x ∷ t) u b m n (mid, step, rest) later = (mid, step, leads_on t u mid m n rest later)

  -- **These were asked, and then those.**
  pub asked_on : (old m new : ManagerFields P) (t u : Transcript) (es later : List Exchange) → HasAsked bits_of old m t es → HasAsked bits_of m new u later → HasAsked bits_of old new (t ++ u) (es ++ later)
  asked_on old m new t u es later one two = record {
    run = run_on bits_of old m new es later one.run two.run;
    leads = λ base leads.
        let first = one.leads base leads in
        let second = two.leads first.0 first.2 in
        (second.0, leads_on t u base first.0 second.0 first.1 second.1, second.2);
    keeps = none_committed old m new one.keeps two.keeps;
  }

  asked_at : (p q : Questions) (t : Transcript) (op : ObjOp) → Reaches p t q → IsNext (Next.Op op) q → (after : ObjReply → Questions) × Reaches p t (Asks op after)
  asked_at p (Ends e) t op reaches none = absurd none
  asked_at p (Asks o after) t op reaches is = (after, subst (λ (x : ObjOp). Reaches p t (Asks x after)) (sym is) reaches)

  -- ends of a script

  pub ended_committed : (s : ScriptForm) (old m new : ManagerFields P) (tx number : ℕ) (t : Transcript) → HasOneIdle bits_of m tx → Follows s t Ending.Commit → HasAsked bits_of old m t (begun_by tx t)
      → HasCommitted (counted m) new tx number → HasRunScript bits_of s old new tx t (Committed number)
  ended_committed s old m new tx number t one follows asked c = record {
    leads = λ base leads.
        let done = asked.leads base leads in
        let commits : new.commits ≡ number = ap (λ (n : ManagerFields P). n.commits) c.rest in
        let count : new.commits ≡ old.commits + 1 = commits ∙ c.next ∙ ap (λ (n : ℕ). n + 1) asked.keeps.1 in
        (done.0, commit_keeps_base bits_of (counted m) (counted_one IsIdle m tx one).manager tx number c.ends.one c.ends.there done.0 done.2 new c.ends.items, (follows, done.1, count, sym commits));
    exchanges = begun_by tx t ++ (Event.Commit tx, Told.Committed number) ∷ [];
    told = refl;
    run = run_on bits_of old m new (begun_by tx t) _ asked.run (new, c, refl);
    can = tt;
  }

  pub ended_aborted : (s : ScriptForm) (old m new : ManagerFields P) (tx : ℕ) (t : Transcript) → IsAtRest bits_of old → Follows s t Ending.Abort → HasAsked bits_of old m t (begun_by tx t) → IsTakenBack bits_of m new tx
      → IsAtRest bits_of new → HasRunScript bits_of s old new tx t Aborted
  ended_aborted s old m new tx t before follows asked back after =
      let keeps = none_committed old m new asked.keeps back.keeps in
      record {
        leads = λ base leads. let done = asked.leads base leads in (base, back_to_base bits_of old new base before after keeps leads, (follows, (done.0, done.1), refl, keeps.1));
        exchanges = begun_by tx t ++ taken_back tx back.closed;
        told = (back.closed, refl);
        run = run_on bits_of old m new (begun_by tx t) _ asked.run back.run;
        can = tt;
      }

  -- what it asks next is refused
  pub ended_refused : (s : ScriptForm) (q : Questions) (old m m' new : ManagerFields P) (tx : ℕ) (t : Transcript) (op : ObjOp) (reason : Refusal) → IsAtRest bits_of old → Reaches (questions_of_script s) t q
      → IsNext (Next.Op op) q → HasAsked bits_of old m t (begun_by tx t) → IsRefused bits_of m m' tx op reason → IsTakenBack bits_of m' new tx → IsAtRest bits_of new → HasRunScript bits_of s old new tx t (Refused reason)
  ended_refused s q old m m' new tx t op reason before reaches is asked refused back after =
      let keeps = none_committed old m' new (none_committed old m m' asked.keeps refused.keeps) back.keeps in
      record {
        leads = λ base leads. let done = asked.leads base leads in (base, back_to_base bits_of old new base before after keeps leads, (is_partial s t q reaches, (done.0, done.1), refl, keeps.1));
        exchanges = begun_by tx t ++ ((Event.Whole tx op, refused.said) ∷ taken_back tx back.closed);
        told = inr (record {
          last = (Event.Whole tx op, refused.said) ∷ [];
          why = record { op = op; asked = asked_at (questions_of_script s) q t op reaches is; said = refused.said; refused = refused.refused; events = refl };
          closed = back.closed;
          events = refl;
        });
        run = run_on bits_of old m new (begun_by tx t) ((Event.Whole tx op, refused.said) ∷ taken_back tx back.closed) asked.run (m', refused.meets, back.run);
        can = refused.can;
      }

  -- **A transaction that begins is the only one.**
  module _ (old m : ManagerFields P) (tx : ℕ) (rest : IsAtRest bits_of old) (begun : HasBegun (counted old) m tx) where
    pub begun_alone : HasOneIdle bits_of m tx
    begun_alone = record {
      manager = begun_keeps bits_of (counted old) (counted_rest old rest).manager tx m begun;
      one = record { one = begun.one; there = ap (λ (n : ManagerFields P). map.get n.txs tx) begun.rest ∙ inserted_here old.txs tx begun.one; is_at = subst IsIdle (sym begun.idle) tt };
      alone = λ i ne. ap (λ (n : ManagerFields P). map.get n.txs i) begun.rest ∙ inserted_elsewhere old.txs tx begun.one i ne ∙ rest.nobody i;
      limit = subst (λ (n : ℕ). 1 ≤ n) (sym (ap (λ (n : ManagerFields P). n.max_open) begun.rest)) rest.limit;
    }

    pub begun_asked : HasAsked bits_of old m [] (begun_by tx [])
    begun_asked = record {
      run = (m, begun, refl);
      leads = λ base leads.
          let fresh : (lists_by old).stage tx ≡ Fresh = rest.manager.sound.match.records.fresh tx (omega (arith, begun.number)) in
          let grown = follow_push Step (entries_of old.shared.history.items) no_lists empty_base base base (Begun tx) leads (fresh, refl) in
          let same : entries_of m.shared.history.items ≡ entries_of old.shared.history.items ++ Begun tx ∷ [] = ap entries_of begun.items ∙ entries_of-append old.shared.history.items (TraceItem.Begin tx ∷ []) in
          (base, refl, subst (λ (es : List (Entry (ObjOp × ObjReply))). IsHistory Step empty_base es base) (sym same) grown);
      keeps = (ap committed_by begun.items ∙ commits_none old.shared.history.items (TraceItem.Begin tx) tt, ap (λ (n : ManagerFields P). n.commits) begun.rest);
    }

  -- why no transaction begins where none is open
  begin_can_mark : (m : ManagerFields P) (reason : Refusal) → IsAtRest bits_of m → IsCauseAtBegin reason m → CanMark reason
  begin_can_mark m Refusal.TooManyOpen rest full =
      let empty : m.txs ≡ map.empty = map.same_map nat_cmp_total map.nat_cmp-IsAntisymmetric m.txs map.empty (λ i. rest.nobody i ∙ sym (map.get-empty {X = Transaction} nat_cmp i)) in
      let none : map.len m.txs ≡ 0 = ap map.len empty ∙ map.len-empty nat_cmp Transaction in
      absurd (omega (arith, none, full, rest.limit))
  begin_can_mark m Refusal.IdsSpent rest cause = tt
  begin_can_mark m Refusal.OutOfMemory rest cause = tt
  begin_can_mark m other rest none = absurd none

  -- **No transaction begins.**
  pub run_not_begun : (s : ScriptForm) (old new : ManagerFields P) (tx : ℕ) (t : Transcript) (reason : Refusal) → tx ≡ 0 → t ≡ [] → IsAtRest bits_of old
      → IsCauseAtBegin reason (counted old) × (new ≡ counted old) → IsAtRest bits_of new × HasRunScript bits_of s old new tx t (Refused reason)
  run_not_begun s old new tx t reason nobody nothing rest a = (
    subst (IsAtRest bits_of) (sym a.1) (counted_rest old rest),
    record {
      leads = λ base leads.
          let here : HasBase new base = subst (λ (n : ManagerFields P). HasBase n base) (sym a.1) leads in
          let partial : IsPartial s t = subst (IsPartial s) (sym nothing) (is_partial s [] (questions_of_script s) refl) in
          let runs : TranscriptLeads base t base = subst (λ (u : Transcript). TranscriptLeads base u base) (sym nothing) refl in
          (base, here, (partial, (base, runs), refl, ap (λ (n : ManagerFields P). n.commits) a.1));
      exchanges = (Event.Begin, Told.Refused reason) ∷ [];
      told = inl (record { nobody = nobody; nothing = nothing; events = refl });
      run = (new, a, refl);
      can = begin_can_mark (counted old) reason (counted_rest old rest) a.0;
    },
  )
