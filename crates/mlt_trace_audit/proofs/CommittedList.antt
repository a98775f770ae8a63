-- The committed list of a history, and the committed outcomes.
use Rattle.std.proofs.Common.{◌≡◌, ◌≢◌, ℕ, ◌+◌, ◌≤◌, List, [], ◌∷◌, ◌++◌, length, cond, Contains, refl, sym, ap, subst, ◌∙◌, inl, inr, append-nil, append_assoc, arith, ◌==◌, eq-eqb, ne_eqb}
use Rattle.mlt_trace_audit.proofs.Names.{cases_eq, nat_tests, All-contains, sum_by-cons, ObjOp, ObjReply, Lists, Running, Ended, contains-first, contains-later, contains-nothing, changed, TraceItem, Begin, Op, Back, Commit, Abort, begun_txs, ArePlaced, HasPlace, told, begun_stays, number_in, stage-other, told-push, runs_begun, Committed, Outcome, IsOnce, count_of, HasNothing, IsOfHistory, closing_by, closings_of, ops_of, ByCommit, first_or_later}
use Rattle.std.proofs.lemmas.List.Sums.{get_or-le-sum_by}
use Rattle.mlt_object_kinds.specs.Bases.{Base, Step, empty_base}
use Rattle.mlt_order.{specs.Histories.Stage.Fresh, specs.Runs.IsSerialBase, proofs.Growing.one_last, proofs.Tables.at_each}
use Rattle.mlt_trace.{specs.Numbers.commit_count, specs.Numbers.commit_numbers, proofs.ItemLaws.commits_counted, proofs.ItemLaws.no_commit}
use Rattle.mlt_trace_check.{specs.Traces.IsRunning, specs.Traces.IsWhole, proofs.Growing.last_one, proofs.Growing.transcript-other, proofs.Lasting.one_more, proofs.Standing.was_whole}
use Rattle.mlt_script_serial.specs.declared.outcome.End.{End}
use Rattle.mlt_trace_audit.specs.{Agreement.Agrees, Committed.AreCommittedOf, Committed.CommitFrom, Committed.IsBaseOfOutcomes, Committed.transcripts_of, Outcomes.IsClosedSo, Outcomes.IsWithoutTx}
use Rattle.mlt_trace_audit.proofs.Placed.{behind_commit, begun_in, closings_commit, closings_of-append, ops_of-append, ops_own, same_other, stage_at}

-- ---- what stands of a transaction of which nothing was taken back

-- what has ended was begun, and of any other transaction all that was done stands, where nothing was taken back
record Stands (items : List TraceItem) (tx : ℕ) : Type 0 where
  ended : (told items).stage tx ≡ Ended → Contains (begun_txs items) tx
  whole : IsWhole items tx → ((told items).stage tx ≡ Ended → ⊥) → (told items).transcripts tx ≡ ops_of tx items

not_ended : (items : List TraceItem) (tx : ℕ) → IsRunning items tx → (told items).stage tx ≡ Ended → ⊥
not_ended items tx runs ends = let f : Running ≡ Ended = sym runs ∙ ends in cc f

-- an item at the end that is no operation of the transaction
ops_past : (tx : ℕ) (items : List TraceItem) (item : TraceItem) → ops_of tx (item ∷ []) ≡ [] → ops_of tx (one_more items item) ≡ ops_of tx items
ops_past tx items item none = ops_of-append tx items (item ∷ []) ∙ ap (λ l. ops_of tx items ++ l) none ∙ append-nil (ops_of tx items)

others_stand : (items : List TraceItem) (item : TraceItem) (tx : ℕ) → tx ≢ number_in item → Stands items tx → Stands (one_more items item) tx
others_stand items item tx apart stands = record {
  ended = λ e. begun_stays items item tx (stands.ended (sym (stage-other items item tx apart) ∙ e));
  whole = λ whole going. transcript-other items item tx apart ∙ stands.whole (was_whole items item tx whole) (λ e. going (stage-other items item tx apart ∙ e))
      ∙ sym (ops_past tx items item (same_other tx item [] apart).ops);
}

own_stands : (items : List TraceItem) (item : TraceItem) → HasPlace items item → Stands items (number_in item) → Stands (one_more items item) (number_in item)
own_stands items (Begin tx) place stands = record {
  ended = λ e. absurd (not_ended (one_more items (Begin tx)) tx (stage_at items (Begin tx) tx Running (changed (told items).stage tx Running).0) e);
  whole = λ whole going. ap (λ (l : Lists (ObjOp × ObjReply)). l.transcripts tx) (told-push items (Begin tx))
      ∙ stands.whole (was_whole items (Begin tx) tx whole) (λ e. let low = place tx (stands.ended e) in omega (arith, low)) ∙ sym (ops_past tx items (Begin tx) refl);
}
own_stands items (Op tx done) place stands = record {
  ended = λ e. begun_stays items (Op tx done) tx (runs_begun items tx place.0);
  whole = λ whole going. ap (λ (l : Lists (ObjOp × ObjReply)). l.transcripts tx) (told-push items (Op tx done)) ∙ (changed (told items).transcripts tx _).0
      ∙ ap (λ l. l ++ done ∷ []) (stands.whole place.1 (not_ended items tx place.0))
      ∙ sym (ops_of-append tx items (Op tx done ∷ []) ∙ ap (λ l. ops_of tx items ++ l) (ops_own tx done []));
}
own_stands items (Back tx) place stands = record {
  ended = λ e. begun_stays items (Back tx) tx (runs_begun items tx place.0);
  whole = λ whole going. absurd (whole (last_one items (Back tx)));
}
own_stands items other place stands = record {
  ended = λ e. begun_stays items other (number_in other) (runs_begun items (number_in other) place.0);
  whole = λ whole going. absurd (going (stage_at items other (number_in other) Ended (changed (told items).stage (number_in other) Ended).0));
}

stands_more : (items : List TraceItem) (item : TraceItem) → HasPlace items item → ((tx : ℕ) → Stands items tx) → (tx : ℕ) → Stands (one_more items item) tx
stands_more items item place stands =
    at_each (number_in item) (Stands (one_more items item)) (own_stands items item place (stands (number_in item))) (λ tx apart. others_stand items item tx apart (stands tx))

stands_none : (tx : ℕ) → Stands [] tx
stands_none tx = record { ended = λ e. absurd (let f : Fresh ≡ Ended = e in cc f); whole = λ whole going. refl }

-- ---- outcomes by their numbers

-- an outcome that is there is counted
counted_there : (tx : ℕ) (outcomes : List Outcome) (o : Outcome) → Contains outcomes o → o.tx ≡ tx → 1 ≤ count_of tx outcomes
counted_there tx outcomes o h is =
    grind (arith, nat_tests, get_or-le-sum_by (λ (p : Outcome). cond (p.tx == tx) 1 0) outcomes h.0 o h.1, h.2)

outcome_behind : (tx : ℕ) (outcomes : List Outcome) → count_of tx outcomes ≡ 1
    → (o : Outcome) × Contains outcomes o × (o.tx ≡ tx) × ((p : Outcome) → Contains outcomes p → p.tx ≡ tx → o ≡ p)
outcome_behind tx [] one = absurd (omega (arith, one))
outcome_behind tx (x ∷ xs) one = let counts : Outcome → ℕ = λ p. cond (p.tx == tx) 1 0 in elim (cases_eq x.tx tx) [
  | inl own ↦ (
    x,
    contains-first x xs,
    own,
    λ p h is. elim (first_or_later x xs p h) [
      | inl first ↦ first
      | inr later ↦ absurd (grind (arith, nat_tests, one, own, sum_by-cons counts x xs, counted_there tx xs p later is))
    ],
  )
  | inr apart ↦
      let rest = outcome_behind tx xs (grind (arith, nat_tests, one, apart, sum_by-cons counts x xs)) in (
        rest.0,
        contains-later x rest.0 xs rest.1,
        rest.2,
        λ p h is. elim (first_or_later x xs p h) [
          | inl first ↦ absurd (apart (ap (λ (o : Outcome). o.tx) first ∙ is))
          | inr later ↦ rest.3 p later is
        ],
      )
]

-- ---- the committed outcomes, item by item

commit_end : (end : End) (number : ℕ) → ByCommit number ≡ closing_by end → end ≡ Committed number
commit_end (Committed n) number e = let same : number ≡ n = cc e in ap (λ k. Committed k) (sym same)
commit_end other number e = absurd (cc e)

-- what was closed by a commit has it
closed_there : (tx number : ℕ) (items : List TraceItem) → closings_of tx items ≡ ByCommit number ∷ [] → Contains items (Commit tx number)
closed_there tx number [] closed = absurd (cc closed)
closed_there tx number (Commit i n ∷ items) closed = elim (cases_eq i tx) [
  | inl own ↦
      let first = rw (eq-eqb i tx own) at closed in
      let is : Commit i n ≡ Commit tx number = cc (own, first) in
      subst (Contains (Commit i n ∷ items)) is (contains-first (Commit i n) items)
  | inr apart ↦ contains-later (Commit i n) (Commit tx number) items (closed_there tx number items (rw (ne_eqb i tx apart) at closed))
]
closed_there tx number (Abort i ∷ items) closed = elim (cases_eq i tx) [
  | inl own ↦ absurd (let first = rw (eq-eqb i tx own) at closed in cc first)
  | inr apart ↦ contains-later (Abort i) (Commit tx number) items (closed_there tx number items (rw (ne_eqb i tx apart) at closed))
]
closed_there tx number (other ∷ items) closed = contains-later other (Commit tx number) items (closed_there tx number items closed)

-- the outcomes of the commits in the later items, in their order
record Gathers (outcomes : List Outcome) (whole items later : List TraceItem) (ordered : List Outcome) : Type 0 where
  counted : CommitFrom (commit_count items + 1) ordered
  committed : (told whole).committed ≡ (told items).committed ++ transcripts_of ordered
  among : (o : Outcome) → Contains ordered o → Contains outcomes o
  all : (o : Outcome) (number : ℕ) → Contains outcomes o → Contains later (Commit o.tx number) → Contains ordered o

module _ (outcomes : List Outcome) (whole : List TraceItem) (placed : ArePlaced whole) (agrees : Agrees outcomes whole) where
  module _ (items later : List TraceItem) where
    -- an item that is no commit
    gathers_other : (item : TraceItem) (ordered : List Outcome) → Gathers outcomes whole (one_more items item) later ordered → commit_numbers (item ∷ []) ≡ []
        → (told (one_more items item)).committed ≡ (told items).committed → ((tx number : ℕ) → item ≢ Commit tx number) → Gathers outcomes whole items (item ∷ later) ordered
    gathers_other item ordered rest none same other = record {
      counted = subst (λ n. CommitFrom (n + 1) ordered) (ap length (no_commit items item none)) rest.counted;
      committed = rest.committed ∙ ap (λ l. l ++ transcripts_of ordered) same;
      among = rest.among;
      all = λ o number there h. elim (first_or_later item later (Commit o.tx number) h) [ inl first ↦ absurd (other o.tx number first) | inr behind ↦ rest.all o number there behind ];
    }

    module _ (tx number : ℕ) (cut : whole ≡ items ++ Commit tx number ∷ later) (stands : Stands items tx) where
      place : HasPlace items (Commit tx number)
      place = placed items later (Commit tx number) cut

      once : IsOnce outcomes tx
      once = agrees.of_history.0.once tx (begun_in items (Commit tx number ∷ later) whole tx cut (runs_begun items tx place.0))

      outcome : (o : Outcome) × Contains outcomes o × (o.tx ≡ tx) × ((p : Outcome) → Contains outcomes p → p.tx ≡ tx → o ≡ p)
      outcome = outcome_behind tx outcomes once.1

      story : IsClosedSo tx outcome.0.done outcome.0.end whole
      story =
          let there : outcome.0.tx ≢ 0 = λ e. once.0 (sym outcome.2 ∙ e) in
          subst (λ n. IsClosedSo n outcome.0.done outcome.0.end whole) outcome.2 (All-contains (IsOfHistory whole) outcomes outcome.0 agrees.of_history.1 outcome.1 there)

      none : HasNothing tx later
      none = behind_commit items later whole tx number placed cut

      ends : outcome.0.end ≡ Committed number
      ends =
          let closings : closings_of tx whole ≡ closings_of tx items ++ ByCommit number ∷ [] =
          ap (closings_of tx) cut ∙ closings_of-append tx items (Commit tx number ∷ later)
          ∙ ap (λ l. closings_of tx items ++ l) (closings_commit tx number later ∙ ap (λ l. ByCommit number ∷ l) none.closed) in
          commit_end outcome.0.end number (one_last (closings_of tx items) [] (ByCommit number) (closing_by outcome.0.end) (sym closings ∙ story.closed))

      stood : (told items).transcripts tx ≡ outcome.0.done
      stood =
          let ops : ops_of tx whole ≡ ops_of tx items =
          ap (ops_of tx) cut ∙ ops_of-append tx items (Commit tx number ∷ later) ∙ ap (λ l. ops_of tx items ++ l) none.ops ∙ append-nil (ops_of tx items) in
          stands.whole place.1 (not_ended items tx place.0) ∙ sym ops ∙ story.ops

      gathers_commit : (ordered : List Outcome) → Gathers outcomes whole (one_more items (Commit tx number)) later ordered
          → Gathers outcomes whole items (Commit tx number ∷ later) (outcome.0 ∷ ordered)
      gathers_commit ordered rest = record {
        counted = (ends ∙ ap (λ n. Committed n) place.2, subst (λ n. CommitFrom (n + 1) ordered) (commits_counted items tx number) rest.counted);
        committed = rest.committed
            ∙ ap (λ l. l ++ transcripts_of ordered) (ap (λ (l : Lists (ObjOp × ObjReply)). l.committed) (told-push items (Commit tx number)) ∙ ap (λ t. (told items).committed ++ t ∷ []) stood)
            ∙ append_assoc (told items).committed (outcome.0.done ∷ []) (transcripts_of ordered);
        among = λ o h. elim (first_or_later outcome.0 ordered o h) [ inl first ↦ subst (Contains outcomes) first outcome.1 | inr behind ↦ rest.among o behind ];
        all = λ o n there h. elim (first_or_later (Commit tx number) later (Commit o.tx n) h) [
          | inl first ↦ let own : tx ≡ o.tx = cc first in subst (Contains (outcome.0 ∷ ordered)) (outcome.3 o there (sym own)) (contains-first outcome.0 ordered)
          | inr behind ↦ contains-later outcome.0 o ordered (rest.all o n there behind)
        ];
      }

  gathers_item : (items later : List TraceItem) (item : TraceItem) → whole ≡ items ++ item ∷ later → ((tx : ℕ) → Stands items tx)
      → (ordered : List Outcome) × Gathers outcomes whole (one_more items item) later ordered → (ordered : List Outcome) × Gathers outcomes whole items (item ∷ later) ordered
  gathers_item items later (Commit tx number) cut stands rest =
      ((outcome items later tx number cut (stands tx)).0 ∷ rest.0, gathers_commit items later tx number cut (stands tx) rest.0 rest.1)
  gathers_item items later other cut stands rest =
      (rest.0, gathers_other items later other rest.0 rest.1 refl (ap (λ (l : Lists (ObjOp × ObjReply)). l.committed) (told-push items other)) (λ tx number e. cc e))

  gathered : (later items : List TraceItem) → whole ≡ items ++ later → ((tx : ℕ) → Stands items tx) → (ordered : List Outcome) × Gathers outcomes whole items later ordered
  gathered [] items cut stands = (
    [],
    record {
      counted = tt;
      committed = ap (λ is. (told is).committed) (cut ∙ append-nil items) ∙ sym (append-nil (told items).committed);
      among = λ o h. absurd (contains-nothing o h);
      all = λ o number there h. absurd (contains-nothing (Commit o.tx number) h);
    },
  )
  gathered (item ∷ later) items cut stands =
      gathers_item items later item cut stands (gathered later (one_more items item) (cut ∙ sym (append_assoc items (item ∷ []) later)) (stands_more items item (placed items later item cut) stands))

  pub committed_outcomes : (ordered : List Outcome) × AreCommittedOf outcomes ordered × (transcripts_of ordered ≡ (told whole).committed)
  committed_outcomes =
      let all = gathered whole [] refl stands_none in (
        all.0,
        record {
          all = λ o there committed.
              let some : o.tx ≢ 0 = λ none. cc ((All-contains IsWithoutTx outcomes o agrees.without_tx there none).refused.1, committed.1) in
              let told_so = All-contains (IsOfHistory whole) outcomes o agrees.of_history.1 there some in
              all.1.all o committed.0 there (closed_there o.tx committed.0 whole (told_so.closed ∙ ap (λ end. closing_by end ∷ []) committed.1));
          no_others = all.1.among;
          counted = all.1.counted;
        },
        sym all.1.committed,
      )

  pub base_of_outcomes : (base : Base) → IsSerialBase Step empty_base (told whole).committed base → IsBaseOfOutcomes outcomes base
  base_of_outcomes base serial =
      let all = committed_outcomes in
      (all.0, all.1, subst (λ l. IsSerialBase Step empty_base l base) (sym all.2) serial)
