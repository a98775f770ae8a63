-- Each transaction of a history has one outcome, and its close is what that says.
use Rattle.std.proofs.Common.{◌≡◌, ◌≢◌, ◌==◌, ◌⊎◌, ℕ, ◌+◌, ◌<◌, ◌≤◌, zero, suc, cond, List, [], ◌∷◌, length, get_or, Contains, refl, sym, ap, subst, ◌∙◌, inl, inr, arith}
use Rattle.std.proofs.lemmas.{Bool.cases_eq, Grind.merely, List.Sums.sum_by-cons, List.length-map}
use mathlib.Core.Logic.{∥∥₁_elim, ∥∥₁_map}
use Rattle.mlt_script_serial.specs.declared.outcome.End.{End}
use Rattle.mlt_order.proofs.{RunLemmas.contains-first, RunLemmas.contains-later, RunLemmas.contains-nothing, Tables.changed}
use Rattle.mlt_order.specs.Histories.{Lists, Stage, Stage.Running, after_entries, no_lists}
use Rattle.mlt_object_kinds.specs.declared.operation.{ObjOp.ObjOp, ObjReply.ObjReply}
use Rattle.mlt_trace.specs.{Entries.entries_of, Numbers.AreBegunInOrder, Numbers.begin_count, Numbers.begun_txs, Numbers.commit_count, Numbers.committed_txs}
use Rattle.mlt_trace.proofs.{BegunLaws.first_or_later, ItemLaws.committed_txs_counted}
use Rattle.mlt_trace.specs.declared.item.TraceItem.TheVariants.{Begin, Op, Back, Commit, Abort}
use Rattle.mlt_trace_audit.specs.Agreement.{NumbersAgree, count_of}
use Rattle.mlt_trace_check.specs.Traces.{told}
use Rattle.mlt_serve_session.specs.Tallies.{commits_by, commits_told}
use Rattle.mlt_work_desk.specs.Prefixes.{times}
use Rattle.mlt_serve.proofs.Names.{TraceItem, Outcome, TellsOutcomes}
use Rattle.mlt_serve.proofs.Counting.{as_often, count_same, counted_at, in_list, none_below, of_list, once_counted, times_of, times_other}
use Rattle.mlt_serve.specs.{Tellings.HasClose, Tellings.HaveBegun, Tellings.HaveCloses, Tellings.TellsAll, Tellings.TellsEnd, Tellings.txs_of}

-- ---- what becomes of a transaction that has begun

abbrev OfHistory : Type 0
OfHistory = Lists (ObjOp × ObjReply)

-- a commit or an abort of it stands there
abbrev IsClosed : ℕ → List TraceItem → Type 0
IsClosed tx items = Contains (committed_txs items) tx ⊎ Contains items (Abort tx)

module _ (tx : ℕ) where
  abbrev RunsOrClosed : OfHistory → List TraceItem → Type 0
  RunsOrClosed lists items = ((after_entries lists (entries_of items)).stage tx ≡ Running) ⊎ IsClosed tx items

  in_front : (lists : OfHistory) (item : TraceItem) (items : List TraceItem) → committed_txs (item ∷ items) ≡ committed_txs items
      → RunsOrClosed lists items → ((after_entries lists (entries_of items)).stage tx ≡ Running) ⊎ IsClosed tx (item ∷ items)
  in_front lists item items same (inl runs) = inl runs
  in_front lists item items same (inr (inl commits)) = inr (inl (subst (λ ns. Contains ns tx) (sym same) commits))
  in_front lists item items same (inr (inr aborts)) = inr (inr (contains-later item (Abort tx) items aborts))

  -- from where it runs
  runs_on : (items : List TraceItem) (lists : OfHistory) → lists.stage tx ≡ Running → RunsOrClosed lists items
  runs_on [] lists runs = inl runs
  runs_on (Begin i ∷ items) lists runs = elim (cases_eq tx i) [
    | inl is ↦ in_front _ (Begin i) items refl (runs_on items _ (subst (λ k. (after_entries lists (entries_of (Begin i ∷ []))).stage k ≡ Running) (sym is) (changed lists.stage i Running).0))
    | inr apart ↦ in_front _ (Begin i) items refl (runs_on items _ ((changed lists.stage i Running).1 tx apart ∙ runs))
  ]
  runs_on (Op i done ∷ items) lists runs = in_front _ (Op i done) items refl (runs_on items _ runs)
  runs_on (Back i ∷ items) lists runs = in_front _ (Back i) items refl (runs_on items _ runs)
  runs_on (Commit i n ∷ items) lists runs = elim (cases_eq tx i) [
    | inl is ↦ inr (inl (subst (λ k. Contains (i ∷ committed_txs items) k) (sym is) (contains-first i (committed_txs items))))
    | inr apart ↦ elim (runs_on items _ ((changed lists.stage i Stage.Ended).1 tx apart ∙ runs)) [
      | inl on ↦ inl on
      | inr (inl commits) ↦ inr (inl (contains-later i tx (committed_txs items) commits))
      | inr (inr aborts) ↦ inr (inr (contains-later (Commit i n) (Abort tx) items aborts))
    ]
  ]
  runs_on (Abort i ∷ items) lists runs = elim (cases_eq tx i) [
    | inl is ↦ inr (inr (subst (λ k. Contains (Abort i ∷ items) (Abort k)) (sym is) (contains-first (Abort i) items)))
    | inr apart ↦ in_front _ (Abort i) items refl (runs_on items _ ((changed lists.stage i Stage.Ended).1 tx apart ∙ runs))
  ]

  -- from its begin
  from_begin : (items : List TraceItem) (lists : OfHistory) → Contains (begun_txs items) tx → RunsOrClosed lists items
  from_begin [] lists h = absurd (contains-nothing tx h)
  from_begin (Begin i ∷ items) lists h = elim (first_or_later i (begun_txs items) tx h) [
    | inl is ↦ in_front _ (Begin i) items refl (runs_on items _ (subst (λ k. (after_entries lists (entries_of (Begin i ∷ []))).stage k ≡ Running) is (changed lists.stage i Running).0))
    | inr later ↦ in_front _ (Begin i) items refl (from_begin items _ later)
  ]
  from_begin (Op i done ∷ items) lists h = in_front _ (Op i done) items refl (from_begin items _ h)
  from_begin (Back i ∷ items) lists h = in_front _ (Back i) items refl (from_begin items _ h)
  from_begin (Commit i n ∷ items) lists h = elim (from_begin items _ h) [
    | inl on ↦ inl on
    | inr (inl commits) ↦ inr (inl (contains-later i tx (committed_txs items) commits))
    | inr (inr aborts) ↦ inr (inr (contains-later (Commit i n) (Abort tx) items aborts))
  ]
  from_begin (Abort i ∷ items) lists h = in_front _ (Abort i) items refl (from_begin items _ h)

-- ---- outcomes that committed

-- the transactions of the outcomes that are commits
abbrev add_commit : ℕ → End → List ℕ → List ℕ
add_commit tx (End.Committed n) rest = tx ∷ rest
add_commit tx End.Aborted rest = rest
add_commit tx (End.Refused r) rest = rest

abbrev commits_of : List Outcome → List ℕ
commits_of [] = []
commits_of (o ∷ os) = add_commit o.tx o.end (commits_of os)

long_one : (tx : ℕ) (e : End) (rest : List ℕ) → length (add_commit tx e rest) ≡ commits_by e + length rest
long_one tx (End.Committed n) rest = omega arith
long_one tx End.Aborted rest = omega arith
long_one tx (End.Refused r) rest = omega arith

without_commit : (tx : ℕ) (e : End) (rest : List ℕ) → commits_by e ≡ 0 → add_commit tx e rest ≡ rest
without_commit tx (End.Committed n) rest none = absurd (omega (arith, none))
without_commit tx End.Aborted rest none = refl
without_commit tx (End.Refused r) rest none = refl

one_within : (tx more : ℕ) (o : Outcome) (os : List Outcome) (e : End) (rest : List ℕ) → times tx rest + more ≤ count_of tx os → times tx (add_commit o.tx e rest) + more ≤ count_of tx (o ∷ os)
one_within tx more o os (End.Committed n) rest had =
    let a = sum_by-cons (λ x. cond (x == tx) 1 0) o.tx rest in
    let b = sum_by-cons (λ (x : Outcome). cond (x.tx == tx) 1 0) o os in
    omega (arith, had, a, b)
one_within tx more o os End.Aborted rest had = let b = sum_by-cons (λ (x : Outcome). cond (x.tx == tx) 1 0) o os in omega (arith, had, b)
one_within tx more o os (End.Refused r) rest had = let b = sum_by-cons (λ (x : Outcome). cond (x.tx == tx) 1 0) o os in omega (arith, had, b)

-- a transaction of which there is a commit is that of an outcome which is one
one_told : (tx : ℕ) (o : Outcome) (e : End) (rest others : List ℕ) → (commits_by e ≡ 1 → 0 < times o.tx others) → (0 < times tx rest → 0 < times tx others)
    → 0 < times tx (add_commit o.tx e rest) → 0 < times tx others
one_told tx o (End.Committed n) rest others own later some = elim (cases_eq o.tx tx) [
  | inl is ↦ subst (λ x. 0 < times x others) is (own refl)
  | inr apart ↦ let one = times_other tx o.tx rest apart in later (omega (arith, some, one))
]
one_told tx o End.Aborted rest others own later some = later some
one_told tx o (End.Refused r) rest others own later some = later some

as_many : (os : List Outcome) → length (commits_of os) ≡ commits_told os
as_many [] = refl
as_many (o ∷ os) =
    let one = long_one o.tx o.end (commits_of os) in
    let rest = as_many os in
    let sum = sum_by-cons (λ (x : Outcome). commits_by x.end) o os in
    omega (arith, one, rest, sum)

within : (tx : ℕ) (os : List Outcome) → times tx (commits_of os) ≤ count_of tx os
within tx [] = omega arith
within tx (o ∷ os) =
    let had = within tx os in
    let one = one_within tx 0 o os o.end (commits_of os) (omega (arith, had)) in
    omega (arith, one)

-- an outcome that is no commit is one more
no_commit : (os : List Outcome) (k : ℕ) (d : Outcome) → k < length os → commits_by (get_or os k d).end ≡ 0
    → times (get_or os k d).tx (commits_of os) + 1 ≤ count_of (get_or os k d).tx os
no_commit [] k d inside none = absurd (omega (arith, inside))
no_commit (o ∷ os) zero d inside none =
    let same = ap (times o.tx) (without_commit o.tx o.end (commits_of os) none) in
    let had = within o.tx os in
    let one = count_same o.tx o os refl in
    omega (arith, same, had, one)
no_commit (o ∷ os) (suc k) d inside none =
    one_within (get_or os k d).tx 1 o os o.end (commits_of os) (no_commit os k d (omega (arith, inside)) none)

all_told : (tx : ℕ) (os : List Outcome) (others : List ℕ) → ((k : ℕ) (d : Outcome) → k < length os → commits_by (get_or os k d).end ≡ 1 → 0 < times (get_or os k d).tx others)
    → 0 < times tx (commits_of os) → 0 < times tx others
all_told tx [] others each some = absurd (omega (arith, some))
all_told tx (o ∷ os) others each some =
    one_told tx o o.end (commits_of os) others (each 0 o (omega arith)) (all_told tx os others (λ k d inside. each (suc k) d (omega (arith, inside)))) some

-- a commit of the history
commits_there : (items : List TraceItem) (tx n : ℕ) → Contains items (Commit tx n) → Contains (committed_txs items) tx
commits_there [] tx n h = absurd (contains-nothing (Commit tx n) h)
commits_there (Begin i ∷ items) tx n h = elim (first_or_later (Begin i) items (Commit tx n) h) [ inl e ↦ absurd (cc e) | inr later ↦ commits_there items tx n later ]
commits_there (Op i done ∷ items) tx n h = elim (first_or_later (Op i done) items (Commit tx n) h) [ inl e ↦ absurd (cc e) | inr later ↦ commits_there items tx n later ]
commits_there (Back i ∷ items) tx n h = elim (first_or_later (Back i) items (Commit tx n) h) [ inl e ↦ absurd (cc e) | inr later ↦ commits_there items tx n later ]
commits_there (Abort i ∷ items) tx n h = elim (first_or_later (Abort i) items (Commit tx n) h) [ inl e ↦ absurd (cc e) | inr later ↦ commits_there items tx n later ]
commits_there (Commit i m ∷ items) tx n h = elim (first_or_later (Commit i m) items (Commit tx n) h) [
  | inl e ↦ let is : i ≡ tx = cc e in subst (λ k. Contains (i ∷ committed_txs items) k) is (contains-first i (committed_txs items))
  | inr later ↦ contains-later i tx (committed_txs items) (commits_there items tx n later)
]

nothing_is : (x y : ⊥) → x ≡ y
nothing_is x y = absurd x

-- ---- all outcomes of a history

module _ (items : List TraceItem) (outcomes : List Outcome) (order : AreBegunInOrder items) (begun : HaveBegun items outcomes) (all : length outcomes ≡ begin_count items) where
  few : (tx : ℕ) → count_of tx outcomes ≤ 1
  few tx = let had = begun tx in let one = once_counted tx (begun_txs items) 1 order in omega (arith, had, one)

  has_begun : (k : ℕ) (d : Outcome) → k < length outcomes → Contains (begun_txs items) (get_or outcomes k d).tx
  has_begun k d inside =
      let tx = (get_or outcomes k d).tx in
      let some = counted_at outcomes k d inside in
      let had = begun tx in
      in_list tx (begun_txs items) (omega (arith, some, had))

  -- **Each transaction that was begun has one outcome.**
  pub numbers_agree : NumbersAgree outcomes items
  numbers_agree = record {
    once = λ tx h.
        let some = of_list tx (begun_txs items) h in
        let often = as_often (txs_of outcomes) (begun_txs items) (λ x. let is = times_of x outcomes in let had = begun x in omega (arith, is, had)) (length-map outcomes (λ (o : Outcome). o.tx) ∙ all) tx in
        let is = times_of tx outcomes in
        let most = few tx in (
          λ zero_is. let none = none_below tx (begun_txs items) 1 order (omega (arith, zero_is)) in omega (arith, some, none),
          omega (arith, some, often, is, most),
        );
    begun = λ k d inside some. has_begun k d inside;
  }

  module _ (told_all : TellsOutcomes items outcomes) (commits : commits_told outcomes ≡ commit_count items) (none_runs : (tx : ℕ) → (told items).stage tx ≢ Running) where
    -- the commit of an outcome stands there
    commit_told : (k : ℕ) (d : Outcome) → k < length outcomes → (e : End) → (get_or outcomes k d).end ≡ e → commits_by e ≡ 1 → 0 < times (get_or outcomes k d).tx (committed_txs items)
    commit_told k d inside (End.Committed n) is one =
        let tx = (get_or outcomes k d).tx in
        elim (cases_eq (times tx (committed_txs items)) 0) [
          | inl none ↦ absurd (∥∥₁_elim (told_all k d inside) nothing_is (λ (tells : TellsAll items (get_or outcomes k d)).
              let some = of_list tx (committed_txs items) (commits_there items tx n (subst (TellsEnd items tx) is tells.end)) in omega (arith, none, some)))
          | inr some ↦ omega (arith, some)
        ]
    commit_told k d inside End.Aborted is one = absurd (omega (arith, one))
    commit_told k d inside (End.Refused r) is one = absurd (omega (arith, one))

    -- of a transaction whose outcome is no commit there is none
    no_commit_there : (k : ℕ) (d : Outcome) → k < length outcomes → commits_by (get_or outcomes k d).end ≡ 0 → Contains (committed_txs items) (get_or outcomes k d).tx → ⊥
    no_commit_there k d inside none h =
        let tx = (get_or outcomes k d).tx in
        let some = of_list tx (committed_txs items) h in
        let each : (x : ℕ) → times x (commits_of outcomes) ≤ times x (committed_txs items) = λ x.
        let most = few x in let low = within x outcomes in
        elim (cases_eq (times x (commits_of outcomes)) 0) [
          | inl zero_is ↦ omega (arith, zero_is)
          | inr more ↦
              let there = all_told x outcomes (committed_txs items) (λ j c at. commit_told j c at (get_or outcomes j c).end refl) (omega (arith, more)) in
              omega (arith, most, low, there)
        ] in
        let often = as_often (commits_of outcomes) (committed_txs items) each (as_many outcomes ∙ commits ∙ sym (committed_txs_counted items)) tx in
        let one = no_commit outcomes k d inside none in
        let most = few tx in
        omega (arith, some, often, one, most)

    aborts : (k : ℕ) (d : Outcome) → k < length outcomes → commits_by (get_or outcomes k d).end ≡ 0 → Contains items (Abort (get_or outcomes k d).tx)
    aborts k d inside none =
        let tx = (get_or outcomes k d).tx in
        elim (from_begin tx items no_lists (has_begun k d inside)) [
          | inl runs ↦ absurd (none_runs tx runs)
          | inr (inl commits_too) ↦ absurd (no_commit_there k d inside none commits_too)
          | inr (inr aborted) ↦ aborted
        ]

    close_of : (k : ℕ) (d : Outcome) → k < length outcomes → (e : End) → (get_or outcomes k d).end ≡ e → ∥ HasClose items (get_or outcomes k d).tx e ∥₁
    close_of k d inside (End.Committed n) is = ∥∥₁_map (told_all k d inside) (λ (tells : TellsAll items (get_or outcomes k d)). subst (TellsEnd items (get_or outcomes k d).tx) is tells.end)
    close_of k d inside End.Aborted is = merely (aborts k d inside (ap commits_by is))
    close_of k d inside (End.Refused r) is = merely (aborts k d inside (ap commits_by is))

    -- **The close of each outcome stands in the history.**
    pub have_closes : HaveCloses items outcomes
    have_closes k d inside = close_of k d inside (get_or outcomes k d).end refl
