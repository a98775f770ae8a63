-- Each kind of step keeps the rule.
use Rattle.std.proofs.Common.{◌≡◌, ◌≢◌, ℕ, ◌+◌, zero, suc, cond, ◌==◌, List, [], ◌∷◌, ◌++◌, set, sum_by, true, refl, sym, ap, arith, ◌∙◌, subst, ⊎_elim, append_assoc, append-nil}
use Rattle.std.proofs.lemmas.{Bool.false≢true, List.Sums.sum_by-append, List.Sums.sum_by-cons}
use mathlib.Core.Option.{some, some-injective, some-ne-none}
use lib.ListN.{get_elem?}
use Rattle.atomic_table.specs.Table.{State, Me, Allows, Splits, Joins}
use Rattle.atomic_table.{specs.Table.Act.keeps, proofs.Lists.at_set, proofs.Lists.at_snoc, proofs.Lists.set_else}
use Rattle.mlt_trace.specs.Numbers.{begun_txs}
use Rattle.mlt_work_desk.specs.declared.log_handles.{LogView.LogView, Past.Past}
use Rattle.mlt_work_desk.specs.Prefixes.{AreKept, HasBegunWith, HasCounted, HasGrown, Knows, StartsWith, after_gathering, after_join, first_view, no_past, snapshot_view, spent_view, times, view, without_begun, writer_view}

itself : {A : Type 0} (xs : List A) → StartsWith xs xs
itself xs = ([], sym (append-nil xs))

further : {A : Type 0} (xs between first : List A) → StartsWith xs between → StartsWith between first → StartsWith xs first
further xs between first (more, is) (rest, was) = (rest ++ more, (is ∙ ap (λ ys. ys ++ more) was ∙ append_assoc first rest more))

begun_with_itself : (past : Past) → HasBegunWith past past
begun_with_itself past = record { acts = itself past.acts; items = itself past.items }

begun_with_none : (past : Past) → HasBegunWith past no_past
begun_with_none past = record { acts = (past.acts, refl); items = (past.items, refl) }

begun_with_first : (past between first : Past) → HasBegunWith past between → HasBegunWith between first → HasBegunWith past first
begun_with_first past between first p q = record { acts = further _ _ _ p.acts q.acts; items = further _ _ _ p.items q.items }

-- ---- how often transactions were begun

pub times_append : (tx : ℕ) (xs ys : List ℕ) → times tx (xs ++ ys) ≡ times tx xs + times tx ys
times_append tx xs ys = sum_by-append (λ x. cond (x == tx) 1 0) xs ys

abbrev times_of_all : ℕ → List LogView → ℕ
times_of_all tx views = sum_by (λ v. times tx v.begun) views

module _ (tx : ℕ) where
  abbrev of_view : LogView → ℕ
  of_view v = times tx v.begun

  -- the sum over all handles, after a change of one, and with a new one
  all_set : (views : List LogView) (seat : ℕ) (v w : LogView) → get_elem? views seat ≡ some v → times_of_all tx (set views seat w) + of_view v ≡ times_of_all tx views + of_view w
  all_set [] seat v w at = absurd (some-ne-none v (sym at))
  all_set (x ∷ xs) zero v w at =
      let same : of_view x ≡ of_view v = ap of_view (some-injective x v at) in
      let one = sum_by-cons of_view x xs in
      let other = sum_by-cons of_view w xs in
      omega (arith, same, one, other)
  all_set (x ∷ xs) (suc seat) v w at =
      let rest = all_set xs seat v w at in
      let one = sum_by-cons of_view x xs in
      let other = sum_by-cons of_view x (set xs seat w) in
      omega (arith, rest, one, other)

  all_with : (views : List LogView) (w : LogView) → times_of_all tx (views ++ w ∷ []) ≡ times_of_all tx views + of_view w
  all_with views w =
      let one = sum_by-append of_view views (w ∷ []) in
      let last = sum_by-cons of_view w [] in
      omega (arith, one, last)

-- ---- what each handle knows

-- what each handle knows, after a change of one
each_set : (past : Past) (writer : ℕ) (views : List LogView) (seat : ℕ) (w : LogView) → Knows past writer seat w
    → ((j : ℕ) (u : LogView) → j ≢ seat → get_elem? views j ≡ some u → Knows past writer j u)
    → (j : ℕ) (u : LogView) → get_elem? (set views seat w) j ≡ some u → Knows past writer j u
each_set past writer views seat w mine others j u e =
    ⊎_elim (λ (x : (j ≡ seat) × (w ≡ u)). subst (Knows past writer j) x.1 (subst (λ k. Knows past writer k w) (sym x.0) mine))
    (λ (x : (j ≢ seat) × (get_elem? views j ≡ some u)). others j u x.0 x.1) (at_set views seat j w u e)

knows_none : (past : Past) (writer seat : ℕ) → Knows past writer seat spent_view
knows_none past writer seat = record { first = begun_with_none past; taken = begun_with_none past; all = λ writes. absurd (false≢true writes) }

-- the past grows
pub grows : (past : Past) (begun : List ℕ) (slots seat : ℕ) (me : Me (Unit {0}) LogView) → me.0.writes ≡ true → HasBegunWith past me.0.past
    → begun_txs past.items ≡ begun_txs me.0.past.items ++ begun
    → Allows (λ (s : State (Unit {0}) LogView). AreKept s.views) slots seat me 0 (λ n. n) (λ n after. HasGrown past begun me.0 after.0 × (after.1 ≡ me.1))
grows past begun slots seat me writes more begins s (all, writer, each, counted) homes at small =
    let mine = each seat me.0 at in
    let mine_all = mine.all writes in
    let longer : HasBegunWith past all = subst (HasBegunWith past) mine_all.1 more in
    let now = view true past no_past (me.0.begun ++ begun) in (
      now,
      keeps,
      tt,
      (
        past,
        writer,
        each_set past writer s.views seat now (record { first = begun_with_itself past; taken = begun_with_none past; all = λ _. (mine_all.0, refl) })
            (λ j u other there.
            let was = each j u there in
            record {
              first = begun_with_first past all u.past longer was.first;
              taken = begun_with_first past all u.taken longer was.taken;
              all = λ writes. absurd (other ((was.all writes).0 ∙ sym mine_all.0));
            }),
        λ tx.
            let changed = all_set tx s.views seat me.0 now at in
            let had = counted tx in
            let both = times_append tx me.0.begun begun in
            let same : times tx (begun_txs me.0.past.items) ≡ times tx (begun_txs all.items) = ap (λ (p : Past). times tx (begun_txs p.items)) mine_all.1 in
            let more : times tx (begun_txs past.items) ≡ times tx (begun_txs me.0.past.items) + times tx begun = ap (times tx) begins ∙ times_append tx (begun_txs me.0.past.items) begun in
            omega (arith, changed, had, both, same, more),
      ),
      ((refl, subst (λ xs. HasBegunWith xs me.0.taken) (sym mine_all.1) mine.taken), refl),
    )

-- what the writer has taken in was begun no more often than the past has it
pub counts : (slots seat : ℕ) (me : Me (Unit {0}) LogView) → me.0.writes ≡ true
    → Allows (λ (s : State (Unit {0}) LogView). AreKept s.views) slots seat me 0 (λ n. n) (λ n after. HasCounted me.0 after.0 × (after.1 ≡ me.1))
counts slots seat me writes s (all, writer, each, counted) homes at small =
    let mine = each seat me.0 at in
    let mine_all = mine.all writes in
    let now = writer_view me.0.past in (
      now,
      keeps,
      tt,
      (
        all,
        writer,
        each_set all writer s.views seat now (record { first = mine.first; taken = begun_with_none all; all = λ _. mine_all }) (λ j u _ there. each j u there),
        λ tx.
            let changed = all_set tx s.views seat me.0 now at in
            let had = counted tx in
            omega (arith, changed, had),
      ),
      (
        (
          refl,
          λ tx.
              let changed = all_set tx s.views seat me.0 now at in
              let had = counted tx in
              let same : times tx (begun_txs me.0.past.items) ≡ times tx (begun_txs all.items) = ap (λ (p : Past). times tx (begun_txs p.items)) mine_all.1 in
              omega (arith, changed, had, same),
        ),
        refl,
      ),
    )

-- a snapshot is made of what a handle knows, and has some of what that has begun
splits_so : (seat : ℕ) (v left : LogView) (begun : List ℕ) → ((past : Past) (writer : ℕ) → Knows past writer seat v → Knows past writer seat left)
    → ((tx : ℕ) → times tx left.begun + times tx begun ≡ times tx v.begun)
    → Splits (λ (s : State (Unit {0}) LogView). AreKept s.views) seat v left (snapshot_view v.past begun)
splits_so seat v left begun knows parts s (all, writer, each, counted) at =
    let mine = each seat v at in (
      all,
      writer,
      λ j u e.
          ⊎_elim (λ there. each_set all writer s.views seat left (knows all writer mine) (λ k w _ is. each k w is) j u there)
          (λ (is : snapshot_view v.past begun ≡ u).
          subst (Knows all writer j) is (record { first = mine.first; taken = begun_with_none all; all = λ writes. absurd (false≢true writes) }))
          (at_snoc (set s.views seat left) (snapshot_view v.past begun) u j e),
      λ tx.
          let changed = all_set tx s.views seat v left at in
          let one_more = all_with tx (set s.views seat left) (snapshot_view v.past begun) in
          let had = counted tx in
          let same = parts tx in
          omega (arith, changed, one_more, had, same),
    )

pub splits : (seat : ℕ) (v : LogView) → Splits (λ (s : State (Unit {0}) LogView). AreKept s.views) seat v v (snapshot_view v.past [])
splits seat v = splits_so seat v v [] (λ past writer mine. mine) (λ tx. omega arith)

pub hands_over : (seat : ℕ) (v : LogView) → Splits (λ (s : State (Unit {0}) LogView). AreKept s.views) seat v (without_begun v) (snapshot_view v.past v.begun)
hands_over seat v = splits_so seat v (without_begun v) v.begun (λ past writer mine. record { first = mine.first; taken = mine.taken; all = mine.all }) (λ tx. omega arith)

-- a snapshot is taken in
joins_so : (seat other : ℕ) (v w both : LogView) → ((past : Past) (writer : ℕ) → Knows past writer seat v → Knows past writer other w → Knows past writer seat both)
    → both.begun ≡ v.begun ++ w.begun
    → Joins (λ (s : State (Unit {0}) LogView). AreKept s.views) seat v other w both spent_view
joins_so seat other v w both knows begun s (all, writer, each, counted) at apart at_other =
    let mine = each seat v at in
    let theirs = each other w (sym (set_else s.views seat other both apart) ∙ at_other) in (
      all,
      writer,
      each_set all writer (set s.views seat both) other spent_view (knows_none all writer other)
          (λ j u _ there. each_set all writer s.views seat both (knows all writer mine theirs) (λ k x _ is. each k x is) j u there),
      λ tx.
          let first = all_set tx s.views seat v both at in
          let second = all_set tx (set s.views seat both) other w spent_view at_other in
          let sum : times tx both.begun ≡ times tx v.begun + times tx w.begun = ap (times tx) begun ∙ times_append tx v.begun w.begun in
          let had = counted tx in
          omega (arith, first, second, sum, had),
    )

pub joins : (seat other : ℕ) (v w : LogView) → Joins (λ (s : State (Unit {0}) LogView). AreKept s.views) seat v other w (after_join v w) spent_view
joins seat other v w = joins_so seat other v w (after_join v w) (λ past writer mine theirs. record { first = mine.first; taken = theirs.first; all = mine.all }) refl

pub gathers : (seat other : ℕ) (v w : LogView) → Joins (λ (s : State (Unit {0}) LogView). AreKept s.views) seat v other w (after_gathering v w) spent_view
gathers seat other v w = joins_so seat other v w (after_gathering v w) (λ past writer mine theirs. record { first = mine.first; taken = mine.taken; all = mine.all }) refl

-- the first handle is the writer's, of no past
first_is : (u : LogView) → some first_view ≡ some u → first_view ≡ u
first_is u is = some-injective first_view u is

first_knows : (j : ℕ) (u : LogView) → get_elem? (first_view ∷ []) j ≡ some u → Knows no_past 0 j u
first_knows zero u is = subst (Knows no_past 0 0) (first_is u is) (record { first = begun_with_none no_past; taken = begun_with_none no_past; all = λ _. (refl, refl) })
first_knows (suc j) u is = absurd (some-ne-none u (sym is))

pub begins : AreKept (first_view ∷ [])
begins = (no_past, 0, first_knows, λ tx. omega arith)
