-- What holders hold together: the set covers each of them.
use Rattle.std.proofs.lemmas.Bool.{cases_lt}
use Rattle.mlt_object_locks.proofs.Names.{zero, AllPairs-filter, nat_tests, position-Some, Contains-get_or, Contains-push_cases, Holder, InSet, Meets, AreOnce, HasBit, Grants, IsLowestInTheWay, Joins, holder_of, is_not_of, is_of}
use Rattle.std.proofs.Common.{◌≡◌, ◌≢◌, ◌≤◌, ◌⊎◌, ℕ, suc, ◌+◌, ◌<◌, List, [], ◌∷◌, ◌++◌, Option, None, Some, Contains, length, get_or, take, sym, subst, ◌∙◌, refl, inl, inr, arith, filter, position, remove}
use Rattle.mlt_object_locks.{specs.Classes.AddsItem, specs.Classes.IsUnion, specs.Holders.AreWithin, specs.Holders.Covers, proofs.Bits.none_in_set, proofs.Holding.is_it, proofs.Lowest.one_more, proofs.Membership.contains_filtered, proofs.Membership.none_in_empty, proofs.Membership.some_found}

-- fewer hold no more
pub covers_fewer : (set : ℕ) (old new : List Holder) → ((holder : Holder) → Contains new holder → Contains old holder) → Covers set old → Covers set new
covers_fewer set old new fewer covers = λ tx bit has. covers tx bit (has.0, fewer (holder_of tx has.0) has.1, has.2)

-- and one that comes holds nothing
pub covers_joined : (set : ℕ) (old new : List Holder) (tx : ℕ) → Joins old new tx → Covers set old → Covers set new
covers_joined set old new tx joins covers = λ u bit has. by u bit has (joins.only (holder_of u has.0) has.1)
  where
    by : (u bit : ℕ) (has : HasBit new u bit) → Contains old (holder_of u has.0) ⊎ (holder_of u has.0 ≡ holder_of tx 0) → InSet set bit
    by u bit has (inl there) = covers u bit (has.0, there, has.2)
    by u bit has (inr comes) = absurd (none_in_set bit (subst (λ (holder : Holder). InSet holder.classes bit) comes has.2))

pub covers_none : (set : ℕ) → Covers set []
covers_none set = λ tx bit has. absurd (none_in_empty (holder_of tx has.0) has.1)

-- one is granted something more
pub covers_granted : (set more classes before : ℕ) (old new : List Holder) (tx : ℕ) (bit : Option ℕ) → Grants old new tx bit → AddsItem before classes bit → IsUnion more set classes → Covers set old → Covers more new
covers_granted set more classes before old new tx bit grants adds union covers = λ u k has. by u k (grants.only u k has)
  where
    by : (u k : ℕ) → HasBit old u k ⊎ ((u ≡ tx) × (bit ≡ Some k)) → InSet more k
    by u k (inl had) = union.has_one k (covers u k had)
    by u k (inr got) = union.has_other k (adds.has k got.1)

-- the front of a list, with its next holder
pub covers_front : (holders : List Holder) (at : ℕ) (holder : Holder) (set more : ℕ) → at < length holders → get_or holders at holder ≡ holder → IsUnion more set holder.classes → Covers set (take at holders) → Covers more (take (at + 1) holders)
covers_front holders at holder set more within is union covers =
    subst (Covers more) (sym (one_more holders at holder within is)) (λ u k has. by u k has (Contains-push_cases (take at holders) holder (holder_of u has.0) has.1))
  where
    by : (u k : ℕ) (has : HasBit (take at holders ++ holder ∷ []) u k) → Contains (take at holders) (holder_of u has.0) ⊎ (holder ≡ holder_of u has.0) → InSet more k
    by u k has (inl there) = union.has_one k (covers u k (has.0, there, has.2))
    by u k has (inr own) = union.has_other k (subst (λ (h : Holder). InSet h.classes k) (sym own) has.2)

-- nobody is in the way, where all together do not
pub nobody_in_the_way : (holders : List Holder) (set tx against : ℕ) → Covers set holders → (Meets set against → ⊥) → IsLowestInTheWay holders tx against None
nobody_in_the_way holders set tx against covers none =
    λ number way. none (way.1.2.0, covers number way.1.2.0 (way.1.0, way.1.1, way.1.2.1), way.1.2.2)

-- ---- one goes

none_of : (holders : List Holder) (tx : ℕ) → ((k : ℕ) (d : Holder) → k < length holders → (get_or holders k d).tx ≢ tx) → filter (is_not_of tx) holders ≡ holders
none_of [] tx none = refl
none_of (holder ∷ holders) tx none =
    let rest = none_of holders tx (λ k d lt. none (suc k) d (omega arith)) in let other = none 0 holder (omega arith) in grind (arith, nat_tests)

-- where it is not there, all stay
pub none_goes : (holders : List Holder) (tx : ℕ) → position (is_of tx) holders ≡ None → filter (is_not_of tx) holders ≡ holders
none_goes holders tx none =
    none_of holders tx (λ k d lt own. some_found (is_of tx) holders (get_or holders k d) (Contains-get_or holders k d lt) (grind (arith, nat_tests)) none)

only_one : (holders : List Holder) (tx at : ℕ) → at < length holders → ((d : Holder) → (get_or holders at d).tx ≡ tx) → ((k : ℕ) (d : Holder) → k < length holders → (k ≡ at → ⊥) → (get_or holders k d).tx ≢ tx)
    → filter (is_not_of tx) holders ≡ remove holders at
only_one [] tx at lt own others = absurd (omega arith)
only_one (holder ∷ holders) tx zero lt own others =
    let rest = none_of holders tx (λ k d within. others (suc k) d (omega arith) (omega arith)) in let first = own holder in grind (arith, nat_tests)
only_one (holder ∷ holders) tx (suc at) lt own others =
    let rest = only_one holders tx at (omega arith) own (λ k d within ne. others (suc k) d (omega arith) (λ e. ne (omega arith))) in
    let first = others 0 holder (omega arith) (omega arith) in grind (arith, nat_tests)

-- else it alone goes, who is there once
pub one_goes : (holders : List Holder) (tx at : ℕ) → AreOnce holders → position (is_of tx) holders ≡ Some at → filter (is_not_of tx) holders ≡ remove holders at
one_goes holders tx at once is = only_one holders tx at within own others
  where
    own : (d : Holder) → (get_or holders at d).tx ≡ tx
    own d = is_it tx (get_or holders at d) (position-Some (is_of tx) holders at d is).1

    within : at < length holders
    within = (position-Some (is_of tx) holders at (holder_of tx 0) is).0

    others : (k : ℕ) (d : Holder) → k < length holders → (k ≡ at → ⊥) → (get_or holders k d).tx ≢ tx
    others k d lt ne same = by (cases_lt k at)
      where
        by : (k < at) ⊎ (at ≤ k) → ⊥
        by (inl before) = once k at d before within (same ∙ sym (own d))
        by (inr behind) = once at k d (omega arith) lt (own d ∙ sym same)

-- and those who stay hold no more
pub one_less : (holders new : List Holder) (all tx at : ℕ) → AreWithin holders all → position (is_of tx) holders ≡ Some at → new ≡ remove holders at → (new ≡ filter (is_not_of tx) holders) × AreWithin new all
one_less holders new all tx at within is less =
    let gone = less ∙ sym (one_goes holders tx at within.once is) in (
      gone,
      subst (λ l. AreWithin l all) (sym gone) (record {
        once = AllPairs-filter (λ one other. one.tx ≢ other.tx) (is_not_of tx) holders within.once;
        covers = covers_fewer all holders (filter (is_not_of tx) holders) (λ holder h. (contains_filtered (is_not_of tx) holders holder h).0) within.covers;
      }),
    )
