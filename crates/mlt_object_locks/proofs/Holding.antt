-- The holders of one cell: one comes, is granted something, or goes.
use Rattle.mlt_object_locks.proofs.Names.{zero, list_all, list_any, cases_eq, nat_tests, get_or_default, Contains-get_or, position-Some, Holder, ObjOp, ObjReply, IsLowestOf, AreInTheWay, InSet, AreOnce, Grants, HasBit, IsHere, IsInTheWay, Joins, StandsAgainst, holder_of, is_of}
use Rattle.std.proofs.Common.{false, suc, ◌≢◌, ◌≡◌, ◌⊎◌, ℕ, ◌<◌, List, [], ◌∷◌, true, Option, None, Some, Contains, length, length-set, get_or, set, sym, ap, subst, ◌∙◌, refl, inl, inr, arith, position, get_or-set_other, get_or-set_same}
use Rattle.mlt_object_locks.specs.Classes.{AddsItem}
use Rattle.mlt_object_locks.proofs.Membership.{contains_cases, contains_first, contains_later, contains_set, each_passes, named, none_in_empty, none_passes, set_keeps, set_only, some_found}

-- a holder is its transaction with its classes
pub parts : (holder : Holder) → holder ≡ holder_of holder.tx holder.classes
parts holder = refl

pub is_it : (tx : ℕ) (holder : Holder) → is_of tx holder ≡ true → holder.tx ≡ tx
is_it tx holder h = grind (arith, nat_tests)

passes : (tx classes : ℕ) → is_of tx (holder_of tx classes) ≡ true
passes tx classes = grind (arith, nat_tests)

-- it is there already
pub joins_none : (holders : List Holder) (tx : ℕ) → list_any (is_of tx) holders ≡ true → Joins holders holders tx
joins_none holders tx h =
    let found = named (is_of tx) holders h in
    record {
      here = (found.0.classes, subst (λ n. Contains holders (holder_of n found.0.classes)) (is_it tx found.0 found.2) found.1);
      keeps = λ holder c. c;
      only = λ holder c. inl c;
    }

-- or comes
pub joins_one : (old new : List Holder) (tx : ℕ) → new ≡ holder_of tx 0 ∷ old → Joins old new tx
joins_one old new tx is = record {
  here = (0, subst (λ l. Contains l (holder_of tx 0)) (sym is) (contains_first (holder_of tx 0) old));
  keeps = λ holder c. subst (λ l. Contains l holder) (sym is) (contains_later (holder_of tx 0) old holder c);
  only = λ holder c. by holder (contains_cases (holder_of tx 0) old holder (subst (λ l. Contains l holder) is c));
}
  where
    by : (holder : Holder) → (holder_of tx 0 ≡ holder) ⊎ Contains old holder → Contains old holder ⊎ (holder ≡ holder_of tx 0)
    by holder (inl e) = inr (sym e)
    by holder (inr c) = inl c

-- each is there once, where the one that comes was not there
pub joined_once : (holders : List Holder) (holder : Holder) → AreOnce holders → list_any (is_of holder.tx) holders ≡ false → AreOnce (holder ∷ holders)
joined_once holders holder once none = by
  where
    by : (i j : ℕ) (e : Holder) → i < j → j < length (holder ∷ holders) → (get_or (holder ∷ holders) i e).tx ≢ (get_or (holder ∷ holders) j e).tx
    by zero zero e lt within = absurd (omega arith)
    by zero (suc j) e lt within =
        λ same. none_passes (is_of holder.tx) holders none (get_or holders j e) (Contains-get_or holders j e (omega arith)) (grind (arith, nat_tests))
    by (suc i) zero e lt within = absurd (omega arith)
    by (suc i) (suc j) e lt within = once i j e (omega arith) (omega arith)

-- where all are the transaction itself, nobody stands against what it asks for
pub alone : (holders : List Holder) (tx : ℕ) (requested : ObjOp × ObjReply) → list_all (is_of tx) holders ≡ true → IsLowestOf (StandsAgainst holders tx requested) None
alone holders tx requested all = λ number h. h.0 (is_it tx (holder_of number h.1.1.0) (each_passes (is_of tx) holders all (holder_of number h.1.1.0) h.1.1.1))

-- nor does anybody where nobody is
pub nobody : (tx : ℕ) (requested : ObjOp × ObjReply) → IsLowestOf (StandsAgainst [] tx requested) None
nobody tx requested = λ number h. none_in_empty (holder_of number h.1.1.0) h.1.1.1

-- who is in the way of a class stands against it, and back
module _ (holders : List Holder) (tx against : ℕ) (requested : ObjOp × ObjReply) (way : AreInTheWay against requested) where
  pub stands_against : (number : ℕ) → IsInTheWay holders tx against number → StandsAgainst holders tx requested number
  stands_against number h = (h.0, (h.1.2.0, (h.1.0, h.1.1, h.1.2.1), way.only h.1.2.0 h.1.2.2))

  pub stands_in_the_way : (number : ℕ) → StandsAgainst holders tx requested number → IsInTheWay holders tx against number
  stands_in_the_way number h = (h.0, (h.1.1.0, h.1.1.1, (h.1.0, h.1.1.2, way.has h.1.0 h.1.2)))

-- one that is there is found
pub found : (holders : List Holder) (tx : ℕ) → IsHere holders tx → position (is_of tx) holders ≡ None → ⊥
found holders tx h = some_found (is_of tx) holders (holder_of tx h.0) h.1 (passes tx h.0)

-- one that is found is granted something
module _ (holders : List Holder) (tx at classes : ℕ) (bit : Option ℕ) (d : Holder) (is : position (is_of tx) holders ≡ Some at) (adds : AddsItem (get_or holders at d).classes classes bit) where
  abbrev after : Holder
  after = holder_of tx classes

  abbrev before : Holder
  before = get_or holders at d

  abbrev granted : List Holder
  granted = set holders at after

  place : (at < length holders) × (is_of tx before ≡ true)
  place = let p = position-Some (is_of tx) holders at d is in (p.0, p.1)

  read : get_or holders at after ≡ before
  read = get_or_default holders at after d place.0

  own : before.tx ≡ tx
  own = is_it tx before place.1

  was_there : Contains holders (holder_of tx before.classes)
  was_there = subst (λ n. Contains holders (holder_of n before.classes)) own (Contains-get_or holders at d place.0)

  kept_or_own : (u c : ℕ) → Contains holders (holder_of u c) → Contains granted (holder_of u c) ⊎ ((u ≡ tx) × (c ≡ before.classes))
  kept_or_own u c h = by (cases_eq u tx) (cases_eq c before.classes)
    where
      by : (u ≡ tx) ⊎ (u ≡ tx → ⊥) → (c ≡ before.classes) ⊎ (c ≡ before.classes → ⊥) → Contains granted (holder_of u c) ⊎ ((u ≡ tx) × (c ≡ before.classes))
      by (inl e) (inl k) = inr (e, k)
      by (inl e) (inr ne) = inl (set_keeps holders at after place.0 (holder_of u c) (λ k. ne (ap (λ (x : Holder). x.classes) (k ∙ read))) h)
      by (inr ne) other = inl (set_keeps holders at after place.0 (holder_of u c) (λ k. ne (ap (λ (x : Holder). x.tx) (k ∙ read) ∙ own)) h)

  keeps_bit : (u k : ℕ) → HasBit holders u k → HasBit granted u k
  keeps_bit u k h = by (kept_or_own u h.0 h.1)
    where
      by : Contains granted (holder_of u h.0) ⊎ ((u ≡ tx) × (h.0 ≡ before.classes)) → HasBit granted u k
      by (inl c) = (h.0, c, h.2)
      by (inr e) = (classes, subst (λ n. Contains granted (holder_of n classes)) (sym e.0) (contains_set holders at after place.0), adds.keeps k (subst (λ n. InSet n k) e.1 h.2))

  stays_here : (u : ℕ) → IsHere holders u → IsHere granted u
  stays_here u h = by (kept_or_own u h.0 h.1)
    where
      by : Contains granted (holder_of u h.0) ⊎ ((u ≡ tx) × (h.0 ≡ before.classes)) → IsHere granted u
      by (inl c) = (h.0, c)
      by (inr e) = (classes, subst (λ n. Contains granted (holder_of n classes)) (sym e.0) (contains_set holders at after place.0))

  only_bit : (u k : ℕ) → HasBit granted u k → HasBit holders u k ⊎ ((u ≡ tx) × (bit ≡ Some k))
  only_bit u k h = by (set_only holders at after place.0 (holder_of u h.0) h.1)
    where
      own_bit : u ≡ tx → InSet before.classes k ⊎ (bit ≡ Some k) → HasBit holders u k ⊎ ((u ≡ tx) × (bit ≡ Some k))
      own_bit e (inl had) = inl (before.classes, subst (λ n. Contains holders (holder_of n before.classes)) (sym e) was_there, had)
      own_bit e (inr new) = inr (e, new)

      by : Contains holders (holder_of u h.0) ⊎ (holder_of u h.0 ≡ after) → HasBit holders u k ⊎ ((u ≡ tx) × (bit ≡ Some k))
      by (inl c) = inl (h.0, c, h.2)
      by (inr e) = own_bit (ap (λ (x : Holder). x.tx) e) (adds.only k (subst (λ n. InSet n k) (ap (λ (x : Holder). x.classes) e) h.2))

  only_here : (u : ℕ) → IsHere granted u → IsHere holders u
  only_here u h = by (set_only holders at after place.0 (holder_of u h.0) h.1)
    where
      by : Contains holders (holder_of u h.0) ⊎ (holder_of u h.0 ≡ after) → IsHere holders u
      by (inl c) = (h.0, c)
      by (inr e) = (before.classes, subst (λ n. Contains holders (holder_of n before.classes)) (sym (ap (λ (x : Holder). x.tx) e)) was_there)

  pub grants : Grants holders granted tx bit
  grants = record {
    granted = λ k e. (classes, contains_set holders at after place.0, adds.has k e);
    keeps = keeps_bit;
    only = only_bit;
    stays = stays_here;
    here = only_here;
  }

  same_number : (i : ℕ) (e : Holder) → (get_or granted i e).tx ≡ (get_or holders i e).tx
  same_number i e = by (cases_eq i at)
    where
      by : (i ≡ at) ⊎ (i ≡ at → ⊥) → (get_or granted i e).tx ≡ (get_or holders i e).tx
      by (inl here) =
          ap (λ n. (get_or granted n e).tx) here ∙ ap (λ (x : Holder). x.tx) (get_or-set_same holders at after e place.0) ∙ sym own
          ∙ ap (λ (x : Holder). x.tx) (get_or_default holders at d e place.0) ∙ ap (λ n. (get_or holders n e).tx) (sym here)
      by (inr ne) = ap (λ (x : Holder). x.tx) (get_or-set_other holders at i after e ne)

  -- each is there once, as before
  pub granted_once : AreOnce holders → AreOnce granted
  granted_once once = λ i j e lt within same.
      let len = length-set {A = Holder} holders at after in
      once i j e lt (omega arith) (sym (same_number i e) ∙ same ∙ same_number j e)

  -- and what it had, it had there
  pub had_bit : (k : ℕ) → InSet before.classes k → HasBit holders tx k
  had_bit k h = (before.classes, was_there, h)
