-- The places that are noted of each transaction.
use Rattle.std.proofs.Common.{◌≡◌, ◌≢◌, ◌⊎◌, ℕ, ◌+◌, ◌≤◌, List, [], ◌∷◌, ◌++◌, Bool, true, false, cond, not, nat_eq, Contains, length, length-append, sym, ap, subst, refl, ◌∙◌, true≢false, inl, inr, arith, filter}
use Rattle.mlt_object_locks.proofs.Names.{cases_eq, nat_tests, Contains-push, Contains-push_cases, Contains-append_left, Held, is_of_other, KeepsNoted, KeysWithRoom, NotesEach, SameNoted, held_count, noted_of}
use Rattle.mlt_object_locks.{specs.Noted.NotesAtMost, specs.Noted.is_held_by, proofs.Membership.none_in_empty}

-- a place more is noted
pub notes_one : (old : List ℕ) (new : List ℕ) (key : ℕ) → new ≡ old ++ key ∷ [] → NotesAtMost old new key
notes_one old new key is = record {
  there = subst (λ l. Contains l key) (sym is) (Contains-push old key);
  keeps = λ k h. subst (λ l. Contains l k) (sym is) (Contains-append_left old (key ∷ []) k h);
  few = let len = ap length is in let both = length-append old (key ∷ []) in omega arith;
}

-- or none is
pub notes_none : (old : List ℕ) (key : ℕ) → Contains old key → NotesAtMost old old key
notes_none old key there = record { there = there; keeps = λ k h. h; few = omega arith }

-- no place is seen yet
pub notes_nothing : (old : List ℕ) → NotesEach old old []
notes_nothing old = record { there = λ k h. absurd (none_in_empty k h); keeps = λ k h. h; few = omega arith }

-- one place more
pub notes_more : (start old new places : List ℕ) (place : ℕ) → NotesEach start old places → NotesAtMost old new place → NotesEach start new (places ++ place ∷ [])
notes_more start old new places place so_far more = record {
  there = λ k h. by k (Contains-push_cases places place k h);
  keeps = λ k h. more.keeps k (so_far.keeps k h);
  few = let len = length-append places (place ∷ []) in let before = so_far.few in let after = more.few in omega arith;
}
  where
    by : (k : ℕ) → Contains places k ⊎ (place ≡ k) → Contains new k
    by k (inl h) = more.keeps k (so_far.there k h)
    by k (inr e) = subst (Contains new) e more.there

-- ---- how many operations a transaction holds

longer : (b : Bool) (y : Held) (fs gs : List Held) → length fs ≡ length gs + 1 → length (cond b (y ∷ fs) fs) ≡ length (cond b (y ∷ gs) gs) + 1
longer true y fs gs h = omega arith
longer false y fs gs h = h

no_shorter : (b : Bool) (y : Held) (fs gs : List Held) → length fs ≤ length gs → length (cond b (y ∷ fs) fs) ≤ length (cond b (y ∷ gs) gs)
no_shorter true y fs gs h = omega arith
no_shorter false y fs gs h = h

as_long : (b : Bool) (y : Held) (fs gs : List Held) → length fs ≡ length gs → length (cond b (y ∷ fs) fs) ≡ length (cond b (y ∷ gs) gs)
as_long true y fs gs h = omega arith
as_long false y fs gs h = h

one_alone : (b : Bool) (x : Held) → b ≡ true → length (cond b (x ∷ []) []) ≡ 1
one_alone true x e = omega arith
one_alone false x e = absurd (true≢false (sym e))

-- with one more
pub count_pushed_same : (xs : List Held) (x : Held) → held_count (xs ++ x ∷ []) x.0 ≡ held_count xs x.0 + 1
count_pushed_same [] x = let own : nat_eq x.0 x.0 ≡ true = grind (arith, nat_tests) in let one = one_alone (nat_eq x.0 x.0) x own in omega arith
count_pushed_same (y ∷ ys) x = longer (nat_eq y.0 x.0) y (filter (is_held_by x.0) (ys ++ x ∷ [])) (filter (is_held_by x.0) ys) (count_pushed_same ys x)

pub count_pushed_le : (xs : List Held) (x : Held) (u : ℕ) → held_count xs u ≤ held_count (xs ++ x ∷ []) u
count_pushed_le [] x u = omega arith
count_pushed_le (y ∷ ys) x u = no_shorter (nat_eq y.0 u) y (filter (is_held_by u) ys) (filter (is_held_by u) (ys ++ x ∷ [])) (count_pushed_le ys x u)

-- without those of another
pub count_of_others : (xs : List Held) (tx u : ℕ) → u ≢ tx → held_count (filter (is_of_other tx) xs) u ≡ held_count xs u
count_of_others [] tx u ne = refl
count_of_others (y ∷ ys) tx u ne = by (not (nat_eq y.0 tx)) refl (count_of_others ys tx u ne)
  where
    by : (b : Bool) → not (nat_eq y.0 tx) ≡ b → length (filter (is_held_by u) (filter (is_of_other tx) ys)) ≡ length (filter (is_held_by u) ys)
        → length (filter (is_held_by u) (cond b (y ∷ filter (is_of_other tx) ys) (filter (is_of_other tx) ys))) ≡ length (cond (nat_eq y.0 u) (y ∷ filter (is_held_by u) ys) (filter (is_held_by u) ys))
    by true is rest = as_long (nat_eq y.0 u) y (filter (is_held_by u) (filter (is_of_other tx) ys)) (filter (is_held_by u) ys) rest
    by false is rest =
        let not_own : false ≡ nat_eq y.0 u = grind (arith, nat_tests) in
        subst (λ b. length (filter (is_held_by u) (filter (is_of_other tx) ys)) ≡ length (cond b (y ∷ filter (is_held_by u) ys) (filter (is_held_by u) ys))) not_own rest

-- ---- what making room leaves

pub keeps_noted : (old new : List (ℕ × KeysWithRoom)) (tx : ℕ) → SameNoted old new tx → (noted_of new tx).keys ≡ (noted_of old tx).keys → (2 ≤ (noted_of old tx).room → 2 ≤ (noted_of new tx).room) → KeepsNoted old new
keeps_noted old new tx others keys room = record { keys = λ u. by u (cases_eq u tx); room = λ u h. still u h (cases_eq u tx) }
  where
    by : (u : ℕ) → (u ≡ tx) ⊎ (u ≢ tx) → (noted_of new u).keys ≡ (noted_of old u).keys
    by u (inl e) = ap (λ n. (noted_of new n).keys) e ∙ keys ∙ ap (λ n. (noted_of old n).keys) (sym e)
    by u (inr ne) = ap (λ (n : KeysWithRoom). n.keys) (others u ne)

    still : (u : ℕ) → 2 ≤ (noted_of old u).room → (u ≡ tx) ⊎ (u ≢ tx) → 2 ≤ (noted_of new u).room
    still u h (inl e) = subst (λ n. 2 ≤ (noted_of new n).room) (sym e) (room (subst (λ n. 2 ≤ (noted_of old n).room) e h))
    still u h (inr ne) = subst (λ (n : KeysWithRoom). 2 ≤ n.room) (sym (others u ne)) h
