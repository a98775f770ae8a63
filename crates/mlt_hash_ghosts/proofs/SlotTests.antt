-- What the tests of a slot say, and look-ups by them in a bucket
use Rattle.std.proofs.Common.{ℕ, ◌≡◌, ◌<◌, ◌==◌, Bool, true, false, List, length, get_or, Option, Some, None, refl, sym, ◌∙◌, inl, inr, arith, position, option_map, eq-eqb, eqb-true, lt-ltb}
use Rattle.std.{specs.List.position_or_len, proofs.lemmas.Bool.and_from, proofs.lemmas.Bool.and_parts, proofs.lemmas.Bool.cases_lt, proofs.lemmas.Bool.cond-true, proofs.lemmas.List.get_or_past, proofs.lemmas.List.Sums.fails_before_first}
use Rattle.mlt_hash_ghosts.proofs.Names.{both_ways, none-some, is_ghost_of, is_live_of, Slot, Free, Live, Ghost, value_in}
use Rattle.mlt_hash_form.proofs.Lookup.{live_passes}

-- what the tests of a slot say
pub live_from : (k : ℕ) (s : Slot) → is_live_of k s ≡ true → (v : ℕ) × (s ≡ Live k v)
live_from k Free h = cc
live_from k (Live j v) h = let e = eqb-true j k h in (v, cc)
live_from k (Ghost j v t) h = cc

pub position_none : (p : Slot → Bool) (slots : List Slot) (i : ℕ) → position p slots ≡ None → i < length slots → p (get_or slots i Free) ≡ false
position_none p slots i e within =
    let n = position_or_len p slots in
    elim (cases_lt n (length slots)) [
      | inl lt ↦ absurd (none-some n (sym e ∙ cond-true _ (Some n) None (lt-ltb n (length slots) lt)))
      | inr le ↦ fails_before_first p slots i Free (omega arith)
    ]

pub ghost_from : (k t : ℕ) (s : Slot) → is_ghost_of k t s ≡ true → (v : ℕ) × (s ≡ Ghost k v t)
ghost_from k t Free h = cc
ghost_from k t (Live j v) h = cc
ghost_from k t (Ghost j v u) h =
    let both = and_parts (j == k) (u == t) h in
    let e = eqb-true j k both.0 in
    let f = eqb-true u t both.1 in
    (v, cc)

pub ghost_passes : (k v t : ℕ) (s : Slot) → s ≡ Ghost k v t → is_ghost_of k t s ≡ true
ghost_passes k v t s e = rw e (and_from _ _ (eq-eqb k k refl) (eq-eqb t t refl))

pub used_within : (slots : List Slot) (i : ℕ) → (get_or slots i Free ≡ Free → ⊥) → i < length slots
used_within slots i used = elim (cases_lt i (length slots)) [ inl h ↦ h | inr h ↦ absurd (used (get_or_past slots i Free h)) ]

map_none : (f : ℕ → ℕ) (o : Option ℕ) → option_map f o ≡ None → o ≡ None
map_none f None e = refl
map_none f (Some x) e = cc

-- a bucket without a value of the key has no record of it, and one where no ghost is found has none
pub no_live_test : (k : ℕ) (slots : List Slot) (j v : ℕ) → position (is_live_of k) slots ≡ None → get_or slots j Free ≡ Live k v → ⊥
no_live_test k slots j v e is =
    let within = used_within slots j (λ free. let f : Free ≡ Live k v = sym free ∙ is in cc) in
    both_ways _ (position_none (is_live_of k) slots j e within) (live_passes k v _ is)

pub no_live : (k : ℕ) (slots : List Slot) (j v : ℕ) → value_in k slots ≡ None → get_or slots j Free ≡ Live k v → ⊥
no_live k slots j v e = no_live_test k slots j v (map_none _ _ e)

pub no_ghost : (k t : ℕ) (slots : List Slot) (j v : ℕ) → position (is_ghost_of k t) slots ≡ None → get_or slots j Free ≡ Ghost k v t → ⊥
no_ghost k t slots j v e is =
    let within = used_within slots j (λ free. let f : Free ≡ Ghost k v t = sym free ∙ is in cc) in
    both_ways _ (position_none (is_ghost_of k t) slots j e within) (ghost_passes k v t _ is)
