-- Each kind of step keeps the rule.
use Rattle.std.proofs.Common.{◌≡◌, ◌≢◌, ◌⊎◌, ℕ, zero, suc, ◌+◌, ◌-◌, ◌%◌, ◌^◌, ◌<◌, ◌≤◌, List, [], ◌∷◌, ◌++◌, set, cond, Bool, refl, sym, ap, ◌∙◌, subst, inl, inr, ⊎_elim, arith, slice_index}
use Rattle.std.proofs.{lemmas.Bool.Decides.nat_tests, lemmas.Bool.Decides.leb_tells, Math.Nat.mod-eq_of_lt}
use mathlib.Core.Option.{some, some-injective, some-ne-none}
use lib.ListN.{get_elem?}
use Rattle.atomic_table.specs.Table.{State, Me, Allows, Splits, Joins}
use Rattle.atomic_table.{specs.Table.Act.keeps, proofs.Lists.at_set, proofs.Lists.at_snoc}
use Rattle.mlt_work.specs.declared.claim_handles.ClaimView.{ClaimView}
use Rattle.mlt_work.specs.Claims.{view, times, total, once_below, parts_of, overruns_of, times_of, IsClaimView, IsClaimed, IsKept, after_draw, after_split, after_join}

-- the total after a change of one view
pub total_set : (f : ClaimView → ℕ) (views : List ClaimView) (port : ℕ) (v w : ClaimView) → get_elem? views port ≡ some v → total f (set views port w) + f v ≡ total f views + f w
total_set f [] port v w e = absurd (some-ne-none v (sym e))
total_set f (x ∷ xs) zero v w e = let same : f x ≡ f v = ap f (some-injective x v e) in omega arith
total_set f (x ∷ xs) (suc port) v w e = let rest = total_set f xs port v w e in omega arith

pub total_snoc : (f : ClaimView → ℕ) (views : List ClaimView) (w : ClaimView) → total f (views ++ w ∷ []) ≡ total f views + f w
total_snoc f [] w = omega arith
total_snoc f (x ∷ xs) w = let rest = total_snoc f xs w in omega arith

pub times-append : (x : ℕ) (xs ys : List ℕ) → times x (xs ++ ys) ≡ times x xs + times x ys
times-append x [] ys = omega arith
times-append x (y ∷ xs) ys = let rest = times-append x xs ys in omega arith

pub once_next : (x n : ℕ) → once_below x (n + 1) ≡ once_below x n + times x (n ∷ [])
once_next x n = grind (arith, nat_tests)

-- a fact of each view, after a change of one
pub each_set : (F : ClaimView → Type 0) (views : List ClaimView) (port : ℕ) (w : ClaimView) → F w → ((j : ℕ) (u : ClaimView) → get_elem? views j ≡ some u → F u) → (j : ℕ) (u : ClaimView) → get_elem? (set views port w) j ≡ some u → F u
each_set F views port w mine others j u e =
    ⊎_elim (λ (x : (j ≡ port) × (w ≡ u)). subst F x.1 mine) (λ (x : (j ≢ port) × (get_elem? views j ≡ some u)). others j u x.1) (at_set views port j w u e)

pub each_snoc : (F : ClaimView → Type 0) (views : List ClaimView) (w : ClaimView) → F w → ((j : ℕ) (u : ClaimView) → get_elem? views j ≡ some u → F u) → (j : ℕ) (u : ClaimView) → get_elem? (views ++ w ∷ []) j ≡ some u → F u
each_snoc F views w mine others j u e = ⊎_elim (λ x. others j u x) (λ (x : w ≡ u). subst F x mine) (at_snoc views w u j e)

-- a view's number is at most the total
pub one_of : (f : ClaimView → ℕ) (views : List ClaimView) (port : ℕ) (v : ClaimView) → get_elem? views port ≡ some v → f v ≤ total f views
one_of f [] port v e = absurd (some-ne-none v (sym e))
one_of f (x ∷ xs) zero v e = let same : f x ≡ f v = ap f (some-injective x v e) in omega arith
one_of f (x ∷ xs) (suc port) v e = let rest = one_of f xs port v e in omega arith

none_of : (f : ClaimView → ℕ) (views : List ClaimView) → ((j : ℕ) (u : ClaimView) → get_elem? views j ≡ some u → u.parts ≡ 0 → f u ≡ 0) → total parts_of views ≡ 0 → total f views ≡ 0
none_of f [] h e = refl
none_of f (x ∷ xs) h e =
    let here : f x ≡ 0 = h 0 x refl (omega arith) in
    let rest : total f xs ≡ 0 = none_of f xs (λ j u a. h (suc j) u a) (omega arith) in
    omega arith

-- where one view has every part, the total is its own
pub all_of : (f : ClaimView → ℕ) (views : List ClaimView) (port : ℕ) (v : ClaimView) → ((j : ℕ) (u : ClaimView) → get_elem? views j ≡ some u → u.parts ≡ 0 → f u ≡ 0)
    → get_elem? views port ≡ some v → total parts_of views ≡ v.parts → total f views ≡ f v
all_of f [] port v h e p = absurd (some-ne-none v (sym e))
all_of f (x ∷ xs) zero v h e p =
    let same : x ≡ v = some-injective x v e in
    let parts : x.parts ≡ v.parts = ap parts_of same in
    let value : f x ≡ f v = ap f same in
    let rest : total f xs ≡ 0 = none_of f xs (λ j u a. h (suc j) u a) (omega arith) in
    omega arith
all_of f (x ∷ xs) (suc port) v h e p =
    let some_parts : v.parts ≤ total parts_of xs = one_of parts_of xs port v e in
    let none : f x ≡ 0 = h 0 x refl (omega arith) in
    let rest : total f xs ≡ f v = all_of f xs port v (λ j u a. h (suc j) u a) e (omega arith) in
    omega arith

-- the word after a draw
draw_bound : (clients word left v w after : ℕ) → (word ≤ clients) ⊎ (word + left ≤ clients + 8) → left ≤ 8 → 0 < v → v ≤ left → after + v ≡ left + w
    → ((word < clients) × (w ≡ v)) ⊎ ((clients ≤ word) × (w + 1 ≡ v)) → (after ≤ 8) × ((word + 1 ≤ clients) ⊎ (word + 1 + after ≤ clients + 8))
draw_bound clients word left v w after (inl b) few pos within sum (inl m) = (omega arith, inl (omega arith))
draw_bound clients word left v w after (inr b) few pos within sum (inl m) = (omega arith, inl (omega arith))
draw_bound clients word left v w after (inl b) few pos within sum (inr m) = (omega arith, inr (omega arith))
draw_bound clients word left v w after (inr b) few pos within sum (inr m) = (omega arith, inr (omega arith))

left_after : (v : ClaimView) (n clients : ℕ) → v.clients ≡ clients → 0 < v.overruns → ((n < clients) × ((after_draw v n).overruns ≡ v.overruns)) ⊎ ((clients ≤ n) × ((after_draw v n).overruns + 1 ≡ v.overruns))
left_after v n clients e pos =
    ⊎_elim
    (λ t. inl (omega (arith, t.1), ap (λ (b : Bool). cond b v.overruns (v.overruns - 1)) t.0))
    (λ t.
    let least : (after_draw v n).overruns ≡ v.overruns - 1 = ap (λ (b : Bool). cond b v.overruns (v.overruns - 1)) t.0 in
    inr (omega (arith, t.1), omega arith))
    (leb_tells (suc n) v.clients)

pub claims_draw : (clients word id : ℕ) (views : List ClaimView) (v : ClaimView) → IsClaimed clients word views → get_elem? views id ≡ some v → 0 < v.parts → 0 < v.overruns
    → IsClaimed clients (word + 1) (set views id (after_draw v word))
claims_draw clients word id views v h at some_part some_left =
    let w = after_draw v word in
    let fits = h.each id v at in
    let known : v.clients ≡ clients = fits.known some_part in
    let left_sum = total_set overruns_of views id v w at in
    let bounds = draw_bound clients word (total overruns_of views) v.overruns w.overruns (total overruns_of (set views id w)) h.bound h.overruns some_left (one_of overruns_of views id v at) left_sum (left_after v word clients known some_left) in
    record {
      few = h.few;
      parts = let s = total_set parts_of views id v w at in let p = h.parts in omega arith;
      overruns = bounds.0;
      bound = bounds.1;
      drawn = λ x.
          let s = total_set (times_of x) views id v w at in
          let p = h.drawn x in
          omega (arith, times-append x v.drawn (word ∷ []), once_next x word);
      each = each_set (IsClaimView clients) views id w (record { spent = λ none. absurd (omega arith); known = λ _. known }) h.each;
    }

word_fits : (clients word left : ℕ) → clients < 2 ^ 63 → (word ≤ clients) ⊎ (word + left ≤ clients + 8) → word + 1 < 2 ^ 64
word_fits clients word left few (inl b) = omega arith
word_fits clients word left few (inr b) = omega arith

pub kept_draw : (clients id : ℕ) (words : List ℕ) (views : List ClaimView) (v : ClaimView) → IsKept clients words views → get_elem? views id ≡ some v → 0 < v.parts → 0 < v.overruns
    → IsKept clients (set words 0 ((slice_index words 0 + 1) % 2 ^ 64)) (set views id (after_draw v (slice_index words 0)))
kept_draw clients id [] views v h at a b = absurd (omega arith)
kept_draw clients id (word ∷ m ∷ rest) views v h at a b = absurd (omega arith)
kept_draw clients id (word ∷ []) views v h at a b =
    let next : (word + 1) % 2 ^ 64 ≡ word + 1 = mod-eq_of_lt (word_fits clients word (total overruns_of views) h.1.few h.1.bound) in
    (refl, subst (λ (k : ℕ). IsClaimed clients k (set views id (after_draw v word))) (sym next) (claims_draw clients word id views v h.1 at a b))

pub draws : (clients slots id : ℕ) (me : Me (Unit {0}) ClaimView) → 0 < me.0.parts → 0 < me.0.overruns
    → Allows (λ (s : State (Unit {0}) ClaimView). IsKept clients s.words s.views) slots id me 0 (λ n. (n + 1) % 2 ^ 64) (λ n w. w ≡ (after_draw me.0 n, me.1))
draws clients slots id me a b s h homes at small =
    (after_draw me.0 (slice_index s.words 0), keeps, tt, kept_draw clients id s.words s.views me.0 h at a b, refl)

pub splits : (clients id : ℕ) (v : ClaimView) → 1 < v.parts → 0 < v.overruns
    → Splits (λ (s : State (Unit {0}) ClaimView). IsKept clients s.words s.views) id v (after_split v) (view 1 1 v.clients [])
splits clients id v a b s h at =
    let c = h.1 in
    let first = after_split v in
    let new = view 1 1 v.clients [] in
    let known : v.clients ≡ clients = (c.each id v at).known (omega arith) in
    let middle = set s.views id first in
    let left_is : total overruns_of (middle ++ new ∷ []) ≡ total overruns_of s.views = let t = total_set overruns_of s.views id v first at in let u = total_snoc overruns_of middle new in omega arith in (
      h.0,
      record {
        few = c.few;
        parts = let t = total_set parts_of s.views id v first at in let u = total_snoc parts_of middle new in let p = c.parts in omega arith;
        overruns = omega (arith, left_is, c.overruns);
        bound = subst (λ (k : ℕ). (slice_index s.words 0 ≤ clients) ⊎ (slice_index s.words 0 + k ≤ clients + 8)) (sym left_is) c.bound;
        drawn = λ x. let t = total_set (times_of x) s.views id v first at in let u = total_snoc (times_of x) middle new in let p = c.drawn x in omega arith;
        each = each_snoc (IsClaimView clients) middle new (record { spent = λ _. refl; known = λ _. known })
            (each_set (IsClaimView clients) s.views id first (record { spent = λ none. absurd (omega arith); known = λ _. known }) c.each);
      },
    )

less_left : (clients word left after : ℕ) → (word ≤ clients) ⊎ (word + left ≤ clients + 8) → after ≤ left → (word ≤ clients) ⊎ (word + after ≤ clients + 8)
less_left clients word left after (inl b) e = inl b
less_left clients word left after (inr b) e = inr (omega arith)

pub joins : (clients id other : ℕ) (v w : ClaimView) → 0 < v.parts
    → Joins (λ (s : State (Unit {0}) ClaimView). IsKept clients s.words s.views) id v other w (after_join v w) (view 0 0 0 [])
joins clients id other v w a s h at two at' =
    let c = h.1 in
    let both = after_join v w in
    let none = view 0 0 0 [] in
    let middle = set s.views id both in
    let known : v.clients ≡ clients = (c.each id v at).known a in
    let left_is : total overruns_of (set middle other none) ≤ total overruns_of s.views = let t = total_set overruns_of s.views id v both at in let u = total_set overruns_of middle other w none at' in omega arith in (
      h.0,
      record {
        few = c.few;
        parts = let t = total_set parts_of s.views id v both at in let u = total_set parts_of middle other w none at' in let p = c.parts in omega arith;
        overruns = omega (arith, left_is, c.overruns);
        bound = less_left clients (slice_index s.words 0) (total overruns_of s.views) (total overruns_of (set middle other none)) c.bound left_is;
        drawn = λ x.
            let t = total_set (times_of x) s.views id v both at in
            let u = total_set (times_of x) middle other w none at' in
            let p = c.drawn x in
            omega (arith, times-append x v.drawn w.drawn);
        each = each_set (IsClaimView clients) middle other none (record { spent = λ _. refl; known = λ pos. absurd (omega arith) })
            (each_set (IsClaimView clients) s.views id both (record { spent = λ empty. absurd (omega arith); known = λ _. known }) c.each);
      },
    )

idle_times : (clients x : ℕ) (u : ClaimView) → IsClaimView clients u → u.parts ≡ 0 → times_of x u ≡ 0
idle_times clients x u f e = ap (times x) (f.spent e)

-- the handle with every part drew just the numbers below the word
pub learns : (clients id : ℕ) (words : List ℕ) (views : List ClaimView) (v : ClaimView) (word : ℕ) → IsKept clients words views → get_elem? views id ≡ some v → v.parts ≡ 9 → get_elem? words 0 ≡ some word
    → (x : ℕ) → times x v.drawn ≡ once_below x word
learns clients id [] views v word h at whole is x = absurd (some-ne-none word (sym is))
learns clients id (n ∷ ns) views v word h at whole is x =
    let same : n ≡ word = some-injective n word is in
    let c = h.1 in
    let sum : total (times_of x) views ≡ times x v.drawn = all_of (times_of x) views id v (λ j u e none. idle_times clients x u (c.each j u e) none) at (c.parts ∙ sym whole) in
    sym sum ∙ c.drawn x ∙ ap (once_below x) same
