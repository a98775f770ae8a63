-- Tables with the same numbers have as many entries
use Prim.Native.Nat.{zero}
use Rattle.std.proofs.Common.{◌≡◌, ℕ, suc, List, [], ◌∷◌, length, Option, None, Some, is_some, true, refl, sym, ap, ◌∙◌, arith, nat_cmp}
use Rattle.std.specs.FinMap as map
use Rattle.std.specs.{FinMap.Entries.find, Cmp.nat_cmp_total, Cmp.unsigned_tied}
use Rattle.mlt_manager_invariant.proofs.Names.{false≢true, nat_tests, get_removed, Transaction, IsSound, State, images_kept}

abbrev HasNumber : {X : Type 0} → map.FinMap nat_cmp X → ℕ → Type 0
HasNumber m q = is_some (map.get m q) ≡ true

first_number : {X : Type 0} (es : List (ℕ × X)) (k : ℕ) → length es ≡ suc k → (q : ℕ) × (is_some (find nat_cmp q es) ≡ true)
first_number [] k is = absurd cc
first_number (e ∷ es) k is = (e.0, grind (arith, unsigned_tied e.0 e.0))

some_number : {X : Type 0} (m : map.FinMap nat_cmp X) (k : ℕ) → map.len m ≡ suc k → (q : ℕ) × HasNumber m q
some_number m k is =
    let first = first_number (map.entries m) k (sym (map.len-entries m) ∙ is) in
    (first.0, ap is_some (map.get-entries m first.0) ∙ first.1)

abbrev SameNumbers : {X Y : Type 0} → map.FinMap nat_cmp X → map.FinMap nat_cmp Y → Type 0
SameNumbers m n = (q : ℕ) → is_some (map.get m q) ≡ is_some (map.get n q)

one_fewer : {X : Type 0} (m : map.FinMap nat_cmp X) (q k : ℕ) → HasNumber m q → map.len m ≡ suc k → map.len (map.remove m q) ≡ k
one_fewer m q k has is = grind (arith, has, is, map.len-remove nat_cmp_total m q)

none_without : {X : Type 0} (m : map.FinMap nat_cmp X) (q : ℕ) → HasNumber m q → map.len m ≡ 0 → ⊥
none_without {X} m q has is =
    let empty : m ≡ map.empty = map.empty_of_len m is in
    false≢true (sym (ap is_some (ap (λ (t : map.FinMap nat_cmp X). map.get t q) empty ∙ map.get-empty {X = X} nat_cmp q)) ∙ has)

same_removed : {X Y : Type 0} (m : map.FinMap nat_cmp X) (n : map.FinMap nat_cmp Y) (x : ℕ) → SameNumbers m n → SameNumbers (map.remove m x) (map.remove n x)
same_removed m n x same q = grind (arith, nat_tests, same q, get_removed m x q, get_removed n x q)

same_len : {X Y : Type 0} (k : ℕ) (m : map.FinMap nat_cmp X) (n : map.FinMap nat_cmp Y) (l : ℕ) → map.len m ≡ k → map.len n ≡ l → SameNumbers m n → k ≡ l
same_len zero m n zero is is' same = refl
same_len zero m n (suc l) is is' same = let one = some_number n l is' in absurd (none_without m one.0 (same one.0 ∙ one.1) is)
same_len (suc k) m n zero is is' same = let one = some_number m k is in absurd (none_without n one.0 (sym (same one.0) ∙ one.1) is')
same_len (suc k) m n (suc l) is is' same =
    let one = some_number m k is in
    let x = one.0 in
    ap suc (same_len k (map.remove m x) (map.remove n x) l (one_fewer m x k one.1 is) (one_fewer n x l (sym (same x) ∙ one.1) is') (same_removed m n x same))

images_there : (o : Option Transaction) → is_some (images_kept o) ≡ is_some o
images_there None = refl
images_there (Some t) = refl

-- **Those who keep images are as many as are open.**
pub as_many_images : (s : State) → IsSound s → map.len s.images ≡ map.len s.txs
as_many_images s sound =
    same_len (map.len s.images) s.images s.txs (map.len s.txs) refl refl (λ q. ap is_some (sound.kept q) ∙ images_there (map.get s.txs q))
