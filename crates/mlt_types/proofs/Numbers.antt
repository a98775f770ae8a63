-- The set of the numbers of a list in which no number stands twice.
use Rattle.std.proofs.Common.{◌≡◌, ℕ, zero, suc, ◌+◌, ◌<◌, true, false, cond, not, ◌&&◌, ◌||◌, nat_eq, List, [], ◌∷◌, ◌++◌, length, get_or, None, Some, refl, sym, ◌∙◌, ap, subst, arith, add-one, position, remove, nat_cmp, eqb-true}
use Rattle.std.{specs.List.IsDistinct, specs.List.AllByRecursion, specs.List.list_any, specs.List.position_from, specs.Cmp.nat_cmp_total, specs.Cmp.nat_eq_equiv, specs.Cmp.unsigned_tied, proofs.lemmas.Map.Keys.IsDistinct-push, proofs.lemmas.Map.Keys.apart_from_distinct, proofs.lemmas.Iterator.Adapters.position_from-zero, proofs.lemmas.List.Quantifiers.position-Some}
use Rattle.std.specs.FinSet as set
use Rattle.std.specs.FinSet.{FinSet, nat_cmp-IsAntisymmetric, from_list, contains-from_list_nat, from_list_push, same_set}

-- a number that differs from each is none of them
none_is : (x : ℕ) (xs : List ℕ) → AllByRecursion (λ y. nat_eq x y ≡ false) xs → list_any (λ y. nat_eq y x) xs ≡ false
none_is x [] apart = refl
none_is x (y ∷ ys) apart = ap (λ b. b || list_any (λ z. nat_eq z x) ys) (nat_eq_equiv.symm y x ∙ apart.0) ∙ none_is x ys apart.1

turned : (x : ℕ) (xs : List ℕ) → list_any (λ y. nat_eq y x) xs ≡ list_any (nat_eq x) xs
turned x [] = refl
turned x (y ∷ ys) = ap (λ b. b || list_any (λ z. nat_eq z x) ys) (nat_eq_equiv.symm y x) ∙ ap (λ b. nat_eq x y || b) (turned x ys)

pub distinct_none : IsDistinct nat_eq []
unfolding IsDistinct
distinct_none = tt

pub len_is_length : (xs : List ℕ) → IsDistinct nat_eq xs → set.len (from_list {R = nat_cmp} xs) ≡ length xs
unfolding IsDistinct
len_is_length [] apart = set.len-empty nat_cmp
len_is_length (x ∷ xs) apart =
    set.len-insert nat_cmp_total (from_list xs) x
    ∙ ap (λ b. cond b (set.len (from_list {R = nat_cmp} xs)) (set.len (from_list {R = nat_cmp} xs) + 1)) (contains-from_list_nat xs x ∙ none_is x xs apart.0)
    ∙ ap (λ n. n + 1) (len_is_length xs apart.1)
    ∙ add-one (length xs)

pub contains_is_any : (xs : List ℕ) (x : ℕ) → set.contains (from_list {R = nat_cmp} xs) x ≡ list_any (λ y. nat_eq y x) xs
contains_is_any = contains-from_list_nat

-- a number that is there already
pub insert_present : (numbers : FinSet nat_cmp) (x : ℕ) → set.contains numbers x ≡ true → set.insert numbers x ≡ numbers
insert_present numbers x present =
    same_set nat_cmp_total nat_cmp-IsAntisymmetric _ _ (λ q.
    set.contains-insert nat_cmp_total numbers x q ∙ ap (λ b. b || set.contains numbers q) (unsigned_tied q x)
    ∙ elim (nat_eq q x) as (λ b. nat_eq q x ≡ b → (b || set.contains numbers q) ≡ set.contains numbers q) [
      | true ↦ λ same. subst (λ q. true ≡ set.contains numbers q) (sym (eqb-true q x same)) (sym present)
      | false ↦ λ differ. refl
    ] refl)

-- one number more
pub distinct_push : (xs : List ℕ) (x : ℕ) → IsDistinct nat_eq xs → set.contains (from_list {R = nat_cmp} xs) x ≡ false → IsDistinct nat_eq (xs ++ x ∷ [])
distinct_push xs x apart absent = IsDistinct-push nat_eq_equiv xs x apart (sym (turned x xs) ∙ sym (contains-from_list_nat xs x) ∙ absent)

pub set_push : (xs : List ℕ) (x : ℕ) → from_list {R = nat_cmp} (xs ++ x ∷ []) ≡ set.insert (from_list xs) x
set_push xs x = from_list_push nat_cmp_total nat_cmp-IsAntisymmetric xs x

-- two lists whose members differ in one number
one_less : (xs ys : List ℕ) (x : ℕ) → ((q : ℕ) → list_any (λ y. nat_eq y q) ys ≡ (not (nat_eq q x) && list_any (λ y. nat_eq y q) xs)) → from_list {R = nat_cmp} ys ≡ set.remove (from_list xs) x
one_less xs ys x less =
    same_set nat_cmp_total nat_cmp-IsAntisymmetric _ _ (λ q.
    contains-from_list_nat ys q ∙ less q
    ∙ sym (set.contains-remove nat_cmp_total (from_list xs) x q ∙ (λ i. not (unsigned_tied q x i) && contains-from_list_nat xs q i)))

absent_first : (x : ℕ) (i : ℕ) (xs : List ℕ) → position_from (λ y. nat_eq y x) i xs ≡ None → list_any (λ y. nat_eq y x) xs ≡ false
absent_first x i [] none = refl
absent_first x i (y ∷ ys) none =
    elim (nat_eq y x) as (λ b. cond b (Some i) (position_from (λ y. nat_eq y x) (i + 1) ys) ≡ None → (b || list_any (λ y. nat_eq y x) ys) ≡ false) [
      | true ↦ λ none. cc
      | false ↦ λ none. absent_first x (i + 1) ys none
    ] none

-- a number that has no place is not taken out
pub remove_absent : (xs : List ℕ) (x : ℕ) → position (λ y. nat_eq y x) xs ≡ None → from_list {R = nat_cmp} xs ≡ set.remove (from_list xs) x
remove_absent xs x none =
    let absent : list_any (λ y. nat_eq y x) xs ≡ false = absent_first x 0 xs (sym (position_from-zero (λ y. nat_eq y x) xs) ∙ none) in
    one_less xs xs x (λ q. elim (nat_eq q x) as (λ b. nat_eq q x ≡ b → list_any (λ y. nat_eq y q) xs ≡ (not b && list_any (λ y. nat_eq y q) xs)) [
      | true ↦ λ same. subst (λ q. list_any (λ y. nat_eq y q) xs ≡ false) (sym (eqb-true q x same)) absent
      | false ↦ λ apart. refl
    ] refl)

others : (xs : List ℕ) (i : ℕ) → i < length xs → IsDistinct nat_eq xs → (q : ℕ) → list_any (λ y. nat_eq y q) (remove xs i) ≡ (not (nat_eq q (get_or xs i 0)) && list_any (λ y. nat_eq y q) xs)
unfolding IsDistinct
others [] i lt apart q = absurd (omega arith)
others (x ∷ xs) zero lt apart q =
    elim (nat_eq x q) as (λ b. nat_eq x q ≡ b → list_any (λ y. nat_eq y q) xs ≡ (not b && (b || list_any (λ y. nat_eq y q) xs))) [
      | true ↦ λ same. subst (λ q. list_any (λ y. nat_eq y q) xs ≡ false) (eqb-true x q same) (none_is x xs apart.0)
      | false ↦ λ differ. refl
    ] refl ∙ ap (λ b. not b && (nat_eq x q || list_any (λ y. nat_eq y q) xs)) (nat_eq_equiv.symm x q)
others (x ∷ xs) (suc i) lt apart q =
    elim (nat_eq x q) as (λ b. nat_eq x q ≡ b → (b || list_any (λ y. nat_eq y q) (remove xs i)) ≡ (not (nat_eq q (get_or xs i 0)) && (b || list_any (λ y. nat_eq y q) xs))) [
      | true ↦ λ same.
          let differ : nat_eq x (get_or xs i 0) ≡ false = apart_from_distinct nat_eq (x ∷ xs) 0 (suc i) 0 apart (omega arith) lt in
          sym (subst (λ q. (not (nat_eq q (get_or xs i 0)) && true) ≡ true) (eqb-true x q same) (ap (λ b. not b && true) differ))
      | false ↦ λ differ. others xs i (omega arith) apart.1 q
    ] refl

-- a number that has a place is taken out of it
pub remove_present : (xs : List ℕ) (x i : ℕ) → position (λ y. nat_eq y x) xs ≡ Some i → IsDistinct nat_eq xs → from_list {R = nat_cmp} (remove xs i) ≡ set.remove (from_list xs) x
remove_present xs x i place apart =
    let at = position-Some (λ y. nat_eq y x) xs i 0 place in
    one_less xs (remove xs i) x (λ q. others xs i at.0 apart q ∙ ap (λ n. not (nat_eq q n) && list_any (λ y. nat_eq y q) xs) (eqb-true _ _ at.1))

kept : (P : ℕ → Type 0) (xs : List ℕ) (i : ℕ) → AllByRecursion P xs → AllByRecursion P (remove xs i)
kept P [] zero all = tt
kept P [] (suc i) all = tt
kept P (x ∷ xs) zero all = all.1
kept P (x ∷ xs) (suc i) all = (all.0, kept P xs i all.1)

-- a list stays without repetition where one number is taken out
pub distinct_remove : (xs : List ℕ) (i : ℕ) → IsDistinct nat_eq xs → IsDistinct nat_eq (remove xs i)
unfolding IsDistinct
distinct_remove [] zero apart = tt
distinct_remove [] (suc i) apart = tt
distinct_remove (x ∷ xs) zero apart = apart.1
distinct_remove (x ∷ xs) (suc i) apart = (kept _ xs i apart.0, distinct_remove xs i apart.1)

-- the same of a set that the list makes, where the place is looked up in a slice of it
pub taken_out : (slice items : List ℕ) (numbers : FinSet nat_cmp) (n x i : ℕ) → slice ≡ items → from_list items ≡ numbers → n ≡ x → Some i ≡ position (λ y. nat_eq y n) slice → IsDistinct nat_eq items → from_list (remove items i) ≡ set.remove numbers x
taken_out slice items numbers n x i same is number place apart =
    remove_present items n i (ap (position (λ y. nat_eq y n)) (sym same) ∙ sym place) apart
    ∙ ap (λ s. set.remove s n) is ∙ ap (set.remove numbers) number

pub not_taken_out : (slice items : List ℕ) (numbers : FinSet nat_cmp) (n x : ℕ) → slice ≡ items → from_list items ≡ numbers → n ≡ x → None ≡ position (λ y. nat_eq y n) slice → numbers ≡ set.remove numbers x
not_taken_out slice items numbers n x same is number none =
    sym is ∙ remove_absent items n (ap (position (λ y. nat_eq y n)) (sym same) ∙ sym none)
    ∙ ap (λ s. set.remove s n) is ∙ ap (set.remove numbers) number
