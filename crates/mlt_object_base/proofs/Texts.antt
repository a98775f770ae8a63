-- The lines of what the maps and the set of a base are kept as are the lines of what they stand for.
use Rattle.std.proofs.Common.{◌≡◌, ℕ, ◌+◌, ◌-◌, ◌≤◌, List, [], ◌∷◌, ◌++◌, Option, None, Some, IfSome, Result, Ok, Err, OnOk, refl, sym, ap, ◌∙◌, arith, All, flat_map, nat_cmp}
use Rattle.mlt_object_base.proofs.Names.{eq_by_cmp_equiv, is_at, nat_cmp_total, keys_of, lookup, element_cmp_total, element_cmp, account_line, key_line, value_line, AreNotZero, IsNotZero, less_one, with_nothing}
use Rattle.std.{proofs.lemmas.List.Elements.All-head, proofs.lemmas.List.Elements.All-tail, proofs.lemmas.Map.Keys.IsDistinct-from_sorted, proofs.lemmas.Map.Views.All-values_from_lookup, specs.List.Sorted.IsStrictlySortedBy, specs.Map.values_of}
use Rattle.std.specs.FinMap as map
use Rattle.mlt_object_base.specs.BaseText.{account_lines, counter_line, counter_lines, element_line, element_lines}
use Rattle.mlt_object_base.proofs.Maps.{entries_that_rise}

pub accounts_text : {A E : Type 0} (r : Result A E) (new old : List ℕ) (entries : List (ℕ × ℕ)) (m : map.FinMap nat_cmp ℕ) → map.from_entries entries ≡ m
    → OnOk r (new ≡ old ++ flat_map account_line entries) → OnOk r (IsStrictlySortedBy nat_cmp (keys_of entries)) → OnOk r (new ≡ old ++ account_lines m)
accounts_text (Ok x) new old entries m is text rise =
    text ∙ ap (λ es. old ++ flat_map account_line es) (sym (entries_that_rise nat_cmp_total entries rise)) ∙ ap (λ m. old ++ account_lines m) is
accounts_text (Err e) new old entries m is text rise = tt

keys_with_nothing : (keys : List (ℕ × ℕ)) → keys ≡ keys_of (with_nothing keys)
keys_with_nothing [] = refl
keys_with_nothing (k ∷ keys) = ap (λ ks. k ∷ ks) (keys_with_nothing keys)

lines_with_nothing : (keys : List (ℕ × ℕ)) → flat_map key_line keys ≡ flat_map element_line (with_nothing keys)
lines_with_nothing [] = refl
lines_with_nothing (k ∷ keys) = ap (λ ls. key_line k ++ ls) (lines_with_nothing keys)

rise_with_nothing : (keys : List (ℕ × ℕ)) → IsStrictlySortedBy element_cmp keys → IsStrictlySortedBy element_cmp (keys_of (with_nothing keys))
rise_with_nothing keys rise = rw (← keys_with_nothing keys) rise

pub elements_text : {A E : Type 0} (r : Result A E) (new old : List ℕ) (keys : List (ℕ × ℕ)) (m : map.FinMap element_cmp (Unit {0})) → map.from_entries (with_nothing keys) ≡ m
    → OnOk r (new ≡ old ++ flat_map key_line keys) → OnOk r (IsStrictlySortedBy element_cmp keys) → OnOk r (new ≡ old ++ element_lines m)
elements_text (Ok x) new old keys m is text rise =
    text ∙ ap (λ ls. old ++ ls) (lines_with_nothing keys)
    ∙ ap (λ es. old ++ flat_map element_line es) (sym (entries_that_rise element_cmp_total (with_nothing keys) (rise_with_nothing keys rise)))
    ∙ ap (λ m. old ++ element_lines m) is
elements_text (Err e) new old keys m is text rise = tt

keys_less_one : (entries : List (ℕ × ℕ)) → keys_of entries ≡ keys_of (less_one entries)
keys_less_one [] = refl
keys_less_one (e ∷ entries) = ap (λ ks. e.0 ∷ ks) (keys_less_one entries)

if_not_zero : (o : Option ℕ) → IsNotZero o → IfSome o (λ v. 1 ≤ v)
if_not_zero None h = tt
if_not_zero (Some v) h = h

all_not_zero : (entries : List (ℕ × ℕ)) → AreNotZero entries → IsStrictlySortedBy nat_cmp (keys_of entries) → All (λ v. 1 ≤ v) (values_of entries)
all_not_zero entries h rise =
    All-values_from_lookup (eq_by_cmp_equiv nat_cmp_total) (λ v. 1 ≤ v) entries (IsDistinct-from_sorted nat_cmp (keys_of entries) rise) (λ q. if_not_zero (lookup (is_at (nat_cmp q)) entries) (h q))

lines_less_one : (entries : List (ℕ × ℕ)) → All (λ v. 1 ≤ v) (values_of entries) → flat_map value_line entries ≡ flat_map counter_line (less_one entries)
lines_less_one [] h = refl
lines_less_one (e ∷ entries) h =
    let one : 1 ≤ e.1 = All-head (λ v. 1 ≤ v) e.1 (values_of entries) h in
    let same : e.1 ≡ e.1 - 1 + 1 = omega arith in
    let rest = lines_less_one entries (All-tail (λ v. 1 ≤ v) e.1 (values_of entries) h) in
    λ i. value_line (e.0, same i) ++ rest i

pub counters_text : {A E : Type 0} (r : Result A E) (new old : List ℕ) (entries : List (ℕ × ℕ)) (m : map.FinMap nat_cmp ℕ) → map.from_entries (less_one entries) ≡ m → AreNotZero entries
    → OnOk r (new ≡ old ++ flat_map value_line entries) → OnOk r (IsStrictlySortedBy nat_cmp (keys_of entries)) → OnOk r (new ≡ old ++ counter_lines m)
counters_text (Ok x) new old entries m is h text rise =
    let rise' : IsStrictlySortedBy nat_cmp (keys_of (less_one entries)) = rw (← keys_less_one entries) rise in
    text ∙ ap (λ ls. old ++ ls) (lines_less_one entries (all_not_zero entries h rise))
    ∙ ap (λ es. old ++ flat_map counter_line es) (sym (entries_that_rise nat_cmp_total (less_one entries) rise'))
    ∙ ap (λ m. old ++ counter_lines m) is
counters_text (Err e) new old entries m is h text rise = tt
