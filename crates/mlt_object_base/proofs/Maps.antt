-- What the finite map that a list of entries makes has at a key, and how it changes with the list.
use Rattle.std.proofs.Common.{◌≡◌, ℕ, ◌-◌, Bool, true, false, List, [], ◌∷◌, ◌||◌, Option, None, Some, is_some, cond, length, zero, suc, refl, arith, sym, ◌∙◌, ap, nat_cmp}
use Rattle.std.specs.{declared.cmp.Ordering.Ordering, Cmp.IsTotalOrder, FinMap.get-from_entries, FinMap.get-insert, FinMap.get-remove, FinMap.Entries.find, FinMap.Entries.put, FinMap.Entries.by_order, List.list_any, List.Sorted.IsStrictlySortedBy}
use Rattle.mlt_object_base.proofs.Names.{nat_cmp_total, lookup, keys_of, is_at, eq_by_cmp_equiv, with_entry, element_cmp_tells_apart, element_cmp_total, counter_entry, counter_value, element_cmp, element_entry, AreNotZero, IsNotZero, less_one, with_nothing}
use Rattle.std.specs.FinMap as finmap
use Rattle.mlt_object_kinds.proofs.BaseLaws.{same_element}

-- ---- any keys

found : {K X : Type 0} (R : K → K → Ordering) (entries : List (K × X)) (k : K) → find R k entries ≡ lookup (is_at (R k)) entries
found R [] k = refl
found R (e ∷ entries) k = ap (cond (is_at (R k) e.0) (Some e.1)) (found R entries k)

module _ {K X : Type 0} {R : K → K → Ordering} (o : IsTotalOrder R) where
  pub in_map : (entries : List (K × X)) (k : K) → finmap.get (finmap.from_entries {R = R} entries) k ≡ lookup (is_at (R k)) entries
  in_map entries k = get-from_entries o entries k ∙ found R entries k

  entry_at : (m : finmap.FinMap R X) (k : K) (w : Option X) (q : K) → finmap.get (with_entry m k w) q ≡ cond (is_at (R k) q) w (finmap.get m q)
  entry_at m k None q = get-remove o m k q ∙ ap (λ b. cond b None (finmap.get m q)) ((eq_by_cmp_equiv o).symm q k)
  entry_at m k (Some x) q = get-insert o m k x q ∙ ap (λ b. cond b (Some x) (finmap.get m q)) ((eq_by_cmp_equiv o).symm q k)

  -- lists that answer alike but at one key make maps that do so
  pub map_updated : finmap.IsAntisymmetric R → (old new : List (K × X)) (k : K) (w : Option X)
      → ((q : K) → lookup (is_at (R q)) new ≡ cond (is_at (R k) q) w (lookup (is_at (R q)) old))
      → finmap.from_entries {R = R} new ≡ with_entry (finmap.from_entries old) k w
  map_updated same old new k w h =
      finmap.same_map o same _ _ (λ q. in_map new q ∙ h q ∙ ap (cond (is_at (R k) q) w) (sym (in_map old q)) ∙ sym (entry_at (finmap.from_entries old) k w q))

  empty_list : (entries : List (K × X)) → length entries ≡ 0 → entries ≡ []
  empty_list [] is = refl
  empty_list (e ∷ entries) is = absurd (omega arith)

  put_first : (e : K × X) (entries : List (K × X)) → IsStrictlySortedBy R (keys_of (e ∷ entries)) → put R e.0 e.1 entries ≡ e ∷ entries
  unfolding IsStrictlySortedBy
  put_first e [] rise = refl
  put_first e (f ∷ entries) rise = ap (λ o. by_order o (e ∷ f ∷ entries) ((f.0, e.1) ∷ entries) (f ∷ put R e.0 e.1 entries)) rise.0.0

  -- entries whose keys rise are those of the map that they make
  pub entries_that_rise : (entries : List (K × X)) → IsStrictlySortedBy R (keys_of entries) → finmap.entries (finmap.from_entries {R = R} entries) ≡ entries
  unfolding IsStrictlySortedBy
  entries_that_rise [] rise = empty_list _ (sym (finmap.len-entries finmap.empty) ∙ finmap.len-empty R X)
  entries_that_rise (e ∷ entries) rise =
      finmap.entries-insert o (finmap.from_entries entries) e.0 e.1
      ∙ ap (put R e.0 e.1) (entries_that_rise entries rise.1)
      ∙ put_first e entries rise

-- what is changed and then taken out is taken out
pub changed_and_gone : (b : Bool) (changed : ℕ) (other : Option ℕ) → cond b None (cond b (Some changed) other) ≡ cond b None other
changed_and_gone true changed other = refl
changed_and_gone false changed other = refl

-- ---- accounts

pub number_in_map : (entries : List (ℕ × ℕ)) (k : ℕ) → finmap.get (finmap.from_entries {R = nat_cmp} entries) k ≡ lookup (is_at (nat_cmp k)) entries
number_in_map = in_map nat_cmp_total

pub number_map_updated : (old new : List (ℕ × ℕ)) (k : ℕ) (w : Option ℕ)
    → ((q : ℕ) → lookup (is_at (nat_cmp q)) new ≡ cond (is_at (nat_cmp k) q) w (lookup (is_at (nat_cmp q)) old))
    → finmap.from_entries {R = nat_cmp} new ≡ with_entry (finmap.from_entries old) k w
number_map_updated = map_updated nat_cmp_total finmap.nat_cmp-IsAntisymmetric

-- ---- elements

found_key : (keys : List (ℕ × ℕ)) (k : ℕ × ℕ) → is_some (lookup (is_at (element_cmp k)) (with_nothing keys)) ≡ list_any (is_at (element_cmp k)) keys
found_key [] k = refl
found_key (x ∷ keys) k =
    elim (is_at (element_cmp k) x) as (λ b. is_some (cond b (Some tt) (lookup (is_at (element_cmp k)) (with_nothing keys))) ≡ (b || list_any (is_at (element_cmp k)) keys)) [
      | true ↦ refl
      | false ↦ found_key keys k
    ]

pub element_in_map : (keys : List (ℕ × ℕ)) (k : ℕ × ℕ) → is_some (finmap.get (finmap.from_entries {R = element_cmp} (with_nothing keys)) k) ≡ list_any (is_at (element_cmp k)) keys
element_in_map keys k = ap is_some (in_map element_cmp_total (with_nothing keys) k) ∙ found_key keys k

there : (b present : Bool) (o : Option (Unit {0})) → is_some (cond b (element_entry present) o) ≡ cond b present (is_some o)
there true true o = refl
there true false o = refl
there false present o = refl

pub element_map_updated : (old new : List (ℕ × ℕ)) (k : ℕ × ℕ) (present : Bool)
    → ((q : ℕ × ℕ) → list_any (is_at (element_cmp q)) new ≡ cond (is_at (element_cmp k) q) present (list_any (is_at (element_cmp q)) old))
    → finmap.from_entries {R = element_cmp} (with_nothing new) ≡ with_entry (finmap.from_entries (with_nothing old)) k (element_entry present)
element_map_updated old new k present h =
    map_updated element_cmp_total element_cmp_tells_apart (with_nothing old) (with_nothing new) k (element_entry present) (λ q.
    same_element _ _ (
    found_key new q ∙ h q
    ∙ ap (cond (is_at (element_cmp k) q) present) (sym (found_key old q))
    ∙ sym (there (is_at (element_cmp k) q) present (lookup (is_at (element_cmp q)) (with_nothing old)))
    ))

-- ---- counters

abbrev pub lessened : Option ℕ → Option ℕ
lessened None = None
lessened (Some value) = Some (value - 1)

found_value : (entries : List (ℕ × ℕ)) (k : ℕ) → lookup (is_at (nat_cmp k)) (less_one entries) ≡ lessened (lookup (is_at (nat_cmp k)) entries)
found_value [] k = refl
found_value (e ∷ entries) k =
    elim (is_at (nat_cmp k) e.0) as (λ b. cond b (Some (e.1 - 1)) (lookup (is_at (nat_cmp k)) (less_one entries)) ≡ lessened (cond b (Some e.1) (lookup (is_at (nat_cmp k)) entries))) [
      | true ↦ refl
      | false ↦ found_value entries k
    ]

-- the number, or 0
abbrev pub value_of : Option ℕ → ℕ
value_of None = 0
value_of (Some value) = value

grown : (o : Option ℕ) → IsNotZero o → counter_value (lessened o) ≡ value_of o
grown None h = refl
grown (Some value) h = omega arith

pub counter_in_map : (entries : List (ℕ × ℕ)) (k : ℕ) → AreNotZero entries
    → counter_value (finmap.get (finmap.from_entries {R = nat_cmp} (less_one entries)) k) ≡ value_of (lookup (is_at (nat_cmp k)) entries)
counter_in_map entries k h =
    ap counter_value (number_in_map (less_one entries) k ∙ found_value entries k) ∙ grown (lookup (is_at (nat_cmp k)) entries) (h k)

-- what is kept of a value
abbrev pub kept : ℕ → Option ℕ
kept zero = None
kept (suc v) = Some (suc v)

lessened_kept : (b : Bool) (v : ℕ) (o : Option ℕ) → lessened (cond b (kept v) o) ≡ cond b (counter_entry v) (lessened o)
lessened_kept true zero o = refl
lessened_kept true (suc v) o = ap Some (omega arith)
lessened_kept false v o = refl

pub counter_map_updated : (old new : List (ℕ × ℕ)) (k v : ℕ)
    → ((q : ℕ) → lookup (is_at (nat_cmp q)) new ≡ cond (is_at (nat_cmp k) q) (kept v) (lookup (is_at (nat_cmp q)) old))
    → finmap.from_entries {R = nat_cmp} (less_one new) ≡ with_entry (finmap.from_entries (less_one old)) k (counter_entry v)
counter_map_updated old new k v h =
    number_map_updated (less_one old) (less_one new) k (counter_entry v) (λ q.
    found_value new q ∙ ap lessened (h q) ∙ lessened_kept (is_at (nat_cmp k) q) v (lookup (is_at (nat_cmp q)) old)
    ∙ ap (cond (is_at (nat_cmp k) q) (counter_entry v)) (sym (found_value old q)))

pub kept_not_zero : (v : ℕ) → (v ≡ 0 → ⊥) → kept v ≡ Some v
kept_not_zero zero h = absurd (h refl)
kept_not_zero (suc v) h = refl

pub counter_absent : (entries : List (ℕ × ℕ)) (k : ℕ) → lookup (is_at (nat_cmp k)) entries ≡ None → finmap.get (finmap.from_entries {R = nat_cmp} (less_one entries)) k ≡ None
counter_absent entries k h = number_in_map (less_one entries) k ∙ found_value entries k ∙ ap lessened h
