-- The live pairs of all pages are the records
use Rattle.std.proofs.Common.{ℕ, zero, suc, ◌≡◌, true, false, List, [], ◌∷◌, ◌++◌, get_or, Option, Some, None, refl, sym, ◌∙◌, ap, inl, inr, ◌⊎◌, is_some, flat_map, nat_cmp, is_eq}
use Rattle.mlt_hash_form.proofs.Names.{list_any, eq_by_cmp, nat_cmp-IsAntisymmetric, nat_cmp_total, cases_Bool, both_ways, cond-true, cond-false, or_cases, same_Some, none-some, Slot, Free, Live, Ghost, BucketFields, Page, bucket_of, buckets_of, IsOnceLive, slot_at, slot_value, live_records}
use Rattle.std.specs.{declared.cmp.Ordering.Ordering, declared.cmp.Ordering.TheVariants.Less, declared.cmp.Ordering.TheVariants.Equal, declared.cmp.Ordering.TheVariants.Greater, Cmp.nat_cmp_is, FinMap.find}
use Rattle.std.specs.FinMap as map
use Rattle.mlt_hash_form.specs.{File.HasRecord, Records.live_pairs, Records.IsRecordMap}

is_equal : (r : Ordering) → is_eq r ≡ true → r ≡ Equal
is_equal Less e = cc
is_equal Equal e = refl
is_equal Greater e = cc

pub tied : (k j : ℕ) → eq_by_cmp nat_cmp k j ≡ true → k ≡ j
tied k j e = nat_cmp-IsAntisymmetric k j (is_equal (nat_cmp k j) e)

pub tied_itself : (k : ℕ) → eq_by_cmp nat_cmp k k ≡ true
tied_itself k = ap is_eq (sym (nat_cmp_is k k Equal refl))

-- a key found in two lists one behind the other is found in one of them
found_in : (k v : ℕ) (xs ys : List (ℕ × ℕ)) → find nat_cmp k (xs ++ ys) ≡ Some v → (find nat_cmp k xs ≡ Some v) ⊎ (find nat_cmp k ys ≡ Some v)
found_in k v [] ys h = inr h
found_in k v (x ∷ xs) ys h =
    let b = eq_by_cmp nat_cmp k x.0 in
    elim (cases_Bool b) [
      | inl e ↦ inl (cond-true b _ _ e ∙ sym (cond-true b _ _ e) ∙ h)
      | inr e ↦ elim (found_in k v xs ys (sym (cond-false b _ _ e) ∙ h)) [
        | inl f ↦ inl (cond-false b _ _ e ∙ f)
        | inr f ↦ inr f
      ]
    ]

found_left : (k v : ℕ) (xs ys : List (ℕ × ℕ)) → find nat_cmp k xs ≡ Some v → find nat_cmp k (xs ++ ys) ≡ Some v
found_left k v [] ys h = absurd (none-some v h)
found_left k v (x ∷ xs) ys h =
    let b = eq_by_cmp nat_cmp k x.0 in
    elim (cases_Bool b) [
      | inl e ↦ cond-true b _ _ e ∙ sym (cond-true b _ _ e) ∙ h
      | inr e ↦ cond-false b _ _ e ∙ found_left k v xs ys (sym (cond-false b _ _ e) ∙ h)
    ]

found_right : (k v : ℕ) (xs ys : List (ℕ × ℕ)) → find nat_cmp k ys ≡ Some v → (w : ℕ) × (find nat_cmp k (xs ++ ys) ≡ Some w)
found_right k v [] ys h = (v, h)
found_right k v (x ∷ xs) ys h =
    let b = eq_by_cmp nat_cmp k x.0 in
    elim (cases_Bool b) [
      | inl e ↦ (x.1, cond-true b _ _ e)
      | inr e ↦ let r = found_right k v xs ys h in (r.0, cond-false b _ _ e ∙ r.1)
    ]

-- the pairs of one bucket
pair_found : (k v : ℕ) (slots : List Slot) → find nat_cmp k (flat_map live_pairs slots) ≡ Some v → (i : ℕ) × (get_or slots i Free ≡ Live k v)
pair_found k v [] h = absurd (none-some v h)
pair_found k v (Free ∷ slots) h = let r = pair_found k v slots h in (suc r.0, r.1)
pair_found k v (Ghost j w owner ∷ slots) h = let r = pair_found k v slots h in (suc r.0, r.1)
pair_found k v (Live j w ∷ slots) h =
    let b = eq_by_cmp nat_cmp k j in
    elim (cases_Bool b) [
      | inl e ↦
          let value : w ≡ v = same_Some _ _ (sym (cond-true b _ _ e) ∙ h) in
          (zero, ap (λ q. Live q w) (sym (tied k j e)) ∙ ap (Live k) value)
      | inr e ↦ let r = pair_found k v slots (sym (cond-false b _ _ e) ∙ h) in (suc r.0, r.1)
    ]

slot_pairs : (k v : ℕ) (s : Slot) → s ≡ Live k v → find nat_cmp k (live_pairs s) ≡ Some v
slot_pairs k v s e = rw e (cond-true (eq_by_cmp nat_cmp k k) (Some v) None (tied_itself k))

pair_is_found : (k v i : ℕ) (slots : List Slot) → get_or slots i Free ≡ Live k v → (w : ℕ) × (find nat_cmp k (flat_map live_pairs slots) ≡ Some w)
pair_is_found k v i [] h = let q : Free ≡ Live k v = h in cc
pair_is_found k v zero (s ∷ slots) h = (v, found_left k v (live_pairs s) _ (slot_pairs k v s h))
pair_is_found k v (suc i) (s ∷ slots) h =
    let r = pair_is_found k v i slots h in
    found_right k r.0 (live_pairs s) _ r.1

-- the pairs of many pages
page_found : (k v : ℕ) (pairs : ℕ → List (ℕ × ℕ)) (numbers : List ℕ) → find nat_cmp k (flat_map pairs numbers) ≡ Some v → (n : ℕ) × (find nat_cmp k (pairs n) ≡ Some v)
page_found k v pairs [] h = absurd (none-some v h)
page_found k v pairs (n ∷ numbers) h =
    elim (found_in k v (pairs n) (flat_map pairs numbers) h) [
      | inl e ↦ (n, e)
      | inr e ↦ page_found k v pairs numbers e
    ]

page_is_found : (k v n : ℕ) (pairs : ℕ → List (ℕ × ℕ)) (numbers : List ℕ) → list_any (eq_by_cmp nat_cmp n) numbers ≡ true → find nat_cmp k (pairs n) ≡ Some v → (w : ℕ) × (find nat_cmp k (flat_map pairs numbers) ≡ Some w)
page_is_found k v n pairs [] h e = absurd (both_ways false refl h)
page_is_found k v n pairs (m ∷ numbers) h e =
    elim (or_cases (eq_by_cmp nat_cmp n m) (list_any (eq_by_cmp nat_cmp n) numbers) h) [
      | inl same ↦ (v, found_left k v (pairs m) _ (ap (λ q. find nat_cmp k (pairs q)) (sym (tied n m same)) ∙ e))
      | inr later ↦ let r = page_is_found k v n pairs numbers later e in found_right k r.0 (pairs m) _ r.1
    ]

-- a page with a live slot is there
some_page : (p : Option Page) (i k v : ℕ) → get_or (bucket_of p).slots i Free ≡ Live k v → is_some p ≡ true
some_page None i k v e = let q : Free ≡ Live k v = e in cc
some_page (Some p) i k v e = refl

same_value : (buckets : ℕ → BucketFields) (n m i j k v w : ℕ) → n ≡ m → i ≡ j → slot_at buckets n i ≡ Live k v → slot_at buckets m j ≡ Live k w → v ≡ w
same_value buckets n m i j k v w e f p q =
    let p' : slot_at buckets m j ≡ Live k v = rw (← e, ← f) p in
    ap slot_value (sym p' ∙ q)

module _ (pages : map.FinMap nat_cmp Page) where
  abbrev pairs_on : ℕ → List (ℕ × ℕ)
  pairs_on n = flat_map live_pairs (buckets_of (map.get pages) n).slots

  abbrev all_pairs : List (ℕ × ℕ)
  all_pairs = flat_map pairs_on (map.keys pages)

  record_from : (k v : ℕ) → find nat_cmp k all_pairs ≡ Some v → HasRecord (map.get pages) k v
  record_from k v h =
      let p = page_found k v pairs_on (map.keys pages) h in
      let s = pair_found k v _ p.1 in
      (p.0, s.0, s.1)

  pub records_are_the_map : IsOnceLive (map.get pages) → IsRecordMap (live_records pages) (map.get pages)
  records_are_the_map once k v = (
    (λ (h : map.get (live_records pages) k ≡ Some v). record_from k v (sym (map.get-from_entries nat_cmp_total all_pairs k) ∙ h)),
    (λ (h : HasRecord (map.get pages) k v).
        let there : is_some (map.get pages h.0) ≡ true = some_page (map.get pages h.0) h.1 k v h.2 in
        let listed = sym (map.contains_key-keys pages h.0) ∙ there in
        let on_page = pair_is_found k v h.1 (buckets_of (map.get pages) h.0).slots h.2 in
        let some = page_is_found k on_page.0 h.0 pairs_on (map.keys pages) listed on_page.1 in
        let r = record_from k some.0 some.1 in
        let same = once h.0 r.0 h.1 r.1 k v some.0 h.2 r.2 in
        let value = same_value (buckets_of (map.get pages)) h.0 r.0 h.1 r.1 k v some.0 same.0 same.1 h.2 r.2 in
        map.get-from_entries nat_cmp_total all_pairs k ∙ some.1 ∙ ap Some (sym value)),
  )
