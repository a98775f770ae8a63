-- A place that was found in the map, by its index there.
use Rattle.mlt_object_locks.proofs.Names.{zero, list_all, nat_tests, IndexMap, IsUnique, Updates, Holder, is_of, is_not_of, ChangesAt, list_at}
use Rattle.std.proofs.Common.{◌≡◌, ℕ, suc, List, [], ◌∷◌, true, false, Some, nat_eq, slice_get, sym, ap, subst, refl, ◌∙◌, true≢false, arith, unwrap_or, filter}
use Rattle.std.specs.{Cmp.nat_eq_equiv, List.IsDistinct, Map.lookup_key, Map.values_of}
use Rattle.indexmap.{specs.IndexMap.get, specs.IndexMap.values, specs.IndexMap.with_value_at, proofs.CallerLemmas.keys-with_value_at, proofs.CallerLemmas.updates-with_value_at}
use Rattle.mlt_object_locks.proofs.Entries.{differ}

pub same_some : {A : Type 0} {x y : A} → Some x ≡ Some y → x ≡ y
same_some {A} {x} e = ap (λ r. unwrap_or r x) e

-- the key that is found is the one that was looked for
pub same_key : {X : Type 0} (entries : List (ℕ × X)) (key k : ℕ) → lookup_key (nat_eq key) entries ≡ Some k → k ≡ key
same_key [] key k is = absurd (cc)
same_key (entry ∷ entries) key k is = let rest = same_key entries key k in grind (arith, nat_tests)

-- the value beside it
value_there : {X : Type 0} (entries : List (ℕ × X)) (at : ℕ) (entry : ℕ × X) → slice_get entries at ≡ Some entry → slice_get (values_of entries) at ≡ Some entry.1
value_there [] at entry is = absurd (cc)
value_there {X} (e ∷ entries) zero entry is = ap (λ (p : ℕ × X). Some p.1) (same_some is)
value_there (e ∷ entries) (suc at) entry is = value_there entries at entry is

module _ {S : Type 0} (cells : IndexMap ℕ (List Holder) S) (key at : ℕ) (is : slice_get cells.entries at ≡ Some (key, list_at cells key)) where
  -- what stands at the index is the place's list
  pub list_there : (holders : List Holder) → slice_get (values cells) at ≡ Some holders → holders ≡ list_at cells key
  list_there holders there = same_some (sym there ∙ value_there cells.entries at (key, list_at cells key) is)

  -- a write at the index
  module _ (unique : IsUnique nat_eq cells) (new : List Holder) where
    abbrev after : IndexMap ℕ (List Holder) S
    after = with_value_at cells at new

    updates : Updates nat_eq cells after key (Some new)
    updates = updates-with_value_at cells at new nat_eq_equiv unique key (list_at cells key) is

    pub written : get nat_eq after key ≡ Some new
    written = updates.1

    pub written_list : list_at after key ≡ new
    written_list = ap (λ o. unwrap_or o []) written

    pub changes_there : ChangesAt cells after key
    changes_there = record {
      same = λ other ne. ap (λ o. unwrap_or o []) (updates.2 other (differ key other ne));
      unique = subst (IsDistinct nat_eq) (sym (keys-with_value_at cells at new)) unique;
    }

-- ---- one who is alone at a place

-- takes all away
pub all_go : (holders : List Holder) (tx : ℕ) → list_all (is_of tx) holders ≡ true → filter (is_not_of tx) holders ≡ []
all_go [] tx all = refl
all_go (holder ∷ holders) tx all = let rest = all_go holders tx in grind (arith, nat_tests)

-- and one who is not leaves some
pub some_stay : (holders : List Holder) (tx : ℕ) → list_all (is_of tx) holders ≡ false → filter (is_not_of tx) holders ≡ [] → ⊥
some_stay [] tx some none = absurd (true≢false some)
some_stay (holder ∷ holders) tx some none = let rest = some_stay holders tx in grind (arith, nat_tests)
