-- A file as it is opened matches the history in which nothing has begun.
use Rattle.std.proofs.Common.{◌≡◌, ℕ, ◌≤◌, false, Option, Bool, None, is_some, refl, sym, subst, ap, ◌∙◌, arith, nat_cmp}
use Rattle.mlt_tx_meaning.proofs.Names.{both_ways, key_number, Cell, Page, empty_base, state_at, AccountState, ElementState, CounterState, Means, IsRecord, counter_of_record, state_of_record, Fresh, Running, contains-nothing, GivesPseudokeys, header_of, live_records, PagesMeanHistory, ledger_of}
use Rattle.std.specs.FinMap as map
use Rattle.std.specs.FinSet as set
use Rattle.mlt_types.specs.declared.cell.Cell.TheVariants.{Account, Element, Counter, Size}
use Rattle.mlt_object_kinds.{specs.Bases.counter_value, specs.Bases.element_cmp, proofs.Sizes.size_of_empty}
use Rattle.mlt_hash_form.{specs.Changes.IsOpening, proofs.MapChanges.opening_map, proofs.OpeningFile.opening_has_form, proofs.OpeningFile.opening_is_free}
use Rattle.mlt_hash_ghosts.proofs.Transactions.{free_file}
use Rattle.mlt_tx_meaning.specs.Events.{new_state}

-- the record of an absent key can be there, and means what the empty base has
absent_can_be : (c : Cell) → IsRecord c None
absent_can_be (Account a) = tt
absent_can_be (Element s e) = tt
absent_can_be (Counter c) = omega arith
absent_can_be (Size s) = omega arith

empty_state : (c : Cell) → state_at empty_base c ≡ state_of_record c None
empty_state (Account a) = ap AccountState (map.get-empty nat_cmp a)
empty_state (Element s e) = ap (λ (o : Option (Unit {0})). ElementState (is_some o)) (map.get-empty element_cmp (s, e))
empty_state (Counter c) = ap (λ (o : Option ℕ). CounterState (counter_value o)) (map.get-empty nat_cmp c)
empty_state (Size s) = refl

-- no record means the empty base
pub empty_means : (records : map.FinMap nat_cmp ℕ) → records ≡ map.empty → Means records empty_base
empty_means records none =
    let absent : (key : ℕ) → map.get records key ≡ None = λ key. ap (λ (r : map.FinMap nat_cmp ℕ). map.get r key) none ∙ map.get-empty nat_cmp key in
    record {
      can_be = λ c is. subst (IsRecord c) (sym (absent (key_number c))) (absent_can_be c);
      holds = λ c is. empty_state c ∙ ap (state_of_record c) (sym (absent (key_number c)));
      elsewhere = λ c not. empty_state c;
      sized = λ s is. ap counter_of_record (absent (key_number (Size s))) ∙ sym (size_of_empty s);
    }

module _ (bits : ℕ → ℕ) (root max_depth : ℕ) (pages : map.FinMap nat_cmp Page) (undoing : ℕ → Bool) (d n : ℕ) where
  pub opening_matches : GivesPseudokeys bits → max_depth ≤ 16 → IsOpening (map.get pages) root d n → PagesMeanHistory (new_state bits root max_depth pages undoing)
  opening_matches bounded small is =
      let none_open : (i : ℕ) → set.contains (set.empty {R = nat_cmp}) i ≡ false = λ i. set.contains-empty nat_cmp i in
      record {
        file = record {
          bounded = bounded;
          small = small;
          form = opening_has_form bits (map.get pages) root d n is;
          shallow = subst (λ (depth : ℕ). depth ≤ max_depth) (sym (ap (λ p. (header_of p).depth) is.head)) (omega arith);
          ghosts = free_file (ledger_of (new_state bits root max_depth pages undoing)) refl (opening_is_free bits (map.get pages) root d n is);
        };
        records = record {
          means = empty_means (live_records pages) (opening_map pages root d n is);
          history = refl;
          running = λ i. (λ o. absurd (both_ways _ (none_open i) o), λ r. let f : Fresh ≡ Running = r in cc f);
          fresh = λ i above. refl;
          in_range = λ i item there. absurd (contains-nothing item there);
          counted = λ i item there. absurd (contains-nothing item there);
          sized = λ i item there. absurd (contains-nothing item there);
        };
      }
