-- The table of slots: the first slot of a number counts.
use Rattle.mlt_tx.proofs.Names.{zero, nat_tests, get_inserted, same_entries, Transaction, TxSlot, ChangesOne, Table, AreTxSlots, is_free, is_slot_of, table_of}
use Rattle.std.proofs.Common.{◌≡◌, ℕ, suc, ◌≤◌, ◌<◌, ◌+◌, eqb, true, false, not, cond, ◌&&◌, Some, None, is_some, IsSome, List, [], ◌∷◌, ◌++◌, length, get_or, set, refl, sym, ap, subst, ◌∙◌, arith, position, nat_cmp, Option, IfSome, IfNone}
use Rattle.std.{proofs.lemmas.List.get_or_default, specs.List.position_from, specs.Cmp.nat_cmp_total, proofs.lemmas.Iterator.Adapters.position_from-zero, proofs.lemmas.List.Quantifiers.position-Some, proofs.lemmas.List.Sums.position_or_len_is}
use Rattle.std.specs.FinMap as map
use Rattle.mlt_page_locks.proofs.Maps.{get_removed}
use Rattle.mlt_tx.specs.TxSlots.{HasOneEach, IsFreeAt, slots_taken}

-- under a number stands who lies in the first slot of it
pub get-table_of : (slot : TxSlot) (slots : List TxSlot) (u : ℕ) → map.get (table_of (slot ∷ slots)) u ≡ cond (is_slot_of u slot) (Some slot.transaction.value) (map.get (table_of slots) u)
get-table_of slot slots u =
    elim (is_free slot) as (λ b. map.get (cond b (table_of slots) (map.insert (table_of slots) slot.tx slot.transaction.value)) u ≡ cond (eqb slot.tx u && not b) (Some slot.transaction.value) (map.get (table_of slots) u)) [
      | true ↦ grind arith
      | false ↦ grind (arith, nat_tests, get_inserted (table_of slots) slot.tx slot.transaction.value u)
    ]

-- the numbers are no more than the slots that are taken
len-table_of : (slots : List TxSlot) → map.len (table_of slots) ≤ slots_taken slots
len-table_of [] = grind (arith, map.len-empty nat_cmp Transaction)
len-table_of (slot ∷ slots) = grind (arith, len-table_of slots, map.len-insert nat_cmp_total (table_of slots) slot.tx slot.transaction.value)

-- where they are as many, no number has a second slot
pub record OneEach (slots : List TxSlot) : Type 0 where
  pub as_many : map.len (table_of slots) ≡ slots_taken slots

pub later : (slot : TxSlot) (slots : List TxSlot) → OneEach (slot ∷ slots) → OneEach slots
later slot slots one = record { as_many = grind (arith, one.as_many, len-table_of slots, map.len-insert nat_cmp_total (table_of slots) slot.tx slot.transaction.value) }

pub no_second : (slot : TxSlot) (slots : List TxSlot) → OneEach (slot ∷ slots) → is_free slot ≡ false → is_some (map.get (table_of slots) slot.tx) ≡ false
no_second slot slots one used = grind (arith, one.as_many, len-table_of slots, map.len-insert nat_cmp_total (table_of slots) slot.tx slot.transaction.value)

-- so whoever lies in a slot stands under its number
pub stands_in_table : (slots : List TxSlot) (i : ℕ) (d : TxSlot) → OneEach slots → i < length slots → is_free (get_or slots i d) ≡ false → map.get (table_of slots) (get_or slots i d).tx ≡ Some (get_or slots i d).transaction.value
stands_in_table [] i d one within used = absurd (omega arith)
stands_in_table (slot ∷ slots) zero d one within used = grind (arith, nat_tests, get-table_of slot slots slot.tx)
stands_in_table (slot ∷ slots) (suc i) d one within used =
    let rest = stands_in_table slots i d (later slot slots one) (omega arith) used in
    grind (arith, nat_tests, get-table_of slot slots (get_or slots i d).tx, no_second slot slots one, rest)

found : (slots : List TxSlot) (tx i : ℕ) (d : TxSlot) → i < length slots → is_slot_of tx (get_or slots i d) ≡ true → ((k : ℕ) → k < i → is_slot_of tx (get_or slots k d) ≡ false) → map.get (table_of slots) tx ≡ Some (get_or slots i d).transaction.value
found [] tx i d within there before = absurd (omega arith)
found (slot ∷ slots) tx zero d within there before = grind (arith, get-table_of slot slots tx)
found (slot ∷ slots) tx (suc i) d within there before =
    let first : is_slot_of tx slot ≡ false = before 0 (omega arith) in
    grind (arith, get-table_of slot slots tx, found slots tx i d (omega arith) there (λ k h. before (suc k) (omega arith)))

absent_from : (slots : List TxSlot) (tx n : ℕ) → position_from (is_slot_of tx) n slots ≡ None → map.get (table_of slots) tx ≡ None
absent_from [] tx n none = map.get-empty nat_cmp tx
absent_from (slot ∷ slots) tx n none =
    elim (is_slot_of tx slot) as (λ b. is_slot_of tx slot ≡ b → cond b (Some n) (position_from (is_slot_of tx) (n + 1) slots) ≡ None → map.get (table_of (slot ∷ slots)) tx ≡ None) [
      | true ↦ λ is none. cc
      | false ↦ λ is none. grind (arith, get-table_of slot slots tx, absent_from slots tx (n + 1) none)
    ] refl none

-- so no slot before one of a number is of it
not_before : (slots : List TxSlot) (tx at : ℕ) (d : TxSlot) → OneEach slots → at < length slots → is_slot_of tx (get_or slots at d) ≡ true → (k : ℕ) → k < at → is_slot_of tx (get_or slots k d) ≡ false
not_before [] tx at d one within there k before = absurd (omega arith)
not_before (slot ∷ slots) tx zero d one within there k before = absurd (omega arith)
not_before (slot ∷ slots) tx (suc at) d one within there zero before =
    let used : is_free (get_or slots at d) ≡ false = grind (arith, there) in
    let stands = stands_in_table slots at d (later slot slots one) (omega arith) used in
    grind (arith, nat_tests, there, stands, no_second slot slots one)
not_before (slot ∷ slots) tx (suc at) d one within there (suc k) before = not_before slots tx at d (later slot slots one) (omega arith) there k (omega arith)

-- and where one of it is, it is found
pub found_where : (slots : List TxSlot) (tx at : ℕ) (d : TxSlot) → HasOneEach slots → at < length slots → is_slot_of tx (get_or slots at d) ≡ true → position (is_slot_of tx) slots ≡ Some at
found_where slots tx at d one within there =
    let first = position_or_len_is (is_slot_of tx) slots at d (omega arith) (not_before slots tx at d (record { as_many = one }) within there) (λ _. there) in
    grind (arith, nat_tests)

pub get-table_of_place : (slots : List TxSlot) (tx i : ℕ) (d : TxSlot) → position (is_slot_of tx) slots ≡ Some i → map.get (table_of slots) tx ≡ Some (get_or slots i d).transaction.value
get-table_of_place slots tx i d at = let p = position-Some (is_slot_of tx) slots i d at in found slots tx i d p.0 p.1 p.2

pub get-table_of_none : (slots : List TxSlot) (tx : ℕ) → position (is_slot_of tx) slots ≡ None → map.get (table_of slots) tx ≡ None
get-table_of_none slots tx none = absent_from slots tx 0 (sym (position_from-zero (is_slot_of tx) slots) ∙ none)

-- nobody lies where there is no slot
pub no_slots : AreTxSlots [] 0
no_slots = record { one_each = map.len-empty nat_cmp Transaction; counted = refl }

-- ---- one slot is replaced

taken-set : (slots : List TxSlot) (i : ℕ) (d new : TxSlot) → i < length slots → slots_taken (set slots i new) + cond (is_free (get_or slots i d)) 0 1 ≡ slots_taken slots + cond (is_free new) 0 1
taken-set [] i d new within = absurd (omega arith)
taken-set (slot ∷ slots) zero d new within = grind arith
taken-set (slot ∷ slots) (suc i) d new within = grind (arith, taken-set slots i d new (omega arith))

replaced : (slots : List TxSlot) (tx i : ℕ) (d new : TxSlot) → i < length slots → is_slot_of tx (get_or slots i d) ≡ true → ((k : ℕ) → k < i → is_slot_of tx (get_or slots k d) ≡ false) → new.tx ≡ tx → is_free new ≡ false
    → (u : ℕ) → map.get (table_of (set slots i new)) u ≡ cond (eqb u tx) (Some new.transaction.value) (map.get (table_of slots) u)
replaced [] tx i d new within there before mine used u = absurd (omega arith)
replaced (slot ∷ slots) tx zero d new within there before mine used u = grind (arith, nat_tests, get-table_of slot slots u, get-table_of new slots u)
replaced (slot ∷ slots) tx (suc i) d new within there before mine used u =
    let first : is_slot_of tx slot ≡ false = before 0 (omega arith) in
    grind (arith, nat_tests, get-table_of slot slots u, get-table_of slot (set slots i new) u, replaced slots tx i d new (omega arith) there (λ k h. before (suc k) (omega arith)) mine used u)

taken : (slots : List TxSlot) (tx i : ℕ) (d new : TxSlot) → i < length slots → is_free (get_or slots i d) ≡ true → map.get (table_of slots) tx ≡ None → new.tx ≡ tx → is_free new ≡ false
    → (u : ℕ) → map.get (table_of (set slots i new)) u ≡ cond (eqb u tx) (Some new.transaction.value) (map.get (table_of slots) u)
taken [] tx i d new within free none mine used u = absurd (omega arith)
taken (slot ∷ slots) tx zero d new within free none mine used u = grind (arith, nat_tests, get-table_of slot slots u, get-table_of new slots u)
taken (slot ∷ slots) tx (suc i) d new within free none mine used u =
    let first : is_slot_of tx slot ≡ false = grind (arith, get-table_of slot slots tx) in
    let rest : map.get (table_of slots) tx ≡ None = grind (arith, get-table_of slot slots tx) in
    grind (arith, nat_tests, get-table_of slot slots u, get-table_of slot (set slots i new) u, taken slots tx i d new (omega arith) free rest mine used u)

added : (slots : List TxSlot) (tx : ℕ) (new : TxSlot) → map.get (table_of slots) tx ≡ None → new.tx ≡ tx → is_free new ≡ false
    → (u : ℕ) → map.get (table_of (slots ++ new ∷ [])) u ≡ cond (eqb u tx) (Some new.transaction.value) (map.get (table_of slots) u)
added [] tx new none mine used u = grind (arith, nat_tests, get-table_of new [] u)
added (slot ∷ slots) tx new none mine used u =
    let first : is_slot_of tx slot ≡ false = grind (arith, get-table_of slot slots tx) in
    let rest : map.get (table_of slots) tx ≡ None = grind (arith, get-table_of slot slots tx) in
    grind (arith, nat_tests, get-table_of slot slots u, get-table_of slot (slots ++ new ∷ []) u, added slots tx new rest mine used u)

taken-push : (slots : List TxSlot) (new : TxSlot) → is_free new ≡ false → slots_taken (slots ++ new ∷ []) ≡ slots_taken slots + 1
taken-push [] new used = grind arith
taken-push (slot ∷ slots) new used = grind (arith, taken-push slots new used)

cleared : (slots : List TxSlot) (tx i : ℕ) (d new : TxSlot) → OneEach slots → i < length slots → is_slot_of tx (get_or slots i d) ≡ true → ((k : ℕ) → k < i → is_slot_of tx (get_or slots k d) ≡ false) → is_free new ≡ true
    → (u : ℕ) → map.get (table_of (set slots i new)) u ≡ cond (eqb u tx) None (map.get (table_of slots) u)
cleared [] tx i d new one within there before free u = absurd (omega arith)
cleared (slot ∷ slots) tx zero d new one within there before free u =
    let used : is_free slot ≡ false = grind arith in
    grind (arith, nat_tests, get-table_of slot slots u, get-table_of new slots u, no_second slot slots one used)
cleared (slot ∷ slots) tx (suc i) d new one within there before free u =
    let first : is_slot_of tx slot ≡ false = before 0 (omega arith) in
    grind (arith, nat_tests, get-table_of slot slots u, get-table_of slot (set slots i new) u, cleared slots tx i d new (later slot slots one) (omega arith) there (λ k h. before (suc k) (omega arith)) free u)

-- ---- what a change leaves

-- the table, and again one slot for each number
pub record Changed (slots slots' : List TxSlot) (taken : ℕ) (table : Table) : Type 0 where
  pub makes : table_of slots' ≡ table
  pub are_slots : AreTxSlots slots' taken

used_slot : (tx : ℕ) (slot : TxSlot) → is_slot_of tx slot ≡ true → is_free slot ≡ false
used_slot tx slot h = grind arith

own_number : (tx : ℕ) (slot : TxSlot) → is_slot_of tx slot ≡ true → slot.tx ≡ tx
own_number tx slot h = grind (arith, nat_tests)

-- the number of a slot that was found
pub number_in_slot : (slots looked : List TxSlot) (tx i : ℕ) (d : TxSlot) → looked ≡ slots → Some i ≡ position (is_slot_of tx) looked → ((get_or slots i d).tx ≡ tx) × (is_free (get_or slots i d) ≡ false)
number_in_slot slots looked tx i d look at =
    let p = position-Some (is_slot_of tx) slots i d (ap (position (is_slot_of tx)) (sym look) ∙ sym at) in
    (own_number tx (get_or slots i d) p.1, used_slot tx (get_or slots i d) p.1)

-- somebody lies there who stands in the table
pub who_sits : (slots looked : List TxSlot) (tx i : ℕ) (d : TxSlot) → looked ≡ slots → Some i ≡ position (is_slot_of tx) looked → map.get (table_of slots) tx ≡ Some (get_or slots i d).transaction.value
who_sits slots looked tx i d look at = get-table_of_place slots tx i d (ap (position (is_slot_of tx)) (sym look) ∙ sym at)

-- a slot that was seen is free
pub free_at : (slots : List TxSlot) (at : ℕ) (d : TxSlot) → at < length slots → is_free (get_or slots at d) ≡ true → IsFreeAt slots at
free_at slots at d within free = record { within = within; free = λ e. ap is_free (get_or_default slots at e d within) ∙ free }

-- and one that a search found
pub free_found : (slots : List TxSlot) (found : Option ℕ) → found ≡ position is_free slots → IfSome found (IsFreeAt slots)
free_found slots None is = tt
free_found slots (Some at) is = record {
  within = let found = is in grind (arith, nat_tests);
  free = λ d. (position-Some is_free slots at d (sym is)).1;
}

pub none_found : (slots : List TxSlot) (found : Option ℕ) → found ≡ position is_free slots → IfNone found (position is_free slots ≡ None)
none_found slots None is = sym is
none_found slots (Some at) is = tt

-- a slot that is taken is one less that is free
pub one_is_free : (slots looked : List TxSlot) (i : ℕ) (d : TxSlot) → looked ≡ slots → IsFreeAt looked i → slots_taken slots < length slots
one_is_free slots looked i d look at =
    let free = subst (λ (l : List TxSlot). IsFreeAt l i) look at in
    fewer slots i d free.within (free.free d)
  where
    most : (slots : List TxSlot) → slots_taken slots ≤ length slots
    most [] = omega arith
    most (slot ∷ slots) = grind (arith, most slots)

    fewer : (slots : List TxSlot) (i : ℕ) (d : TxSlot) → i < length slots → is_free (get_or slots i d) ≡ true → slots_taken slots < length slots
    fewer [] i d within free = absurd (omega arith)
    fewer (slot ∷ slots) zero d within free = grind (arith, most slots)
    fewer (slot ∷ slots) (suc i) d within free = grind (arith, fewer slots i d (omega arith) free)

pub no_more_taken : (slots : List TxSlot) → slots_taken slots ≤ length slots
no_more_taken [] = omega arith
no_more_taken (slot ∷ slots) = grind (arith, no_more_taken slots)

-- somebody is in a slot that is taken
pub some_taken : (slots looked : List TxSlot) (tx i : ℕ) (d : TxSlot) → looked ≡ slots → Some i ≡ position (is_slot_of tx) looked → 0 < slots_taken slots
some_taken slots looked tx i d look at =
    let p = position-Some (is_slot_of tx) slots i d (ap (position (is_slot_of tx)) (sym look) ∙ sym at) in
    let used = used_slot tx (get_or slots i d) p.1 in
    some slots i d p.0 used
  where
    some : (slots : List TxSlot) (i : ℕ) (d : TxSlot) → i < length slots → is_free (get_or slots i d) ≡ false → 0 < slots_taken slots
    some [] i d within used = absurd (omega arith)
    some (slot ∷ slots) zero d within used = grind arith
    some (slot ∷ slots) (suc i) d within used = grind (arith, some slots i d (omega arith) used)

-- the transaction of a number, which has a slot, becomes this one
pub own_slot : (slots looked : List TxSlot) (count tx i : ℕ) (d new : TxSlot) → AreTxSlots slots count → looked ≡ slots → Some i ≡ position (is_slot_of tx) looked → new.tx ≡ tx → is_free new ≡ false
    → Changed slots (set slots i new) count (map.insert (table_of slots) tx new.transaction.value)
own_slot slots looked count tx i d new is look at mine used =
    let place : position (is_slot_of tx) slots ≡ Some i = ap (position (is_slot_of tx)) (sym look) ∙ sym at in
    let p = position-Some (is_slot_of tx) slots i d place in
    let there : map.get (table_of slots) tx ≡ Some (get_or slots i d).transaction.value = get-table_of_place slots tx i d place in
    let table : table_of (set slots i new) ≡ map.insert (table_of slots) tx new.transaction.value =
    same_entries _ _ (λ u. replaced slots tx i d new p.0 p.1 p.2 mine used u ∙ sym (get_inserted (table_of slots) tx new.transaction.value u)) in
    let was_used : is_free (get_or slots i d) ≡ false = used_slot tx (get_or slots i d) p.1 in
    let same : slots_taken (set slots i new) ≡ slots_taken slots = grind (arith, taken-set slots i d new p.0) in
    record {
      makes = table;
      are_slots = record {
        one_each = ap map.len table ∙ grind (arith, is.one_each, map.len-insert nat_cmp_total (table_of slots) tx new.transaction.value);
        counted = is.counted ∙ sym same;
      };
    }

-- a number that has none gets a slot that is free
pub slot_given : (slots looked : List TxSlot) (count tx i : ℕ) (d new : TxSlot) → AreTxSlots slots count → looked ≡ slots → map.get (table_of slots) tx ≡ None → IsFreeAt looked i → new.tx ≡ tx → is_free new ≡ false
    → Changed slots (set slots i new) (count + 1) (map.insert (table_of slots) tx new.transaction.value)
slot_given slots looked count tx i d new is look none at mine used =
    let is_there = subst (λ (l : List TxSlot). IsFreeAt l i) look at in
    let free = is_there.free d in
    let table : table_of (set slots i new) ≡ map.insert (table_of slots) tx new.transaction.value =
    same_entries _ _ (λ u. taken slots tx i d new is_there.within free none mine used u ∙ sym (get_inserted (table_of slots) tx new.transaction.value u)) in
    let more : slots_taken (set slots i new) ≡ slots_taken slots + 1 = grind (arith, free, taken-set slots i d new is_there.within) in
    record {
      makes = table;
      are_slots = record {
        one_each = ap map.len table ∙ grind (arith, is.one_each, map.len-insert nat_cmp_total (table_of slots) tx new.transaction.value);
        counted = ap (λ n. n + 1) is.counted ∙ sym more;
      };
    }

-- or one more
pub one_more_slot : (slots : List TxSlot) (count tx : ℕ) (new : TxSlot) → AreTxSlots slots count → map.get (table_of slots) tx ≡ None → new.tx ≡ tx → is_free new ≡ false
    → Changed slots (slots ++ new ∷ []) (count + 1) (map.insert (table_of slots) tx new.transaction.value)
one_more_slot slots count tx new is none mine used =
    let table : table_of (slots ++ new ∷ []) ≡ map.insert (table_of slots) tx new.transaction.value =
    same_entries _ _ (λ u. added slots tx new none mine used u ∙ sym (get_inserted (table_of slots) tx new.transaction.value u)) in
    let more : slots_taken (slots ++ new ∷ []) ≡ slots_taken slots + 1 = taken-push slots new used in
    record {
      makes = table;
      are_slots = record {
        one_each = ap map.len table ∙ grind (arith, is.one_each, map.len-insert nat_cmp_total (table_of slots) tx new.transaction.value);
        counted = ap (λ n. n + 1) is.counted ∙ sym more;
      };
    }

-- a number gives its slot back
pub freed_slot : (slots looked : List TxSlot) (count less tx i : ℕ) (d new : TxSlot) → AreTxSlots slots count → looked ≡ slots → Some i ≡ position (is_slot_of tx) looked → is_free new ≡ true → less + 1 ≡ count
    → Changed slots (set slots i new) less (map.remove (table_of slots) tx)
freed_slot slots looked count less tx i d new is look at free one_less =
    let place : position (is_slot_of tx) slots ≡ Some i = ap (position (is_slot_of tx)) (sym look) ∙ sym at in
    let p = position-Some (is_slot_of tx) slots i d place in
    let there : map.get (table_of slots) tx ≡ Some (get_or slots i d).transaction.value = get-table_of_place slots tx i d place in
    let table : table_of (set slots i new) ≡ map.remove (table_of slots) tx =
    same_entries _ _ (λ u. cleared slots tx i d new (record { as_many = is.one_each }) p.0 p.1 p.2 free u ∙ sym (get_removed (table_of slots) tx u)) in
    let was_used : is_free (get_or slots i d) ≡ false = used_slot tx (get_or slots i d) p.1 in
    let fewer : slots_taken (set slots i new) + 1 ≡ slots_taken slots = grind (arith, taken-set slots i d new p.0) in
    let counted = is.counted in
    record {
      makes = table;
      are_slots = record {
        one_each = ap map.len table ∙ grind (arith, is.one_each, map.len-remove nat_cmp_total (table_of slots) tx);
        counted = omega arith;
      };
    }

-- who has no slot can't give one back
pub none_freed : (slots looked : List TxSlot) (tx : ℕ) → looked ≡ slots → None ≡ position (is_slot_of tx) looked → table_of slots ≡ map.remove (table_of slots) tx
none_freed slots looked tx look none =
    let absent : map.get (table_of slots) tx ≡ None = get-table_of_none slots tx (ap (position (is_slot_of tx)) (sym look) ∙ sym none) in
    same_entries _ _ (λ u. unchanged absent u ∙ sym (get_removed (table_of slots) tx u))
  where
    unchanged : map.get (table_of slots) tx ≡ None → (u : ℕ) → map.get (table_of slots) u ≡ cond (eqb u tx) None (map.get (table_of slots) u)
    unchanged absent u = grind (arith, nat_tests, absent)

-- a slot that was found is that of its number
pub same_slot : (slots looked : List TxSlot) (tx i : ℕ) (d : TxSlot) → looked ≡ slots → Some i ≡ position (is_slot_of tx) looked → d ≡ get_or slots i d → (d.tx ≡ tx) × (is_free d ≡ false)
same_slot slots looked tx i d look at e =
    let own = number_in_slot slots looked tx i d look at in
    (ap (λ (s : TxSlot). s.tx) e ∙ own.0, ap is_free e ∙ own.1)

-- who lies there becomes this
pub transaction_changed : (slots looked : List TxSlot) (count tx i : ℕ) (d : TxSlot) (t : Transaction) → AreTxSlots slots count → looked ≡ slots → Some i ≡ position (is_slot_of tx) looked → d ≡ get_or slots i d
    → Changed slots (set slots i (record d { transaction = record d.transaction { value = t } })) count (map.insert (table_of slots) tx t)
transaction_changed slots looked count tx i d t is look at e =
    let own = same_slot slots looked tx i d look at e in
    own_slot slots looked count tx i d (record d { transaction = record d.transaction { value = t } }) is look at own.0 own.1

-- so the transaction of one number is changed, and no other
abbrev pub one_changes : (slots looked : List TxSlot) (table : Table) (count tx i : ℕ) (d : TxSlot) (t : Transaction) → AreTxSlots slots count → table_of slots ≡ table → looked ≡ slots → Some i ≡ position (is_slot_of tx) looked → d ≡ get_or slots i d
    → (one : Transaction) → one ≡ d.transaction.value → ChangesOne tx table (table_of (set slots i (record d { transaction = record d.transaction { value = t } })))
one_changes slots looked table count tx i d t is view look at e one boxed = record {
  before = one;
  after = t;
  was = ap (λ (t : Table). map.get t tx) (sym view) ∙ who_sits slots looked tx i d look at ∙ ap (λ (s : TxSlot). Some s.transaction.value) (sym e) ∙ ap Some (sym boxed);
  is = (transaction_changed slots looked count tx i d t is look at e).makes ∙ ap (λ (m : Table). map.insert m tx t) view;
}

-- who is in the table, lies somewhere
pub not_open : (slots looked : List TxSlot) (table : Table) (tx : ℕ) (t : Transaction) → table_of slots ≡ table → looked ≡ slots → None ≡ position (is_slot_of tx) looked → map.get table tx ≡ Some t → ⊥
not_open slots looked table tx t view look none there =
    let absent : map.get (table_of slots) tx ≡ None = get-table_of_none slots tx (ap (position (is_slot_of tx)) (sym look) ∙ sym none) in
    let both : None ≡ Some t = sym absent ∙ ap (λ (m : Table). map.get m tx) view ∙ there in
    absurd (cc)

pub it_sits : (slots looked : List TxSlot) (table : Table) (tx i : ℕ) (d : TxSlot) (t : Transaction) → table_of slots ≡ table → looked ≡ slots → Some i ≡ position (is_slot_of tx) looked → d ≡ get_or slots i d → map.get table tx ≡ Some t → (one : Transaction) → one ≡ d.transaction.value → one ≡ t
it_sits slots looked table tx i d t view look at e there one boxed =
    let both : Some d.transaction.value ≡ Some t = ap (λ (s : TxSlot). Some s.transaction.value) e ∙ sym (who_sits slots looked tx i d look at) ∙ ap (λ (m : Table). map.get m tx) view ∙ there in
    cc

pub none_sits : (slots looked : List TxSlot) (tx : ℕ) → looked ≡ slots → None ≡ position (is_slot_of tx) looked → map.get (table_of slots) tx ≡ None
none_sits slots looked tx look none = get-table_of_none slots tx (ap (position (is_slot_of tx)) (sym look) ∙ sym none)

pub none_open : (slots looked : List TxSlot) (table : Table) (tx : ℕ) → table_of slots ≡ table → looked ≡ slots → None ≡ position (is_slot_of tx) looked → IsSome (map.get table tx) → ⊥
none_open slots looked table tx view look none there =
    let absent : map.get table tx ≡ None = ap (λ (m : Table). map.get m tx) (sym view) ∙ none_sits slots looked tx look none in
    let some : is_some (map.get table tx) ≡ true = there in
    let both : false ≡ true = sym (ap is_some absent) ∙ some in absurd (cc)
