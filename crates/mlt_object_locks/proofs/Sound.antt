-- A table stays sound through each of its steps.
use Rattle.std.proofs.Common.{◌≡◌, ◌≢◌, ◌⊎◌, ℕ, ◌*◌, ◌≤◌, List, [], ◌∷◌, ◌++◌, nat_eq, Some, None, length, Contains, refl, sym, ap, subst, ◌∙◌, inl, inr, arith, filter}
use Rattle.mlt_object_locks.proofs.Names.{cases_eq, nat_tests, Contains-append_left, Contains-push, Contains-push_cases, IndexMap, IsUnique, Cell, IsInRange, cell_of, ObjOp, ObjReply, Holder, Held, SameReservations, is_of_other, reservation_of, InSet, bit_of_item, HasBit, IsHere, holder_of, GivesUp, GrantsAt, IsGivenUp, IsHereAt, IsSound, JoinsAt, ReleasesAt, list_at, KeepsNoted, KeysWithRoom, NotesEach, SameNoted, held_count, noted_of, places_if_any, places_of, reserved_places}
use Rattle.mlt_types.specs.declared.cell.Cell.TheVariants.{Account, Element, Counter, Size}
use Rattle.mlt_object_locks.{specs.Cells.HoldsBit, proofs.Bits.none_in_set, proofs.Bits.some_bit, proofs.Changes.bits_noted_more, proofs.Membership.among_or_not, proofs.Membership.contains_filtered, proofs.Membership.filter_contains, proofs.Membership.none_in_empty, proofs.Notes.count_of_others, proofs.Notes.count_pushed_le, proofs.Notes.count_pushed_same}

-- what is noted, where at least as much is noted
pub still_noted : (old : List (ℕ × KeysWithRoom)) (new : List (ℕ × KeysWithRoom)) (u k : ℕ) → (noted_of new u).keys ≡ (noted_of old u).keys → Contains (noted_of old u).keys k → Contains (noted_of new u).keys k
still_noted old new u k same h = subst (λ ks. Contains ks k) (sym same) h

-- an operation stands at two places at most
pub few_places : (cell : Cell) → length (places_of cell) ≤ 2
few_places (Account a) = omega arith
few_places (Element s e) = omega arith
few_places (Counter c) = omega arith
few_places (Size s) = omega arith

-- nobody has a bit of no class
no_bit : (c : ℕ) → c ≡ 0 → (n : ℕ) → InSet c n → ⊥
no_bit c e n h = none_in_set n (subst (λ m. InSet m n) e h)

module _ {S : Type 0} where
  -- nothing changed but the room
  pub sound_unchanged : (old new : IndexMap ℕ (List Holder) S) (reserved : List (ℕ × Cell)) (noted more : List (ℕ × KeysWithRoom)) (held : List Held) → IsSound old reserved noted held → ((k : ℕ) → list_at new k ≡ list_at old k) → IsUnique nat_eq new → KeepsNoted noted more
      → IsSound new reserved more held
  sound_unchanged old new reserved noted more held is same unique kept = record {
    unique = unique;
    in_range = is.in_range;
    has = λ k u n h. subst (λ l. HasBit l u n) (sym (same k)) (is.has k u n h);
    only = λ k u n h. is.only k u n (subst (λ l. HasBit l u n) (same k) h);
    opened = λ u k h. subst (λ l. IsHere l u) (sym (same k)) (is.opened u k h);
    room = λ u cell e. kept.room u (is.room u cell e);
    bits_noted = λ k u n h. still_noted noted more u k (kept.keys u) (is.bits_noted k u n (subst (λ l. HasBit l u n) (same k) h));
    found = λ k u h. by k u (is.found k u (subst (λ l. IsHere l u) (same k) h));
    few = λ u. subst (λ ks. length ks ≤ 2 * held_count held u) (sym (kept.keys u)) (is.few u);
  }
    where
      by : (k u : ℕ) → Contains (reserved_places reserved u) k ⊎ Contains (noted_of noted u).keys k → Contains (reserved_places reserved u) k ⊎ Contains (noted_of more u).keys k
      by k u (inl h) = inl h
      by k u (inr h) = inr (still_noted noted more u k (kept.keys u) h)

  -- A transaction came at some places, and gave up what is none of its reservation now: after it reserved a cell, or where it
  -- could not and has the reservation that it had.
  module _ (old mid new : IndexMap ℕ (List Holder) S) (reserved after : List (ℕ × Cell)) (noted more : List (ℕ × KeysWithRoom)) (held : List Held) (tx : ℕ) (came from : List ℕ) (is : IsSound old reserved noted held)
      (joins : JoinsAt old mid came tx) (gives : GivesUp mid new from (reserved_places after tx) tx) (here : IsHereAt mid (reserved_places after tx) tx)
      (came_by : (k : ℕ) → Contains came k → Contains from k ⊎ Contains (reserved_places after tx) k) (had_by : (k : ℕ) → Contains (reserved_places reserved tx) k → Contains from k ⊎ Contains (reserved_places after tx) k)
      (others : SameReservations reserved after tx) (kept : KeepsNoted noted more) (room : (cell : Cell) → reservation_of after tx ≡ Some cell → 2 ≤ (noted_of more tx).room) where
    was : (k : ℕ) (holder : Holder) → Contains (list_at new k) holder → Contains (list_at old k) holder ⊎ (Contains came k × (holder ≡ holder_of tx 0))
    was k holder h = joins.only k holder (gives.only k holder h)

    stays : (k : ℕ) (holder : Holder) → (holder.tx ≡ tx → IsGivenUp from (reserved_places after tx) k → holder.classes ≢ 0) → Contains (list_at old k) holder → Contains (list_at new k) holder
    stays k holder has h = gives.keeps k holder has (joins.keeps k holder h)

    bit_stays : (k u n : ℕ) → HasBit (list_at old k) u n → HasBit (list_at new k) u n
    bit_stays k u n h = (h.0, stays k (holder_of u h.0) (λ own given none. no_bit h.0 none n h.2) h.1, h.2)

    bit_was : (k u n : ℕ) → HasBit (list_at new k) u n → HasBit (list_at old k) u n
    bit_was k u n h = by (was k (holder_of u h.0) h.1)
      where
        by : Contains (list_at old k) (holder_of u h.0) ⊎ (Contains came k × (holder_of u h.0 ≡ holder_of tx 0)) → HasBit (list_at old k) u n
        by (inl c) = (h.0, c, h.2)
        by (inr e) = absurd (no_bit h.0 (ap (λ (x : Holder). x.classes) e.1) n h.2)

    same_places : (u : ℕ) → u ≢ tx → reserved_places after u ≡ reserved_places reserved u
    same_places u ne = ap places_if_any (others u ne)

    opened_now : (u k : ℕ) → Contains (reserved_places after u) k → (u ≡ tx) ⊎ (u ≡ tx → ⊥) → IsHere (list_at new k) u
    opened_now u k h (inl t) =
        let own = subst (λ n. Contains (reserved_places after n) k) t h in let there = here k own in
        subst (IsHere (list_at new k)) (sym t) (there.0, gives.keeps k (holder_of tx there.0) (λ e given. absurd (given.1 own)) there.1)
    opened_now u k h (inr ne) =
        let there = is.opened u k (subst (λ l. Contains l k) (same_places u ne) h) in
        (there.0, stays k (holder_of u there.0) (λ own. absurd (ne own)) there.1)

    room_now : (u : ℕ) (c : Cell) → reservation_of after u ≡ Some c → (u ≡ tx) ⊎ (u ≡ tx → ⊥) → 2 ≤ (noted_of more u).room
    room_now u c e (inl t) = subst (λ n. 2 ≤ (noted_of more n).room) (sym t) (room c (ap (reservation_of after) (sym t) ∙ e))
    room_now u c e (inr ne) = kept.room u (is.room u c (sym (others u ne) ∙ e))

    bit_noted : (k u n : ℕ) → HasBit (list_at new k) u n → Contains (noted_of more u).keys k
    bit_noted k u n h = still_noted noted more u k (kept.keys u) (is.bits_noted k u n (bit_was k u n h))

    -- where the transaction itself is left, it is reserved now, or holds something
    own_found : (k classes : ℕ) → Contains (list_at new k) (holder_of tx classes) → Contains from k ⊎ Contains (reserved_places after tx) k → Contains (reserved_places after tx) k ⊎ Contains (noted_of more tx).keys k
    own_found k classes c (inr h) = inl h
    own_found k classes c (inl h) = by (among_or_not (reserved_places after tx) k)
      where
        by : Contains (reserved_places after tx) k ⊎ (Contains (reserved_places after tx) k → ⊥) → Contains (reserved_places after tx) k ⊎ Contains (noted_of more tx).keys k
        by (inl now) = inl now
        by (inr unkept) = let bit = some_bit classes (gives.gone k (holder_of tx classes) c refl (h, unkept)) in inr (bit_noted k tx bit.0 (classes, c, bit.1))

    own_had : (k classes : ℕ) → Contains (list_at new k) (holder_of tx classes) → Contains (reserved_places reserved tx) k ⊎ Contains (noted_of noted tx).keys k → Contains (reserved_places after tx) k ⊎ Contains (noted_of more tx).keys k
    own_had k classes c (inl h) = own_found k classes c (had_by k h)
    own_had k classes c (inr h) = inr (still_noted noted more tx k (kept.keys tx) h)

    other_had : (k u : ℕ) → u ≢ tx → Contains (reserved_places reserved u) k ⊎ Contains (noted_of noted u).keys k → Contains (reserved_places after u) k ⊎ Contains (noted_of more u).keys k
    other_had k u ne (inl h) = inl (subst (λ l. Contains l k) (sym (same_places u ne)) h)
    other_had k u ne (inr h) = inr (still_noted noted more u k (kept.keys u) h)

    own_left : (k classes : ℕ) → Contains (list_at new k) (holder_of tx classes) → Contains (list_at old k) (holder_of tx classes) ⊎ (Contains came k × (holder_of tx classes ≡ holder_of tx 0)) → Contains (reserved_places after tx) k ⊎ Contains (noted_of more tx).keys k
    own_left k classes c (inl had) = own_had k classes c (is.found k tx (classes, had))
    own_left k classes c (inr new) = own_found k classes c (came_by k new.0)

    other_left : (k u classes : ℕ) → u ≢ tx → Contains (list_at old k) (holder_of u classes) ⊎ (Contains came k × (holder_of u classes ≡ holder_of tx 0)) → Contains (reserved_places after u) k ⊎ Contains (noted_of more u).keys k
    other_left k u classes ne (inl had) = other_had k u ne (is.found k u (classes, had))
    other_left k u classes ne (inr new) = absurd (ne (ap (λ (x : Holder). x.tx) new.1))

    found_now : (k u classes : ℕ) → Contains (list_at new k) (holder_of u classes) → (u ≡ tx) ⊎ (u ≡ tx → ⊥) → Contains (reserved_places after u) k ⊎ Contains (noted_of more u).keys k
    found_now k u classes c (inl t) =
        let own = subst (λ n. Contains (list_at new k) (holder_of n classes)) t c in
        subst (λ n. Contains (reserved_places after n) k ⊎ Contains (noted_of more n).keys k) (sym t) (own_left k classes own (was k (holder_of tx classes) own))
    found_now k u classes c (inr ne) = other_left k u classes ne (was k (holder_of u classes) c)

    pub sound_reserved : IsSound new after more held
    sound_reserved = record {
      unique = gives.unique;
      in_range = is.in_range;
      has = λ k u n h. bit_stays k u n (is.has k u n h);
      only = λ k u n h. is.only k u n (bit_was k u n h);
      opened = λ u k h. opened_now u k h (cases_eq u tx);
      room = λ u c e. room_now u c e (cases_eq u tx);
      bits_noted = bit_noted;
      found = λ k u h. found_now k u h.0 h.1 (cases_eq u tx);
      few = λ u. subst (λ ks. length ks ≤ 2 * held_count held u) (sym (kept.keys u)) (is.few u);
    }

  -- an operation was granted on the reserved cell
  module _ (old new : IndexMap ℕ (List Holder) S) (reserved after : List (ℕ × Cell)) (noted more : List (ℕ × KeysWithRoom)) (held : List Held) (tx : ℕ) (done : ObjOp × ObjReply) (is : IsSound old reserved noted held)
      (had : reservation_of reserved tx ≡ Some (cell_of done.0)) (range : IsInRange (cell_of done.0)) (grants : GrantsAt old new (places_of (cell_of done.0)) tx (bit_of_item done))
      (own : reservation_of after tx ≡ None) (others : SameReservations reserved after tx) (same : SameNoted noted more tx) (notes : NotesEach (noted_of noted tx).keys (noted_of more tx).keys (places_of (cell_of done.0))) where
    abbrev there : List ℕ
    there = places_of (cell_of done.0)

    abbrev now : List Held
    now = held ++ (tx, done) ∷ []

    not_own : (u k : ℕ) → Contains (reserved_places after u) k → u ≢ tx
    not_own u k h t = none_in_empty k (subst (λ l. Contains l k) (ap (reserved_places after) t ∙ ap places_if_any own) h)

    was_reserved : (u k : ℕ) → u ≢ tx → Contains (reserved_places after u) k → Contains (reserved_places reserved u) k
    was_reserved u k ne h = subst (λ l. Contains l k) (ap places_if_any (others u ne)) h

    noted_still : (u k : ℕ) → Contains (noted_of noted u).keys k → Contains (noted_of more u).keys k
    noted_still u k h = by (cases_eq u tx)
      where
        by : (u ≡ tx) ⊎ (u ≡ tx → ⊥) → Contains (noted_of more u).keys k
        by (inl t) = subst (λ n. Contains (noted_of more n).keys k) (sym t) (notes.keeps k (subst (λ n. Contains (noted_of noted n).keys k) t h))
        by (inr ne) = still_noted noted more u k (ap (λ (n : KeysWithRoom). n.keys) (same u ne)) h

    range_now : (u : ℕ) (item : ObjOp × ObjReply) → Contains held (u, item) ⊎ (◌≡◌ {A = Held} (tx, done) (u, item)) → IsInRange (cell_of item.0)
    range_now u item (inl c) = is.in_range u item c
    range_now u item (inr e) = subst (λ (p : Held). IsInRange (cell_of p.1.0)) e range

    has_now : (k u n : ℕ) (item : ObjOp × ObjReply) → Contains (places_of (cell_of item.0)) k → bit_of_item item ≡ Some n → Contains held (u, item) ⊎ (◌≡◌ {A = Held} (tx, done) (u, item)) → HasBit (list_at new k) u n
    has_now k u n item at bit (inl c) = grants.keeps k u n (is.has k u n (item, c, at, bit))
    has_now k u n item at bit (inr e) =
        let stood : Contains there k = subst (λ (p : Held). Contains (places_of (cell_of p.1.0)) k) (sym e) at in
        subst (λ m. HasBit (list_at new k) m n) (ap (λ (p : Held). p.0) e) (grants.granted k n stood (ap (λ (p : Held). bit_of_item p.1) e ∙ bit))

    only_now : (k u n : ℕ) → HasBit (list_at old k) u n ⊎ (Contains there k × (u ≡ tx) × (bit_of_item done ≡ Some n)) → HoldsBit now k u n
    only_now k u n (inl h) = let holds = is.only k u n h in (holds.0, Contains-append_left held ((tx, done) ∷ []) (u, holds.0) holds.1, holds.2, holds.3)
    only_now k u n (inr e) = (done, subst (λ m. Contains now (m, done)) (sym e.1) (Contains-push held (tx, done)), e.0, e.2)

    still_found : (k u : ℕ) → Contains (reserved_places reserved u) k ⊎ Contains (noted_of noted u).keys k → (u ≡ tx) ⊎ (u ≡ tx → ⊥) → Contains (reserved_places after u) k ⊎ Contains (noted_of more u).keys k
    still_found k u (inr h) t = inr (noted_still u k h)
    still_found k u (inl h) (inl t) =
        let stood : Contains there k = subst (λ l. Contains l k) (ap (reserved_places reserved) t ∙ ap places_if_any had) h in
        inr (subst (λ n. Contains (noted_of more n).keys k) (sym t) (notes.there k stood))
    still_found k u (inl h) (inr ne) = inl (subst (λ l. Contains l k) (sym (ap places_if_any (others u ne))) h)

    few_now : (u : ℕ) → (u ≡ tx) ⊎ (u ≡ tx → ⊥) → length (noted_of more u).keys ≤ 2 * held_count now u
    few_now u (inl t) =
        let more_held = count_pushed_same held (tx, done) in let before = is.few tx in let most = notes.few in let two = few_places (cell_of done.0) in
        subst (λ n. length (noted_of more n).keys ≤ 2 * held_count now n) (sym t) (omega arith)
    few_now u (inr ne) =
        let more_held = count_pushed_le held (tx, done) u in let before = is.few u in
        let keys = ap (λ (n : KeysWithRoom). length n.keys) (same u ne) in omega arith

    pub sound_granted : IsSound new after more now
    sound_granted = record {
      unique = grants.unique;
      in_range = λ u item h. range_now u item (Contains-push_cases held (tx, done) (u, item) h);
      has = λ k u n h. has_now k u n h.0 h.2 h.3 (Contains-push_cases held (tx, done) (u, h.0) h.1);
      only = λ k u n h. only_now k u n (grants.only k u n h);
      opened = λ u k h. grants.stays k u (is.opened u k (was_reserved u k (not_own u k h) h));
      room = λ u c e. let ne = λ (t : u ≡ tx). let both : None ≡ Some c = sym own ∙ ap (reservation_of after) (sym t) ∙ e in absurd (cc) in
          subst (λ (n : KeysWithRoom). 2 ≤ n.room) (sym (same u ne)) (is.room u c (sym (others u ne) ∙ e));
      bits_noted = bits_noted_more old new noted more there tx (bit_of_item done) is.bits_noted grants same notes;
      found = λ k u h. still_found k u (is.found k u (grants.here k u h)) (cases_eq u tx);
      few = λ u. few_now u (cases_eq u tx);
    }

  -- a transaction was released
  module _ (old mid new : IndexMap ℕ (List Holder) S) (reserved after : List (ℕ × Cell)) (noted more : List (ℕ × KeysWithRoom)) (held : List Held) (tx : ℕ) (is : IsSound old reserved noted held)
      (first : ReleasesAt old mid (reserved_places reserved tx) tx) (second : ReleasesAt mid new (noted_of noted tx).keys tx)
      (own : reservation_of after tx ≡ None) (others : SameReservations reserved after tx) (same : SameNoted noted more tx) (none : (noted_of more tx).keys ≡ []) where
    abbrev left : List Held
    left = filter (is_of_other tx) held

    was_there : (k : ℕ) (holder : Holder) → Contains (list_at new k) holder → Contains (list_at old k) holder
    was_there k holder h = first.only k holder (second.only k holder h)

    kept : (k : ℕ) (holder : Holder) → holder.tx ≢ tx → Contains (list_at old k) holder → Contains (list_at new k) holder
    kept k holder ne h = second.keeps k holder ne (first.keeps k holder ne h)

    gone_by : (k classes : ℕ) → Contains (list_at new k) (holder_of tx classes) → Contains (reserved_places reserved tx) k ⊎ Contains (noted_of noted tx).keys k → ⊥
    gone_by k classes h (inr seen) = second.gone k (holder_of tx classes) seen h refl
    gone_by k classes h (inl seen) = first.gone k (holder_of tx classes) seen (second.only k (holder_of tx classes) h) refl

    gone : (k u classes : ℕ) → Contains (list_at new k) (holder_of u classes) → u ≢ tx
    gone k u classes h t =
        let here = subst (λ n. Contains (list_at new k) (holder_of n classes)) t h in
        gone_by k classes here (is.found k tx (classes, was_there k (holder_of tx classes) here))

    not_released : (u : ℕ) (c : Cell) → reservation_of after u ≡ Some c → u ≢ tx
    not_released u c e t = let both : None ≡ Some c = sym own ∙ ap (reservation_of after) (sym t) ∙ e in absurd (cc)

    not_reserved : (u k : ℕ) → Contains (reserved_places after u) k → u ≢ tx
    not_reserved u k h t = none_in_empty k (subst (λ l. Contains l k) (ap (reserved_places after) t ∙ ap places_if_any own) h)

    bit_had : (k u n : ℕ) → HasBit (list_at new k) u n → HasBit (list_at old k) u n
    bit_had k u n h = (h.0, was_there k (holder_of u h.0) h.1, h.2)

    keys_same : (u : ℕ) → u ≢ tx → (noted_of more u).keys ≡ (noted_of noted u).keys
    keys_same u ne = ap (λ (n : KeysWithRoom). n.keys) (same u ne)

    other_held : (u : ℕ) (item : ObjOp × ObjReply) → Contains left (u, item) → Contains held (u, item) × (u ≢ tx)
    other_held u item h = let was = contains_filtered (is_of_other tx) held (u, item) h in (was.0, λ e. let passes = was.1 in grind (arith, nat_tests))

    left_held : (u : ℕ) (item : ObjOp × ObjReply) → u ≢ tx → Contains held (u, item) → Contains left (u, item)
    left_held u item ne h = filter_contains (is_of_other tx) held (u, item) h (grind (arith, nat_tests))

    still_has : (k u n : ℕ) → HoldsBit left k u n → HasBit (list_at new k) u n
    still_has k u n h =
        let was = other_held u h.0 h.1 in let bit = is.has k u n (h.0, was.0, h.2, h.3) in
        (bit.0, kept k (holder_of u bit.0) was.1 bit.1, bit.2)

    still_only : (k u n : ℕ) → HasBit (list_at new k) u n → HoldsBit left k u n
    still_only k u n h =
        let holds = is.only k u n (bit_had k u n h) in
        (holds.0, left_held u holds.0 (gone k u h.0 h.1) holds.1, holds.2, holds.3)

    still_found_there : (k u : ℕ) → u ≢ tx → Contains (reserved_places reserved u) k ⊎ Contains (noted_of noted u).keys k → Contains (reserved_places after u) k ⊎ Contains (noted_of more u).keys k
    still_found_there k u ne (inl h) = inl (subst (λ l. Contains l k) (sym (ap places_if_any (others u ne))) h)
    still_found_there k u ne (inr h) = inr (still_noted noted more u k (keys_same u ne) h)

    opened_still : (u k : ℕ) → u ≢ tx → Contains (reserved_places after u) k → IsHere (list_at new k) u
    opened_still u k ne h =
        let here = is.opened u k (subst (λ l. Contains l k) (ap places_if_any (others u ne)) h) in
        (here.0, kept k (holder_of u here.0) ne here.1)

    few_left : (u : ℕ) → (u ≡ tx) ⊎ (u ≡ tx → ⊥) → length (noted_of more u).keys ≤ 2 * held_count left u
    few_left u (inl t) =
        let no_keys : length (noted_of more tx).keys ≡ 0 = ap length none in
        subst (λ n. length (noted_of more n).keys ≤ 2 * held_count left n) (sym t) (omega arith)
    few_left u (inr ne) =
        let count = count_of_others held tx u ne in let before = is.few u in
        let keys = ap length (keys_same u ne) in omega arith

    pub sound_released : IsSound new after more left
    sound_released = record {
      unique = second.unique;
      in_range = λ u item h. is.in_range u item (other_held u item h).0;
      has = still_has;
      only = still_only;
      opened = λ u k h. opened_still u k (not_reserved u k h) h;
      room = λ u c e. let ne = not_released u c e in subst (λ (n : KeysWithRoom). 2 ≤ n.room) (sym (same u ne)) (is.room u c (sym (others u ne) ∙ e));
      bits_noted = λ k u n h. still_noted noted more u k (keys_same u (gone k u h.0 h.1)) (is.bits_noted k u n (bit_had k u n h));
      found = λ k u h. still_found_there k u (gone k u h.0 h.1) (is.found k u (h.0, was_there k (holder_of u h.0) h.1));
      few = λ u. few_left u (cases_eq u tx);
    }
