-- The total of the rooms of a table, as its entries come, change and go.
use Rattle.std.proofs.Common.{◌≡◌, ℕ, ◌+◌, ◌≤◌, cond, map, List, [], ◌∷◌, Some, None, is_some, sym, ap, ◌∙◌, arith, sum_by, nat_cmp, is_eq}
use Rattle.mlt_trace.proofs.Names.{cases_eq}
use Rattle.std.{proofs.lemmas.Bool.false≢true, proofs.lemmas.List.nil_from_length, proofs.lemmas.List.Sums.sum_by_from, specs.declared.cmp.Ordering.TheVariants.Less, specs.declared.cmp.Ordering.TheVariants.Equal, specs.declared.cmp.Ordering.TheVariants.Greater, specs.Cmp.nat_cmp_total, specs.Cmp.unsigned_tied, specs.FinMap.Entries.by_order, specs.FinMap.Entries.find, specs.FinMap.Entries.put}
use Rattle.std.specs.FinMap as table
use Rattle.mlt_trace.specs.Rooms.{total_room}

module _ {X : Type 0} (room_of : X → ℕ) where
  abbrev rooms : List (ℕ × X) → ℕ
  rooms es = sum_by room_of (map (λ e. e.1) es)

  rooms-cons : (e : ℕ × X) (es : List (ℕ × X)) → rooms (e ∷ es) ≡ room_of e.1 + rooms es
  rooms-cons e es = sum_by_from room_of (0 + room_of e.1) (map (λ e. e.1) es) ∙ omega arith

  rooms-put : (es : List (ℕ × X)) (k : ℕ) (x : X) → find nat_cmp k es ≡ None → rooms (put nat_cmp k x es) ≡ rooms es + room_of x
  rooms-put [] k x none = rooms-cons (k, x) [] ∙ omega arith
  rooms-put (e ∷ es) k x none =
      elim (nat_cmp k e.0) as (λ o. cond (is_eq o) (Some e.1) (find nat_cmp k es) ≡ None → rooms (by_order o ((k, x) ∷ e ∷ es) ((e.0, x) ∷ es) (e ∷ put nat_cmp k x es)) ≡ rooms (e ∷ es) + room_of x) [
        | Less ↦ λ absent. rooms-cons (k, x) (e ∷ es) ∙ omega arith
        | Equal ↦ λ absent. absurd (false≢true (sym (ap is_some absent)))
        | Greater ↦ λ absent.
            let rest = rooms-put es k x absent in
            let one = rooms-cons e (put nat_cmp k x es) in
            let other = rooms-cons e es in
            omega (arith, rest, one, other)
      ] none

  same_table : (one other : table.FinMap nat_cmp X) → ((q : ℕ) → table.get one q ≡ table.get other q) → one ≡ other
  same_table one other same = table.same_map nat_cmp_total table.nat_cmp-IsAntisymmetric one other same

  removed : (t : table.FinMap nat_cmp X) (k : ℕ) → table.get (table.remove t k) k ≡ None
  removed t k = grind (arith, unsigned_tied k k, table.get-remove nat_cmp_total t k k)

  put_anew : (t : table.FinMap nat_cmp X) (k : ℕ) (x : X) → table.insert (table.remove t k) k x ≡ table.insert t k x
  put_anew t k x = same_table _ _ (λ q. grind (arith, cases_eq q k, unsigned_tied q k, table.get-insert nat_cmp_total (table.remove t k) k x q, table.get-insert nat_cmp_total t k x q, table.get-remove nat_cmp_total t k q))

  put_again : (t : table.FinMap nat_cmp X) (k : ℕ) (x : X) → table.get t k ≡ Some x → table.insert t k x ≡ t
  put_again t k x there = same_table _ _ (λ q. grind (arith, cases_eq q k, unsigned_tied q k, table.get-insert nat_cmp_total t k x q, there))

  pub total_room-empty : total_room room_of table.empty ≡ 0
  total_room-empty =
      let none : table.entries (table.empty {X = X} {R = nat_cmp}) ≡ [] = nil_from_length _ (sym (table.len-entries table.empty) ∙ table.len-empty nat_cmp X) in
      ap rooms none

  -- an entry of a new number brings its room
  pub total_room-insert_new : (t : table.FinMap nat_cmp X) (k : ℕ) (x : X) → table.get t k ≡ None → total_room room_of (table.insert t k x) ≡ total_room room_of t + room_of x
  total_room-insert_new t k x absent =
      ap rooms (table.entries-insert nat_cmp_total t k x) ∙ rooms-put (table.entries t) k x (sym (table.get-entries t k) ∙ absent)

  -- an entry that goes takes its room with it
  pub total_room-remove : (t : table.FinMap nat_cmp X) (k : ℕ) (old : X) → table.get t k ≡ Some old → total_room room_of (table.remove t k) + room_of old ≡ total_room room_of t
  total_room-remove t k old there =
      sym (total_room-insert_new (table.remove t k) k old (removed t k)) ∙ ap (total_room room_of) (put_anew t k old ∙ put_again t k old there)

  -- an entry that changes changes the total by its own room
  pub total_room-insert : (t : table.FinMap nat_cmp X) (k : ℕ) (old x : X) → table.get t k ≡ Some old → total_room room_of (table.insert t k x) + room_of old ≡ total_room room_of t + room_of x
  total_room-insert t k old x there =
      let anew = ap (total_room room_of) (put_anew t k x) in
      let without = total_room-insert_new (table.remove t k) k x (removed t k) in
      let gone = total_room-remove t k old there in
      omega (arith, anew, without, gone)

  -- no entry has more room than all of them
  pub room_within_total : (t : table.FinMap nat_cmp X) (k : ℕ) (x : X) → table.get t k ≡ Some x → room_of x ≤ total_room room_of t
  room_within_total t k x there = let gone = total_room-remove t k x there in omega (arith, gone)
