-- Which numbers were begun, where transactions begin in order.
use Prim.Native.Nat.{zero}
use Rattle.std.proofs.Common.{◌≡◌, ◌⊎◌, ℕ, suc, ◌+◌, ◌<◌, ◌≤◌, List, [], ◌∷◌, Contains, length, slice_index_or, subst, ◌∙◌, inl, inr, arith}
use Rattle.mlt_trace.proofs.Names.{cases_eq, Entry, contains-nothing, TraceItem, Begin, Op, Back, Commit, Abort, entries_of, CountsFrom, begun_txs}
use Rattle.mlt_order.proofs.RunLemmas.{contains-first, contains-later}

at_place : {X : Type 0} (x : X) (xs : List X) (y : X) (k : ℕ) → k < length (x ∷ xs) → slice_index_or (x ∷ xs) k y ≡ y → (x ≡ y) ⊎ Contains xs y
at_place x xs y zero within is = inl is
at_place x xs y (suc k) within is = inr (k, omega arith, is)

-- an element of a list is its first one or one of the others
pub first_or_later : {X : Type 0} (x : X) (xs : List X) (y : X) → Contains (x ∷ xs) y → (x ≡ y) ⊎ Contains xs y
first_or_later x xs y h = at_place x xs y h.0 h.1 h.2

abbrev IsBetween : ℕ → List TraceItem → ℕ → Type 0
IsBetween first items tx = (first ≤ tx) × (tx < first + length (begun_txs items))

pub begun_between : (items : List TraceItem) (first tx : ℕ) → CountsFrom first (begun_txs items) → Contains (entries_of items) (Entry.Begun tx) → IsBetween first items tx
begun_between [] first tx counts h = absurd (contains-nothing (Entry.Begun tx) h)
begun_between (Begin k ∷ items) first tx counts h =
    elim (first_or_later (Entry.Begun k) (entries_of items) (Entry.Begun tx) h) [
      | inl e ↦ let same : k ≡ tx = cc e in let one = counts.0 in (omega (arith, same, one), omega (arith, same, one))
      | inr later ↦ let rest = begun_between items (first + 1) tx counts.1 later in (omega (arith, rest.0), omega (arith, rest.1))
    ]
begun_between (Op k done ∷ items) first tx counts h =
    elim (first_or_later (Entry.Did k done) (entries_of items) (Entry.Begun tx) h) [ inl e ↦ absurd (cc e) | inr later ↦ begun_between items first tx counts later ]
begun_between (Back k ∷ items) first tx counts h =
    elim (first_or_later (Entry.TookBack k) (entries_of items) (Entry.Begun tx) h) [ inl e ↦ absurd (cc e) | inr later ↦ begun_between items first tx counts later ]
begun_between (Commit k number ∷ items) first tx counts h =
    elim (first_or_later (Entry.Committed k) (entries_of items) (Entry.Begun tx) h) [ inl e ↦ absurd (cc e) | inr later ↦ begun_between items first tx counts later ]
begun_between (Abort k ∷ items) first tx counts h =
    elim (first_or_later (Entry.Closed k) (entries_of items) (Entry.Begun tx) h) [ inl e ↦ absurd (cc e) | inr later ↦ begun_between items first tx counts later ]

pub between_begun : (items : List TraceItem) (first tx : ℕ) → CountsFrom first (begun_txs items) → IsBetween first items tx → Contains (entries_of items) (Entry.Begun tx)
between_begun [] first tx counts h = absurd (omega (arith, h.0, h.1))
between_begun (Begin k ∷ items) first tx counts h =
    elim (cases_eq first tx) [
      | inl same ↦
          let F : ℕ → Type 0 = λ n. Contains (Entry.Begun k ∷ entries_of items) (Entry.Begun n) in
          subst F (counts.0 ∙ same) (contains-first (Entry.Begun k) (entries_of items))
      | inr apart ↦
          let above : first + 1 ≤ tx = omega (arith, h.0, apart) in
          contains-later (Entry.Begun k) (Entry.Begun tx) (entries_of items) (between_begun items (first + 1) tx counts.1 (above, omega (arith, h.1)))
    ]
between_begun (Op k done ∷ items) first tx counts h = contains-later (Entry.Did k done) (Entry.Begun tx) (entries_of items) (between_begun items first tx counts h)
between_begun (Back k ∷ items) first tx counts h = contains-later (Entry.TookBack k) (Entry.Begun tx) (entries_of items) (between_begun items first tx counts h)
between_begun (Commit k number ∷ items) first tx counts h = contains-later (Entry.Committed k) (Entry.Begun tx) (entries_of items) (between_begun items first tx counts h)
between_begun (Abort k ∷ items) first tx counts h = contains-later (Entry.Closed k) (Entry.Begun tx) (entries_of items) (between_begun items first tx counts h)
