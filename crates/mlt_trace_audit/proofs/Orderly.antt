-- Histories in order: the numbers begun count, and no item stands before its begin.
use Rattle.std.proofs.Common.{◌≡◌, ℕ, zero, suc, ◌+◌, ◌<◌, ◌≤◌, List, [], ◌∷◌, ◌++◌, true, length, get_or, take, Some, slice_get, refl, sym, subst, arith, take_all}
use Rattle.mlt_trace_audit.proofs.Names.{slice_get-get_or, TraceItem, Begin, Abort, AreBegunInOrder, CountsFrom, begin_count, AreOrdered, StandsBehind, is_told, tx_of, slice_get_read}
use Rattle.mlt_trace.proofs.ItemLaws.{begin_keeps_order, no_begin}
use Rattle.mlt_trace_audit.proofs.{Loops.up_to_here}
use Rattle.std.proofs.{Math.Seq.take-suc}

-- the items before a place are in order
abbrev pub AreOrderedTo : List TraceItem → ℕ → Type 0
AreOrderedTo items i = (k : ℕ) (item : TraceItem) → k < i → slice_get items k ≡ Some item → StandsBehind (begin_count (take k items)) item

pub ordered_more : (items : List TraceItem) (i : ℕ) (item : TraceItem) → i < length items → item ≡ get_or items i item
    → StandsBehind (begin_count (take i items)) item → AreOrderedTo items i → AreOrderedTo items (i + 1)
ordered_more items i item within is next before =
    up_to_here items i item (slice_get_read items (length items) i item refl within is) (λ k item. StandsBehind (begin_count (take k items)) item) next before

-- ---- one more item

counts_item : (front : List TraceItem) (item : TraceItem) → StandsBehind (begin_count front) item → AreBegunInOrder front → AreBegunInOrder (front ++ item ∷ [])
counts_item front (Begin tx) follows order = subst (λ n. AreBegunInOrder (front ++ Begin n ∷ [])) (sym follows) (begin_keeps_order front order)
counts_item front other follows order = subst (CountsFrom 1) (sym (no_begin front other refl)) order

-- an item of which outcomes tell is of a transaction that was begun
pub told_of_begun : (begun : ℕ) (item : TraceItem) → StandsBehind begun item → is_told item ≡ true → (0 < tx_of item) × (tx_of item ≤ begun)
told_of_begun begun (Begin tx) follows told = absurd (cc told)
told_of_begun begun other follows told = follows

-- ---- items before a place

module _ (items : List TraceItem) (ordered : AreOrdered items) where
  -- by induction on the place
  begun_in_order_to : (k : ℕ) → k ≤ length items → AreBegunInOrder (take k items)
  begun_in_order_to zero within = tt
  begun_in_order_to (suc k) within =
      let low : k < length items = omega (arith, within) in
      let item = get_or items k (Abort 0) in
      let rest = begun_in_order_to k (omega (arith, low)) in
      subst AreBegunInOrder (sym (take-suc items k (Abort 0) low)) (counts_item (take k items) item (ordered k item (slice_get-get_or items k (Abort 0) low)) rest)

  pub begun_in_order : AreBegunInOrder items
  begun_in_order = subst AreBegunInOrder (take_all (length items) items (omega arith)) (begun_in_order_to (length items) (omega arith))
