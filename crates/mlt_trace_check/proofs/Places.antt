-- The places of items.
use Rattle.std.proofs.Common.{◌≡◌, ◌≢◌, ℕ, ◌+◌, ◌≤◌, List, [], ◌∷◌, ◌++◌, Contains, sym, ap, subst, inl, inr, arith}
use Rattle.std.proofs.lemmas.List.Elements.{Contains-append_left, Contains-append_right}
use Rattle.mlt_order.proofs.RunLemmas.{contains-first, contains-nothing}
use Rattle.mlt_trace.{specs.declared.item.TraceItem.TraceItem, specs.Numbers.AreBegunInOrder, specs.Numbers.CountsFrom, specs.Numbers.begun_txs, proofs.ItemLaws.begun_txs-append, proofs.BegunLaws.first_or_later, specs.Ranges.AllFit}
use Rattle.mlt_trace.specs.declared.item.TraceItem.TheVariants.{Begin, Op, Back, Commit, Abort}
use Rattle.mlt_trace_check.{specs.Traces.ArePlaced, specs.Traces.HasPlace, specs.Traces.IsRunning, specs.Traces.IsWhole, proofs.Growing.earlier_or_last, proofs.Growing.no_cut, proofs.Lasting.runs_begun, specs.Writable.AreWritable, specs.Writable.IsNumbered}

pub nothing_placed : ArePlaced []
nothing_placed before later item e = absurd (no_cut before later item e)

pub whole_more : (items : List TraceItem) (item : TraceItem) (tx : ℕ) → item ≢ Back tx → IsWhole items tx → IsWhole (items ++ item ∷ []) tx
whole_more items item tx other whole back = elim (earlier_or_last items item (Back tx) back) [ inl before ↦ whole before | inr last ↦ other last ]

-- ---- an item stands somewhere

abbrev StandsIn : {X : Type 0} → List X → X → Type 0
StandsIn {X} xs x = (before : List X) × (later : List X) × (xs ≡ before ++ x ∷ later)

stands : {X : Type 0} (xs : List X) (x : X) → Contains xs x → StandsIn xs x
stands [] x h = absurd (contains-nothing x h)
stands {X} (y ∷ xs) x h = elim (first_or_later y xs x h) [
  | inl first ↦ ([], xs, ap (λ (z : X). z ∷ xs) first)
  | inr later ↦ let s = stands xs x later in (y ∷ s.0, s.1, ap (λ (zs : List X). y ∷ zs) s.2)
]

-- ---- who runs was begun, and begins have numbers from 1 on

begun_later : (items before later : List TraceItem) (tx : ℕ) → items ≡ before ++ later → Contains (begun_txs before) tx → Contains (begun_txs items) tx
begun_later items before later tx e h =
    let all : Contains (begun_txs (before ++ later)) tx =
    subst (λ (ns : List ℕ). Contains ns tx) (sym (begun_txs-append before later)) (Contains-append_left (begun_txs before) (begun_txs later) tx h) in
    subst (λ (is : List TraceItem). Contains (begun_txs is) tx) (sym e) all

runs_begun_later : (items before later : List TraceItem) (tx : ℕ) → items ≡ before ++ later → IsRunning before tx → Contains (begun_txs items) tx
runs_begun_later items before later tx e running = begun_later items before later tx e (runs_begun before tx running)

back_begun : (items : List TraceItem) (tx : ℕ) → ArePlaced items → Contains items (Back tx) → Contains (begun_txs items) tx
back_begun items tx placed h =
    let s = stands items (Back tx) h in
    let place = placed s.0 s.1 (Back tx) s.2 in
    runs_begun_later items s.0 (Back tx ∷ s.1) tx s.2 place.0

pub whole_begin : (items : List TraceItem) (tx : ℕ) → ArePlaced items → HasPlace items (Begin tx) → IsWhole (items ++ Begin tx ∷ []) tx
whole_begin items tx placed place back = elim (earlier_or_last items (Begin tx) (Back tx) back) [
  | inl before ↦ let low = place tx (back_begun items tx placed before) in omega (arith, low)
  | inr last ↦ cc last
]

from_first : (ns : List ℕ) (first n : ℕ) → CountsFrom first ns → Contains ns n → first ≤ n
from_first [] first n counts h = absurd (contains-nothing n h)
from_first (k ∷ ns) first n counts h = elim (first_or_later k ns n h) [
  | inl same ↦ let is = counts.0 in omega (arith, same, is)
  | inr later ↦ let rest = from_first ns (first + 1) n counts.1 later in omega (arith, rest)
]

numbered_at : (items before later : List TraceItem) (item : TraceItem) → items ≡ before ++ item ∷ later → AreBegunInOrder items → HasPlace before item → IsNumbered item
numbered_at items before later (Begin tx) e order place =
    let here : Contains (begun_txs (before ++ Begin tx ∷ later)) tx =
    subst (λ (ns : List ℕ). Contains ns tx) (sym (begun_txs-append before (Begin tx ∷ later))) (Contains-append_right (begun_txs before) (tx ∷ begun_txs later) tx (contains-first tx (begun_txs later))) in
    from_first (begun_txs items) 1 tx order (subst (λ (is : List TraceItem). Contains (begun_txs is) tx) (sym e) here)
numbered_at items before later (Op tx done) e order place = from_first (begun_txs items) 1 tx order (runs_begun_later items before (Op tx done ∷ later) tx e place.0)
numbered_at items before later (Back tx) e order place = from_first (begun_txs items) 1 tx order (runs_begun_later items before (Back tx ∷ later) tx e place.0)
numbered_at items before later (Commit tx number) e order place =
    (from_first (begun_txs items) 1 tx order (runs_begun_later items before (Commit tx number ∷ later) tx e place.0), let is = place.2 in omega (arith, is))
numbered_at items before later (Abort tx) e order place = from_first (begun_txs items) 1 tx order (runs_begun_later items before (Abort tx ∷ later) tx e place.0)

pub writable : (items : List TraceItem) → ArePlaced items → AreBegunInOrder items → AllFit items → AreWritable items
writable items placed order fit item h =
    let s = stands items item h in
    record { fits = fit item h; numbered = numbered_at items s.0 s.1 item s.2 order (placed s.0 s.1 item s.2) }
