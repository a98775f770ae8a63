-- The numbers begun are those of the begins.
use Rattle.std.proofs.Common.{◌≡◌, ℕ, ◌+◌, ◌<◌, List, [], ◌∷◌, ◌++◌, length, get_or, take, Contains, refl, sym, ap, subst, ◌∙◌, inl, inr, length-append}
use Rattle.mlt_trace_audit.proofs.Names.{contains-first, contains-later, contains-nothing, TraceItem, Begin, begin_count, begun_txs, begun_txs-append, first_or_later}
use Rattle.std.proofs.lemmas.List.{take_more, Elements.Contains-append_right}

-- where it is a begin, this is so of its number
abbrev pub OfBegin : (ℕ → Type 0) → TraceItem → Type 0
OfBegin P item = (tx : ℕ) → item ≡ Begin tx → P tx

pub begin_there : (items : List TraceItem) (tx : ℕ) → Contains (begun_txs items) tx → Contains items (Begin tx)
begin_there [] tx h = absurd (contains-nothing tx h)
begin_there (Begin own ∷ items) tx h = elim (first_or_later own (begun_txs items) tx h) [
  | inl first ↦ subst (λ n. Contains (Begin own ∷ items) (Begin n)) first (contains-first (Begin own) items)
  | inr later ↦ contains-later (Begin own) (Begin tx) items (begin_there items tx later)
]
begin_there (other ∷ items) tx h = contains-later other (Begin tx) items (begin_there items tx h)

pub begun_there : (items : List TraceItem) (tx : ℕ) → Contains items (Begin tx) → Contains (begun_txs items) tx
begun_there [] tx h = absurd (contains-nothing (Begin tx) h)
begun_there (item ∷ items) tx h = elim (first_or_later item items (Begin tx) h) [
  | inl first ↦ subst (λ x. Contains (begun_txs (x ∷ items)) tx) (sym first) (contains-first tx (begun_txs items))
  | inr later ↦ subst (λ ns. Contains ns tx) (sym (begun_txs-append (item ∷ []) items)) (Contains-append_right (begun_txs (item ∷ [])) (begun_txs items) tx (begun_there items tx later))
]

pub no_begin_counted : (item : TraceItem) → ((tx : ℕ) → item ≡ Begin tx → ⊥) → begin_count (item ∷ []) ≡ 0
no_begin_counted (Begin tx) none = absurd (none tx refl)
no_begin_counted other none = refl

pub begin_count_more : (history : List TraceItem) (i : ℕ) (item : TraceItem) → i < length history → item ≡ get_or history i item
    → begin_count (take (i + 1) history) ≡ begin_count (take i history) + begin_count (item ∷ [])
begin_count_more history i item within is =
    ap begin_count (take_more history i item within ∙ ap (λ x. take i history ++ x ∷ []) (sym is))
    ∙ ap length (begun_txs-append (take i history) (item ∷ [])) ∙ length-append (begun_txs (take i history)) (begun_txs (item ∷ []))
