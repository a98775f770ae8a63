-- Each text is an accepted trace or has a first fault.
use Rattle.std.proofs.Common.{◌≡◌, ◌≢◌, ◌⊎◌, inl, inr, ℕ, ◌+◌, ◌<◌, List, [], ◌∷◌, ◌++◌, length, map, Contains, refl, sym, ap, subst, ◌∙◌, append_assoc}
use Rattle.mlt_trace_check.proofs.Names.{cases_eq, TraceCause, ObjOp, ObjReply, Base, Step, empty_base, Lists, Stage, Fresh, Running, Ended, IsSerialBase, Runs, contains-first, serial_push, Raw, lines, TraceItem, Begin, Op, Back, Commit, Abort, begun_txs, commit_count, committed_txs, TraceReading, Bad, Says, ArePlaced, HasPlace, IsAcceptedTrace, IsFirstFault, IsFirstFaultOf, IsItemFault, IsLineFault, IsRunning, IsTrace, IsWhole, told}
use Rattle.mlt_order.proofs.RunLemmas.{contains-later, contains-nothing}
use Rattle.mlt_trace.proofs.BegunLaws.{first_or_later}
use Rattle.mlt_trace_check.{specs.Readings.reading, proofs.Progressing.bad_line, proofs.Progressing.fault_line, proofs.Progressing.placed_more, proofs.Progressing.said_more, proofs.Growing.append_nil, proofs.Growing.no_cut, proofs.Growing.told-push, proofs.Lasting.one_more, proofs.Standing.Stands, proofs.Standing.nothing_stands, proofs.Standing.stands_more}
use Rattle.mlt_trace_check.proofs.Stepping.{Decided, IsFalseIn, all_three, below, both, runs_or_not}

-- ---- whether an item has its place

running_or_not : (items : List TraceItem) (tx : ℕ) → Decided (IsRunning items tx)
running_or_not items tx = is_running ((told items).stage tx) where
  is_running : (stage : Stage) → Decided (stage ≡ Running)
  is_running Fresh = inr (λ e. cc e)
  is_running Running = inl refl
  is_running Ended = inr (λ e. cc e)

is_back_or_not : (item : TraceItem) (tx : ℕ) → Decided (item ≡ Back tx)
is_back_or_not (Back i) tx = elim (cases_eq i tx) [ inl same ↦ inl (ap Back same) | inr apart ↦ inr (λ e. apart (cc e)) ]
is_back_or_not (Begin i) tx = inr (λ e. cc e)
is_back_or_not (Op i done) tx = inr (λ e. cc e)
is_back_or_not (Commit i number) tx = inr (λ e. cc e)
is_back_or_not (Abort i) tx = inr (λ e. cc e)

taken_back_or_not : (items : List TraceItem) (tx : ℕ) → Decided (Contains items (Back tx))
taken_back_or_not [] tx = inr (λ h. contains-nothing (Back tx) h)
taken_back_or_not (item ∷ items) tx = elim (is_back_or_not item tx) [
  | inl is ↦ inl (subst (Contains (item ∷ items)) is (contains-first item items))
  | inr other ↦ elim (taken_back_or_not items tx) [
    | inl later ↦ inl (contains-later item (Back tx) items later)
    | inr none ↦ inr (λ h. elim (first_or_later item items (Back tx) h) [ inl is ↦ other is | inr later ↦ none later ])
  ]
]

whole_or_not : (items : List TraceItem) (tx : ℕ) → Decided (IsWhole items tx)
whole_or_not items tx = elim (taken_back_or_not items tx) [ inl back ↦ inr (λ whole. whole back) | inr whole ↦ inl whole ]

empty_or_not : {X : Type 0} (xs : List X) → Decided (xs ≡ [])
empty_or_not [] = inl refl
empty_or_not (x ∷ xs) = inr (λ e. cc e)

some_or_none : {X : Type 0} (xs : List X) → Decided (xs ≢ [])
some_or_none xs = elim (empty_or_not xs) [ inl none ↦ inr (λ some. some none) | inr some ↦ inl some ]

above_all_or_not : (txs : List ℕ) (tx : ℕ) → Decided ((other : ℕ) → Contains txs other → other < tx)
above_all_or_not [] tx = inl (λ other h. absurd (contains-nothing other h))
above_all_or_not (first ∷ txs) tx = elim (below first tx) [
  | inl low ↦ elim (above_all_or_not txs tx) [
    | inl all ↦ inl (λ other h. elim (first_or_later first txs other h) [ inl same ↦ subst (λ n. n < tx) same low | inr later ↦ all other later ])
    | inr high ↦ inr (λ all. high (λ other h. all other (contains-later first other txs h)))
  ]
  | inr high ↦ inr (λ all. high (all first (contains-first first txs)))
]

place_or_not : (items : List TraceItem) (item : TraceItem) → Decided (HasPlace items item)
place_or_not items (Begin tx) = above_all_or_not (begun_txs items) tx
place_or_not items (Op tx done) = both (running_or_not items tx) (whole_or_not items tx)
place_or_not items (Back tx) = both (running_or_not items tx) (some_or_none ((told items).transcripts tx))
place_or_not items (Commit tx number) = all_three (running_or_not items tx) (whole_or_not items tx) (cases_eq number (commit_count items + 1))
place_or_not items (Abort tx) = both (running_or_not items tx) (empty_or_not ((told items).transcripts tx))

-- ---- one more item

-- the items lead to the base, and their operations stand in them
pub record LeadTo (items : List TraceItem) (base : Base) : Type 0 where
  pub placed : ArePlaced items
  pub serial : IsSerialBase Step empty_base (told items).committed base
  pub stand : (tx : ℕ) → Stands items tx

abbrev HasItemFault : List TraceItem → Base → TraceItem → Type 0
HasItemFault items base item = (line : ℕ) × (fault : TraceCause) × IsItemFault items base item line fault

abbrev GoesOnOrNot : List TraceItem → Base → TraceItem → Type 0
GoesOnOrNot items base item = ((next : Base) × LeadTo (one_more items item) next) ⊎ HasItemFault items base item

none_lead : LeadTo [] empty_base
none_lead = record { placed = λ before later item e. absurd (no_cut before later item e); serial = refl; stand = nothing_stands }

module _ (items : List TraceItem) (base : Base) (h : LeadTo items base) where
  goes_on : (item : TraceItem) (next : Base) → HasPlace items item → IsSerialBase Step empty_base (told (one_more items item)).committed next → GoesOnOrNot items base item
  goes_on item next place serial = inl (next, record { placed = placed_more items item h.placed place; serial = serial; stand = stands_more items item place h.stand })

  -- an item that commits nothing
  same_base : (item : TraceItem) → HasPlace items item → (told (one_more items item)).committed ≡ (told items).committed → GoesOnOrNot items base item
  same_base item place same = goes_on item base place (subst (λ ts. IsSerialBase Step empty_base ts base) (sym same) h.serial)

  false_commit : (tx number : ℕ) → HasPlace items (Commit tx number) → IsFalseIn base ((told items).transcripts tx) → Stands items tx → HasItemFault items base (Commit tx number)
  false_commit tx number place f (inr none) = absurd (none.0 place.0)
  false_commit tx number place f (inl running) =
      let there = running.1 place.1 f.front f.rest f.done f.cut in (
        length there.upto + 1,
        TraceCause.Reply,
        (
          tx,
          number,
          refl,
          place,
          (
            there.upto,
            there.later,
            f.done,
            f.rest,
            f.middle,
            there.cut,
            refl,
            f.cut ∙ ap (λ ds. ds ++ f.done ∷ f.rest) (sym there.same),
            subst (λ ds. Runs Step base ds f.middle) (sym there.same) f.runs,
            f.never,
          ),
        ),
      )

  commits_or_not : (tx number : ℕ) → HasPlace items (Commit tx number) → GoesOnOrNot items base (Commit tx number)
  commits_or_not tx number place = elim (runs_or_not base ((told items).transcripts tx)) [
    | inl all ↦ goes_on (Commit tx number) all.0 place
        (subst (λ (l : Lists (ObjOp × ObjReply)). IsSerialBase Step empty_base l.committed all.0) (sym (told-push items (Commit tx number)))
        (serial_push Step (told items).committed ((told items).transcripts tx) empty_base base all.0 h.serial all.1))
    | inr f ↦ inr (false_commit tx number place f (h.stand tx))
  ]

  placed_goes_on : (item : TraceItem) → HasPlace items item → GoesOnOrNot items base item
  placed_goes_on (Begin tx) place = same_base (Begin tx) place (ap (λ (l : Lists (ObjOp × ObjReply)). l.committed) (told-push items (Begin tx)))
  placed_goes_on (Op tx done) place = same_base (Op tx done) place (ap (λ (l : Lists (ObjOp × ObjReply)). l.committed) (told-push items (Op tx done)))
  placed_goes_on (Back tx) place = same_base (Back tx) place (ap (λ (l : Lists (ObjOp × ObjReply)). l.committed) (told-push items (Back tx)))
  placed_goes_on (Commit tx number) place = commits_or_not tx number place
  placed_goes_on (Abort tx) place = same_base (Abort tx) place (ap (λ (l : Lists (ObjOp × ObjReply)). l.committed) (told-push items (Abort tx)))

  -- the item goes on from there, or has a fault
  goes_on_or_not : (item : TraceItem) → GoesOnOrNot items base item
  goes_on_or_not item = elim (place_or_not items item) [
    | inl place ↦ placed_goes_on item place
    | inr none ↦ inr (length items + 1, TraceCause.Place, (none, refl))
  ]

-- ---- lines

-- the line says an item that goes on from there, or has a fault
abbrev LineGoesOnOrNot : List TraceItem → Base → Raw → Type 0
LineGoesOnOrNot items base raw =
    ((item : TraceItem) × (next : Base) × (reading raw ≡ Says item) × LeadTo (one_more items item) next)
    ⊎ ((line : ℕ) × (fault : TraceCause) × IsLineFault items base raw line fault)

line_goes_on_or_not : (items : List TraceItem) (base : Base) (raw : Raw) (found : TraceReading) → LeadTo items base → reading raw ≡ found → LineGoesOnOrNot items base raw
line_goes_on_or_not items base raw (Bad fault) h is = inr (length items + 1, fault, bad_line raw fault items base (length items + 1) is refl)
line_goes_on_or_not items base raw (Says item) h is = elim (goes_on_or_not items base h item) [
  | inl next ↦ inl (item, next.0, is, next.1)
  | inr f ↦ inr (f.0, f.1, fault_line f.1 items base raw item f.0 is f.2)
]

abbrev TraceOrNot : List Raw → Type 0
TraceOrNot raws = ((items : List TraceItem) × (base : Base) × IsTrace raws items base) ⊎ ((line : ℕ) × (fault : TraceCause) × IsFirstFaultOf raws line fault)

lines_from : (later before all : List Raw) (items : List TraceItem) (base : Base) → all ≡ before ++ later → map reading before ≡ map Says items → LeadTo items base → TraceOrNot all
lines_from [] before all items base e said h =
    inl (items, base, record { said = ap (map reading) (e ∙ append_nil before) ∙ said; placed = h.placed; serial = h.serial })
lines_from (raw ∷ later) before all items base e said h = elim (line_goes_on_or_not items base raw (reading raw) h refl) [
  | inl next ↦ lines_from later (before ++ raw ∷ []) all (one_more items next.0) next.1 (e ∙ sym (append_assoc before (raw ∷ []) later))
      (said_more before items raw next.0 said next.2) next.3
  | inr f ↦ inr (f.0, f.1, (before, raw, later, items, base, e, record { said = said; placed = h.placed; serial = h.serial }, f.2))
]

pub trace_or_not : (text : List ℕ) → ((txs : List ℕ) × (base : Base) × IsAcceptedTrace text txs base) ⊎ ((line : ℕ) × (fault : TraceCause) × IsFirstFault text line fault)
trace_or_not text = elim (lines_from (lines text) [] (lines text) [] empty_base refl refl none_lead) [
  | inl one ↦ inl (committed_txs one.0, one.1, (one.0, one.2, refl))
  | inr f ↦ inr f
]
