-- A text that a check goes over, line by line.
use Rattle.std.proofs.Common.{◌≡◌, ℕ, ◌+◌, Bool, true, false, cond, List, [], ◌∷◌, ◌++◌, length, map, Ok, Err, Option, Some, None, nat_lt, refl, sym, ap, subst, ◌∙◌, inl, inr, append_assoc, length-append}
use Rattle.mlt_trace_check.proofs.Names.{map-append, list_all, Refusal, TraceCause, Base, Raw, lines, is_allowed, raw_words, TraceItem, committed_txs, Checker, TraceReading, Bad, Says, Progress, WentOver, Knows, Takes, item_or_fault, ArePlaced, HasPlace, IsAcceptedTrace, IsFirstFault, IsItemFault, IsLineFault}
use Rattle.mlt_text_words.{specs.Lines.content, proofs.Cutting.no_lines}
use Rattle.mlt_trace_check.{specs.Progresses.TakesLine, specs.Readings.item_of, specs.Readings.reading, proofs.Refusals.refused_too, proofs.Growing.append_nil, proofs.Growing.committed_txs-append, proofs.Growing.no_cut, proofs.Growing.split_last}

-- ---- a line that is faulty by itself

-- a cause that a line has by itself
abbrev IsOwn : TraceCause → Type 0
IsOwn TraceCause.Line = Unit {0}
IsOwn TraceCause.Cut = Unit {0}
IsOwn TraceCause.Words = Unit {0}
IsOwn other = ⊥

abbrev IsOwnReading : TraceReading → Type 0
IsOwnReading (Bad fault) = IsOwn fault
IsOwnReading (Says item) = Unit {0}

own_either : (b : Bool) (x y : TraceReading) → IsOwnReading x → IsOwnReading y → IsOwnReading (cond b x y)
own_either true x y h k = h
own_either false x y h k = k

own_item : (o : Option TraceItem) → IsOwnReading (item_or_fault o)
own_item None = tt
own_item (Some item) = tt

own_reading : (raw : Raw) → IsOwnReading (reading raw)
unfolding reading
own_reading raw =
    own_either (nat_lt 200 (length raw.bytes)) _ _ tt
    (own_either (list_all is_allowed (content raw)) _ _ (own_either raw.ended _ _ (own_item (item_of (raw_words (content raw)))) tt) tt)

own_fault : (fault : TraceCause) → IsOwn fault → (items : List TraceItem) (base : Base) (raw : Raw) (line : ℕ) → reading raw ≡ Bad fault → line ≡ length items + 1 → IsLineFault items base raw line fault
own_fault TraceCause.Line own items base raw line is at = (is, at)
own_fault TraceCause.Cut own items base raw line is at = (is, at)
own_fault TraceCause.Words own items base raw line is at = (is, at)
own_fault other own items base raw line is at = absurd own

pub bad_line : (raw : Raw) (fault : TraceCause) (items : List TraceItem) (base : Base) (line : ℕ) → reading raw ≡ Bad fault → line ≡ length items + 1 → IsLineFault items base raw line fault
bad_line raw fault items base line is at = own_fault fault (subst IsOwnReading is (own_reading raw)) items base raw line is at

-- a line that says an item has the item's faults
pub fault_line : (fault : TraceCause) (items : List TraceItem) (base : Base) (raw : Raw) (item : TraceItem) (line : ℕ) → reading raw ≡ Says item
    → IsItemFault items base item line fault → IsLineFault items base raw line fault
fault_line TraceCause.Line items base raw item line is found = absurd found
fault_line TraceCause.Cut items base raw item line is found = absurd found
fault_line TraceCause.Words items base raw item line is found = absurd found
fault_line TraceCause.Place items base raw item line is found = (item, is, found)
fault_line TraceCause.Reply items base raw item line is found = (item, is, found)

-- ---- one more line

pub placed_more : (items : List TraceItem) (item : TraceItem) → ArePlaced items → HasPlace items item → ArePlaced (items ++ item ∷ [])
placed_more items item placed place before later next e =
    elim (split_last items before later item next e) [
      | inl inside ↦ placed before inside.0 next inside.1
      | inr last ↦
          let F : List TraceItem → Type 0 = λ front. HasPlace front item in
          let G : TraceItem → Type 0 = λ one. HasPlace before one in
          subst G last.1 (subst F last.0 place)
    ]

pub said_more : (before : List Raw) (items : List TraceItem) (raw : Raw) (item : TraceItem) → map reading before ≡ map Says items → reading raw ≡ Says item → map reading (before ++ raw ∷ []) ≡ map Says (items ++ item ∷ [])
said_more before items raw item said is =
    map-append reading before (raw ∷ []) ∙ ap (λ rs. rs ++ reading raw ∷ []) said ∙ ap (λ r. map Says items ++ r ∷ []) is ∙ sym (map-append Says items (item ∷ []))

pub went_nowhere : (progress : Progress) (text : List ℕ) → Knows progress.checker [] → progress.line ≡ 0 → progress.txs.items ≡ [] → WentOver progress [] text text
went_nowhere progress text knows line txs = record {
  before = [];
  items = [];
  cut = refl;
  counted = line;
  order = txs;
  said = refl;
  placed = λ before later item e. absurd (no_cut before later item e);
  knows = knows;
}

pub went_on : (old new : Progress) (told taken rest after : List ℕ) (raw : Raw) (item : TraceItem) → lines rest ≡ raw ∷ lines after → reading raw ≡ Says item
    → Takes (Ok tt) old.checker new.checker (old.line + 1) item → new.line ≡ old.line + 1 → new.txs.items ≡ old.txs.items ++ committed_txs (item ∷ [])
    → WentOver old told taken rest → WentOver new told taken after
went_on old new told taken rest after raw item first is takes line txs over =
    let next = takes over.items over.knows (ap (λ n. n + 1) over.counted) in
    record {
      before = over.before ++ raw ∷ [];
      items = over.items ++ item ∷ [];
      cut = over.cut ∙ ap (λ rs. over.before ++ rs) first ∙ sym (append_assoc over.before (raw ∷ []) (lines after));
      counted = line ∙ ap (λ n. n + 1) over.counted ∙ sym (length-append over.items (item ∷ []));
      order = ap (λ ns. told ++ ns) txs ∙ sym (append_assoc told old.txs.items (committed_txs (item ∷ []))) ∙ ap (λ ns. ns ++ committed_txs (item ∷ [])) over.order
          ∙ sym (committed_txs-append over.items (item ∷ []));
      said = said_more over.before over.items raw item over.said is;
      placed = placed_more over.items item over.placed next.0;
      knows = next.1;
    }

-- the first line of the rest is faulty
pub first_fault : (old : Progress) (told taken rest : List ℕ) (raw : Raw) (after : List Raw) (line : ℕ) (fault : TraceCause) → lines rest ≡ raw ∷ after
    → ((items : List TraceItem) → Knows old.checker items → old.line + 1 ≡ length items + 1 → IsLineFault items old.checker.base raw line fault)
    → WentOver old told taken rest → IsFirstFault taken line fault
first_fault old told taken rest raw after line fault first found over = (
  over.before,
  raw,
  after,
  over.items,
  old.checker.base,
  over.cut ∙ ap (λ rs. over.before ++ rs) first,
  record { said = over.said; placed = over.placed; serial = over.knows.serial },
  found over.items over.knows (ap (λ n. n + 1) over.counted),
)

-- an item that is refused
pub take_fails : (refusal : Refusal) (old new : Progress) (checker : Checker) (item : TraceItem) (found : TraceReading) → found ≡ Says item
    → Takes (Err refusal) old.checker checker (old.line + 1) item → TakesLine (Err refusal) old new found
take_fails refusal old new checker item found is = refused_too _ _ refusal (λ n fault takes raw told taken rest after says first over.
    first_fault old told taken rest raw after n fault first (λ items h at. fault_line fault items old.checker.base raw item n (says ∙ is) (takes items h at)) over)

pub went_to_end : (progress : Progress) (told taken rest : List ℕ) → length rest ≡ 0 → WentOver progress told taken rest → IsAcceptedTrace taken (told ++ progress.txs.items) progress.checker.base
went_to_end progress told taken rest none over =
    let all : lines taken ≡ over.before = over.cut ∙ ap (λ rs. over.before ++ rs) (no_lines rest none) ∙ append_nil over.before in (
      over.items,
      record { said = ap (map reading) all ∙ over.said; placed = over.placed; serial = over.knows.serial },
      over.order,
    )
