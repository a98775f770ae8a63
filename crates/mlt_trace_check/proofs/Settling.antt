-- What a settled line says, whatever comes behind it.
use Rattle.std.proofs.Common.{◌≡◌, inl, inr, ℕ, ◌<◌, Bool, true, false, cond, List, [], ◌∷◌, ◌++◌, length, map, take, Option, Some, None, nat_lt, refl, sym, ap, subst, ◌∙◌, arith, lt-ltb, position}
use Rattle.std.specs.List.{list_all}
use Rattle.mlt_trace_check.proofs.Names.{TraceCause, Raw, is_lf, TraceItem, TraceReading, IsSettled}
use Rattle.mlt_text_words.{specs.Lines.lines, specs.Lines.content, specs.Lines.is_allowed, specs.Words.raw_words, proofs.Cutting.found, proofs.Cutting.not_found}
use Rattle.mlt_trace_check.{specs.declared.reading.TraceReading.TheVariants.Bad, specs.declared.reading.TraceReading.TheVariants.Says, specs.Readings.item_of, specs.Readings.item_or_fault, specs.Readings.reading, proofs.Behind.AllEnd, proofs.Behind.lines_behind, proofs.Behind.stays_long}

abbrev IsItem : TraceReading → Type 0
IsItem (Bad fault) = ⊥
IsItem (Says item) = Unit {0}

if_ended : (long allowed ended : Bool) (r : TraceReading) → IsItem (cond long (Bad TraceCause.Line) (cond allowed (cond ended r (Bad TraceCause.Cut)) (Bad TraceCause.Line))) → ended ≡ true
if_ended true allowed ended r h = absurd h
if_ended false false ended r h = absurd h
if_ended false true true r h = refl
if_ended false true false r h = absurd h

-- an LF ends each line that says an item
pub says_ended : (raw : Raw) (item : TraceItem) → reading raw ≡ Says item → raw.ended ≡ true
unfolding reading
says_ended raw item is =
    if_ended (nat_lt 200 (length raw.bytes)) (list_all is_allowed (content raw)) raw.ended (item_or_fault (item_of (raw_words (content raw)))) (subst IsItem (sym is) tt)

pub all_end : (raws : List Raw) (items : List TraceItem) → map reading raws ≡ map Says items → AllEnd raws
all_end [] items e = tt
all_end (raw ∷ raws) [] e = absurd (cc e)
all_end (raw ∷ raws) (item ∷ items) e =
    let head : reading raw ≡ Says item = cc e in
    let tail : map reading raws ≡ map Says items = cc e in
    (says_ended raw item head, all_end raws items tail)

long_reading : (raw : Raw) → 200 < length raw.bytes → reading raw ≡ Bad TraceCause.Line
unfolding reading
long_reading raw long = rw (lt-ltb 200 (length raw.bytes) long) refl

-- a first line that says this, and the lines after it
pub record FirstSays (text : List ℕ) (said : TraceReading) : Type 0 where
  pub raw : Raw
  pub after : List Raw
  pub cut : lines text ≡ raw ∷ after
  pub says : reading raw ≡ said

pub settled_stays : (text rest more : List ℕ) (raw : Raw) (said : TraceReading) → lines text ≡ raw ∷ lines rest → reading raw ≡ said → IsSettled raw → FirstSays (text ++ more) said
settled_stays text rest more raw said e is (inl ended) =
    record { raw = raw; after = lines (rest ++ more); cut = lines_behind text rest more (raw ∷ []) (ended, tt) e; says = is }
settled_stays text rest more raw said e is (inr long) =
    let h = stays_long text more raw (lines rest) e in
    let long_still : 200 < length h.first.bytes = (let l = h.long in omega arith) in
    record { raw = h.first; after = h.after; cut = h.cut; says = long_reading h.first long_still ∙ sym (long_reading raw long) ∙ is }

-- a first line that ends in an LF, or is long
pub settled_by : (o : Option ℕ) (text : List ℕ) (raw : Raw) (after : List Raw) → position is_lf text ≡ o → 0 < length text → (o ≡ None → 200 < length text)
    → lines text ≡ raw ∷ after → IsSettled raw
settled_by (Some i) text raw after at some long e =
    let both = sym (found text i at) ∙ e in
    let head : record { bytes = take i text; ended = true } ≡ raw = cc both in
    inl (sym (ap (λ (r : Raw). r.ended) head))
settled_by None text raw after at some long e =
    let both = sym (not_found text some at) ∙ e in
    let head : record { bytes = text; ended = false } ≡ raw = cc both in
    let size : length text ≡ length raw.bytes = ap (λ (r : Raw). length r.bytes) head in
    let l = long refl in
    inr (omega (arith, size, l))
