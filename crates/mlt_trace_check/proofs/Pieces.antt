-- A check that goes on from piece to piece, and how it stops.
use Rattle.std.proofs.Common.{◌≡◌, ℕ, ◌≤◌, ◌+◌, ◌-◌, Bool, true, List, [], ◌++◌, map, Option, Some, None, IfSome, Result, Ok, Err, length, drop, length-append, arith, refl, sym, ap, subst, ◌∙◌, append_assoc, append-nil, IfOk, OnErr}
use Rattle.mlt_trace_check.proofs.Names.{Appends, Appends-nil, Appends-trans, Consumes-nil, Refusal, AppendsFront, WentOver, serial_lines, IsAcceptedTrace, IsFirstFault, Progress, GoesOver, Refuses, GoesOn, IsDone, WritesOfFront, StopsIn}
use Rattle.std.{proofs.KnownBytes.Consumes-trans, proofs.Math.Seq.drop-append-add, proofs.lemmas.Grind.flat_map-append, specs.Io.KnownBytes.Consumes, specs.Io.KnownBytes.IsAtEnd}
use Rattle.mlt_text_words.specs.Lines.{lines}
use Rattle.mlt_trace_check.{specs.Checkers.Knows, specs.OrderTexts.serial_line, specs.Readings.reading, proofs.Progressing.went_nowhere, proofs.Progressing.went_to_end, specs.LongTexts.GivesAll, proofs.Behind.has_front, proofs.Behind.lines_behind, proofs.Refusals.refused_too, proofs.Settling.all_end, specs.LongChecks.IsToldOf}

serial_join : (txs more : List ℕ) → serial_lines (txs ++ more) ≡ serial_lines txs ++ serial_lines more
serial_join txs more = flat_map-append serial_line txs more

-- more came behind
pub went_further : (progress : Progress) (told taken rest more : List ℕ) → WentOver progress told taken rest → WentOver progress told (taken ++ more) (rest ++ more)
went_further progress told taken rest more h = record {
  before = h.before;
  items = h.items;
  cut = lines_behind taken rest more h.before (all_end h.before h.items h.said) h.cut;
  counted = h.counted;
  order = h.order;
  said = h.said;
  placed = h.placed;
  knows = h.knows;
}

-- the commits so far were told
told_all : (old new : Progress) (told taken rest : List ℕ) → new.checker ≡ old.checker → new.line ≡ old.line → new.txs.items ≡ [] → WentOver old told taken rest
    → WentOver new (told ++ old.txs.items) taken rest
told_all old new told taken rest checker line none h = record {
  before = h.before;
  items = h.items;
  cut = h.cut;
  counted = line ∙ h.counted;
  order = ap (λ ns. (told ++ old.txs.items) ++ ns) none ∙ append-nil (told ++ old.txs.items) ∙ h.order;
  said = h.said;
  placed = h.placed;
  knows = subst (λ c. Knows c h.items) (sym checker) h.knows;
}

-- what was gone over is a trace
front_is_trace : (progress : Progress) (told taken rest : List ℕ) → WentOver progress told taken rest
    → (front : List ℕ) × (taken ≡ front ++ rest) × IsAcceptedTrace front (told ++ progress.txs.items) progress.checker.base
unfolding lines
front_is_trace progress told taken rest h =
    let f = has_front taken rest h.before (all_end h.before h.items h.said) h.cut in
    let whole : lines f.front ≡ h.before = ap lines (sym (append-nil f.front)) ∙ f.whole [] ∙ append-nil h.before in (
      f.front,
      f.cut,
      (h.items, record { said = ap (map reading) whole ∙ h.said; placed = h.placed; serial = h.knows.serial }, h.order),
    )

pub starts : (progress : Progress) (a w : Option (List ℕ)) (held : List ℕ) → Knows progress.checker [] → progress.line ≡ 0 → progress.txs.items ≡ [] → held ≡ [] → GoesOn progress a a w w held
starts progress a w held knows line txs none = record {
  taken = [];
  told = [];
  consumed = Consumes-nil a;
  over = subst (WentOver progress [] []) (sym none) (went_nowhere progress [] knows line txs);
  wrote = Appends-nil w;
}

module _ (progress : Progress) (a b w v : Option (List ℕ)) (held : List ℕ) (h : GoesOn progress a b w v held) where
  pub reads_more : (c : Option (List ℕ)) (piece text : List ℕ) → Consumes b c piece → text ≡ held ++ piece → GoesOn progress a c w v text
  reads_more c piece text read is = record {
    taken = h.taken ++ piece;
    told = h.told;
    consumed = Consumes-trans a b c h.taken piece h.consumed read;
    over = subst (WentOver progress h.told (h.taken ++ piece)) (sym is) (went_further progress h.told h.taken held piece h.over);
    wrote = h.wrote;
  }

  over_now : (new : Progress) (rest : List ℕ) → GoesOver progress new held rest → WentOver new h.told h.taken rest
  over_now new rest g =
      subst (WentOver new h.told h.taken) (append-nil rest) (g.over h.told h.taken [] (subst (WentOver progress h.told h.taken) (sym (append-nil held)) h.over))

  pub goes_further : (mid new : Progress) (u : Option (List ℕ)) (rest left : List ℕ) → GoesOver progress mid held rest → Appends v u (serial_lines mid.txs.items)
      → new.checker ≡ mid.checker → new.line ≡ mid.line → new.txs.items ≡ [] → left ≡ rest → GoesOn new a b w u left
  goes_further mid new u rest left g wrote checker line none is = record {
    taken = h.taken;
    told = h.told ++ mid.txs.items;
    consumed = h.consumed;
    over = subst (WentOver new (h.told ++ mid.txs.items) h.taken) (sym is) (told_all mid new h.told h.taken rest checker line none (over_now mid rest g));
    wrote = subst (Appends w u) (sym (serial_join h.told mid.txs.items)) (Appends-trans w v u (serial_lines h.told) (serial_lines mid.txs.items) h.wrote wrote);
  }

  -- of the commits so far a prefix was told
  writes_front : (mid : Progress) (u : Option (List ℕ)) (rest : List ℕ) → WentOver mid h.told h.taken rest → AppendsFront v u (serial_lines mid.txs.items) → WritesOfFront a b w u
  writes_front mid u rest over (front, after, cut, wrote) =
      let f = front_is_trace mid h.told h.taken rest over in (
        f.0,
        rest,
        h.told ++ mid.txs.items,
        mid.checker.base,
        subst (Consumes a b) f.1 h.consumed,
        f.2,
        (
          serial_lines h.told ++ front,
          after,
          serial_join h.told mid.txs.items ∙ ap (λ t. serial_lines h.told ++ t) cut ∙ sym (append_assoc (serial_lines h.told) front after),
          Appends-trans w v u (serial_lines h.told) front h.wrote wrote,
        ),
      )

  -- a read failed
  pub stops_here : WritesOfFront a b w v
  stops_here = writes_front progress v held h.over ([], serial_lines progress.txs.items, refl, Appends-nil v)

  -- a line was refused, or a write failed
  pub stops_telling : (new : Progress) (u : Option (List ℕ)) → StopsIn progress new held → AppendsFront v u (serial_lines new.txs.items) → WritesOfFront a b w u
  stops_telling new u (mid, rest, g, same) wrote = writes_front mid u rest (over_now mid rest g) (subst (λ ns. AppendsFront v u (serial_lines ns)) same wrote)

  left_too : (left : Option (List ℕ)) (refusal_is : List ℕ → Type 0) → ((behind : List ℕ) → left ≡ Some behind → refusal_is behind) → IfSome left refusal_is
  left_too None P all = tt
  left_too (Some behind) P all = all behind refl

  none_left : (behind : List ℕ) → b ≡ Some behind → IsAtEnd b → behind ≡ []
  none_left behind is end = subst IsAtEnd is end

  pub told_of : (refusal : Refusal) (ended : Bool) → Refuses refusal progress held ended → (ended ≡ true → IsAtEnd b) → IsToldOf refusal a b
  told_of refusal ended refuses end = refused_too _ _ refusal (λ line fault found. (
    h.taken,
    h.consumed,
    found h.told h.taken [] (λ is. refl) (subst (WentOver progress h.told h.taken) (sym (append-nil held)) h.over),
    left_too b (λ left. IsFirstFault (h.taken ++ left) line fault) (λ behind is.
        found h.told (h.taken ++ behind) behind (λ at_end. none_left behind is (end at_end)) (went_further progress h.told h.taken held behind h.over)),
  )) refuses

-- all was gone over
pub accepted : (progress : Progress) (a b w v : Option (List ℕ)) → IsDone progress a b w v
    → (input : List ℕ) × (txs : List ℕ) × GivesAll a b input × IsAcceptedTrace input txs progress.checker.base × Appends w v (serial_lines txs)
accepted progress a b w v (h, end, none) = (
  h.taken,
  h.told,
  (h.consumed, end),
  subst (λ txs. IsAcceptedTrace h.taken txs progress.checker.base) (ap (λ ns. h.told ++ ns) none ∙ append-nil h.told) (went_to_end progress h.told h.taken [] refl h.over),
  h.wrote,
)

-- what lines were gone over, whether or not the last was refused
pub stops_somewhere : (r : Result ℕ Refusal) (old new : Progress) (text : List ℕ) → IfOk r (λ left. (rest : List ℕ) × (length rest ≡ left) × GoesOver old new text rest)
    → OnErr r (StopsIn old new text) → StopsIn old new text
stops_somewhere (Ok left) old new text (rest, few, over) stopped = (new, rest, over, refl)
stops_somewhere (Err refusal) old new text ok stopped = stopped

pub left_fits : (text front rest : List ℕ) (left : ℕ) → text ≡ front ++ rest → length rest ≡ left → left ≤ length text
left_fits text front rest left cut few =
    let all : length text ≡ length front + length rest = ap length cut ∙ length-append front rest in
    omega (arith, all, few)

-- the end of a text, by its length
pub rest_by_length : (text front rest : List ℕ) (end left : ℕ) → length text ≡ end → text ≡ front ++ rest → length rest ≡ left → drop (end - left) text ≡ rest
rest_by_length text front rest end left size cut few =
    let all : length text ≡ length front + length rest = ap length cut ∙ length-append front rest in
    let at : end - left ≡ length front = omega (arith, all, size, few) in
    let none : length front + 0 ≡ length front = omega arith in
    ap (λ (k : ℕ). drop k text) (at ∙ sym none) ∙ ap (drop (length front + 0)) cut ∙ drop-append-add front rest 0
