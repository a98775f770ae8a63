-- A check that goes over the lines of a text, one after another.
use Rattle.std.proofs.Common.{◌≡◌, Bool, true, false, ℕ, List, [], ◌∷◌, ◌++◌, length, Ok, Err, refl, sym, ap, subst, ◌∙◌, append_assoc, append-nil}
use Rattle.mlt_trace_check.proofs.Names.{Refusal, Raw, TraceReading, WentOver, IsAcceptedTrace, IsFirstFault, Progress, GoesOver, Refuses, IsSettled}
use Rattle.mlt_text_words.specs.Lines.{lines}
use Rattle.mlt_trace_check.{specs.Readings.reading, specs.Progresses.TakesLine, specs.Refusing.IsRefusalBy, proofs.Progressing.went_to_end, proofs.Behind.behind_first, proofs.Behind.lines_behind, proofs.Refusals.refused_too, proofs.Settling.FirstSays, proofs.Settling.says_ended, proofs.Settling.settled_stays}

pub goes_nowhere : (progress : Progress) (text : List ℕ) → GoesOver progress progress text text
goes_nowhere progress text = record { front = []; cut = refl; over = λ told taken behind h. h }

-- one line more
pub goes_on : (old mid new : Progress) (text rest after : List ℕ) (raw : Raw) (found : TraceReading) → GoesOver old mid text rest
    → lines rest ≡ raw ∷ lines after → reading raw ≡ found → TakesLine (Ok tt) mid new found → GoesOver old new text after
goes_on old mid new text rest after raw found h e is took =
    let one = behind_first rest after raw e in
    let ended = says_ended raw took.0.0 (is ∙ took.0.1) in
    record {
      front = h.front ++ one.0;
      cut = h.cut ∙ ap (λ t. h.front ++ t) one.1 ∙ sym (append_assoc h.front one.0 after);
      over = λ told taken behind there. took.1 raw told taken (rest ++ behind) (after ++ behind) is (lines_behind rest after behind (raw ∷ []) (ended, tt) e) (h.over told taken behind there);
    }

first_with : (ended : Bool) (rest after behind : List ℕ) (raw : Raw) (said : TraceReading) → lines rest ≡ raw ∷ lines after → reading raw ≡ said → (ended ≡ false → IsSettled raw)
    → (ended ≡ true → behind ≡ []) → FirstSays (rest ++ behind) said
first_with true rest after behind raw said e is settled none =
    subst (λ t. FirstSays t said) (sym (append-nil rest) ∙ ap (λ t. rest ++ t) (sym (none refl))) (record { raw = raw; after = lines after; cut = e; says = is })
first_with false rest after behind raw said e is settled none = settled_stays rest after behind raw said e is (settled refl)

-- a line that is refused
pub is_refused : (refusal : Refusal) (ended : Bool) (old mid new : Progress) (text rest after : List ℕ) (raw : Raw) (found : TraceReading) → GoesOver old mid text rest
    → lines rest ≡ raw ∷ lines after → reading raw ≡ found → (ended ≡ false → IsSettled raw) → TakesLine (Err refusal) mid new found → Refuses refusal old text ended
is_refused refusal ended old mid new text rest after raw found h e is settled = refused_too _ _ refusal (λ line fault took told taken behind none there.
    let first = first_with ended rest after behind raw found e is settled none in
    took first.raw told taken (rest ++ behind) first.after first.says first.cut (h.over told taken behind there))

-- ---- a text that is all of the input

pub refuses_first : (refusal : Refusal) (start : Progress) (text : List ℕ) → WentOver start [] text text → Refuses refusal start text true → IsRefusalBy (IsFirstFault text) refusal
refuses_first refusal start text there = refused_too _ _ refusal (λ line fault found. found [] text [] (λ is. refl) (subst (WentOver start [] text) (sym (append-nil text)) there))

pub goes_to_end : (start end : Progress) (text rest : List ℕ) → length rest ≡ 0 → WentOver start [] text text → GoesOver start end text rest → IsAcceptedTrace text end.txs.items end.checker.base
goes_to_end start end text rest none there over =
    went_to_end end [] text (rest ++ []) (ap length (append-nil rest) ∙ none) (over.over [] text [] (subst (WentOver start [] text) (sym (append-nil text)) there))
