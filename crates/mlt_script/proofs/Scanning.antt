-- A line of a scan, and its end.
use Rattle.std.proofs.Common.{◌≡◌, ℕ, ◌+◌, List, [], ◌∷◌, length, Result, Ok, Err, sym, ap, ◌∙◌, arith}
use Rattle.mlt_script.proofs.Names.{Refusal, OutOfMemory, ScriptFault, ScriptCause, Raw, ScanState, after, advance, at_end, Advances, Refuses, ScriptForm}
use Rattle.mlt_text_words.specs.Lines.{lines}
use Rattle.mlt_script.specs.{Readings.reading, Scan.scan}

abbrev Answer : Type 0
Answer = Result (List ScriptForm) (ℕ × ScriptCause)

first : (s : ScanState) (n : ℕ) (text more : List ℕ) (raw : Raw) → lines text ≡ raw ∷ lines more
    → scan s n (lines text) ≡ after (advance s (reading raw)) (n + 1) (λ t. scan t (n + 1) (lines more))
unfolding scan
first s n text more raw e = ap (scan s n) e

pub goes_on : (s t : ScanState) (n : ℕ) (text more : List ℕ) (raw : Raw) (total : Answer) → lines text ≡ raw ∷ lines more
    → advance s (reading raw) ≡ Ok t → scan s n (lines text) ≡ total → scan t (n + 1) (lines more) ≡ total
goes_on s t n text more raw total e a h =
    sym (first s n text more raw e ∙ ap (λ r. after r (n + 1) (λ t. scan t (n + 1) (lines more))) a) ∙ h

fails : (s : ScanState) (n : ℕ) (text more : List ℕ) (raw : Raw) (c : ScriptCause) (total : Answer) → lines text ≡ raw ∷ lines more
    → advance s (reading raw) ≡ Err c → scan s n (lines text) ≡ total → total ≡ Err (n + 1, c)
fails s n text more raw c total e a h =
    sym h ∙ first s n text more raw e ∙ ap (λ r. after r (n + 1) (λ t. scan t (n + 1) (lines more))) a

pub exits : (e : Refusal) (s t : ScanState) (n : ℕ) (text more : List ℕ) (raw : Raw) (total : Answer) → lines text ≡ raw ∷ lines more
    → Advances (Err e) (n + 1) (advance s (reading raw)) t → scan s n (lines text) ≡ total → Refuses e total
exits OutOfMemory s t n text more raw total e a h = tt
exits (ScriptFault m c) s t n text more raw total e a h = fails s n text more raw c total e a.1 h ∙ ap (λ k. Err (k, c)) (sym a.0)
exits refusal s t n text more raw total e a h = absurd a

pub ends : (s : ScanState) (n : ℕ) (text : List ℕ) (total : Answer) → length text ≡ 0 → scan s n (lines text) ≡ total → at_end s n ≡ total
unfolding scan lines
ends s n [] total e h = h
ends s n (b ∷ bs) total e h = absurd (omega arith)
