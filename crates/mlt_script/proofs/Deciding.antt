-- What a scan's exactness says of an answer that agrees with it.
use Rattle.std.proofs.Common.{◌≡◌, ℕ, List, [], ◌⊎◌, inl, inr, Result, Ok, Err, refl, sym, ap, subst, ◌∙◌, IfOk, IfErr, IsErrAnd, MatchResult}
use Rattle.mlt_script.proofs.Names.{Refusal, OutOfMemory, ScriptFault, ScriptCause, Gives, Refuses, Outside, ScriptForm}
use Rattle.mlt_script.{specs.Grammar.Spells, specs.Grammar.IsFirstFault, specs.Grammar.IsDecided, specs.Scan.scan, proofs.Soundness.Answers, proofs.Soundness.answers, proofs.Completeness.finds_scripts, proofs.Completeness.finds_fault}
use Rattle.mlt_text_words.specs.Lines.{lines}

abbrev pub Wanted : Type 0
Wanted = Result (List ScriptForm) (ℕ × ScriptCause)

abbrev pub scanned : List ℕ → Wanted
scanned text = scan (Outside []) 0 (lines text)

-- two answers that differ are not the same
apart : (scripts : List ScriptForm) (f : ℕ × ScriptCause) (w : Wanted) → w ≡ Ok scripts → w ≡ Err f → ⊥
apart scripts f w a b = let e : Ok scripts ≡ Err f = sym a ∙ b in cc e

scripts_in : Wanted → List ScriptForm → List ScriptForm
scripts_in (Ok scripts) otherwise = scripts
scripts_in (Err f) otherwise = otherwise

fault_in : Wanted → ℕ × ScriptCause → ℕ × ScriptCause
fault_in (Ok scripts) otherwise = otherwise
fault_in (Err f) otherwise = f

same_scripts : (w : Wanted) (a b : List ScriptForm) → w ≡ Ok a → w ≡ Ok b → a ≡ b
unfolding scripts_in
same_scripts w a b h k = ap (λ w. scripts_in w a) (sym h ∙ k)

same_fault : (w : Wanted) (a b : ℕ × ScriptCause) → w ≡ Err a → w ≡ Err b → a ≡ b
unfolding fault_in
same_fault w a b h k = ap (λ w. fault_in w a) (sym h ∙ k)

one_of : (text : List ℕ) (w : Wanted) → Answers (lines text) w
    → ((scripts : List ScriptForm) × Spells text scripts) ⊎ ((line : ℕ) × (fault : ScriptCause) × IsFirstFault text line fault)
one_of text (Ok scripts) h = inl (scripts, h)
one_of text (Err f) h = inr (f.0, f.1, h)

pub decided : (text : List ℕ) → IsDecided text
decided text = (
  one_of text (scanned text) (answers (lines text)),
  λ scripts line c h k. apart scripts (line, c) (scanned text) (finds_scripts (lines text) scripts h) (finds_fault (lines text) line c k),
  λ scripts others h k. same_scripts (scanned text) scripts others (finds_scripts (lines text) scripts h) (finds_scripts (lines text) others k),
  λ line other c d h k. let e = same_fault (scanned text) (line, c) (other, d) (finds_fault (lines text) line c h) (finds_fault (lines text) other d k) in (ap (λ f. f.0) e, ap (λ f. f.1) e),
)

pub spelled : {A : Type 0} (view : A → List ScriptForm) (text : List ℕ) (r : Result A Refusal) → Gives view r (scanned text) → IfOk r (λ found. Spells text (view found))
spelled view text (Ok found) h = subst (Answers (lines text)) h (answers (lines text))
spelled view text (Err e) h = tt

refused_only : (e : Refusal) (scripts : List ScriptForm) (w : Wanted) → Refuses e w → w ≡ Ok scripts → e ≡ OutOfMemory
refused_only OutOfMemory scripts w h k = refl
refused_only (ScriptFault line c) scripts w h k = absurd (apart scripts (line, c) w k h)
refused_only e scripts w h k = absurd h

pub accepted : {A : Type 0} (view : A → List ScriptForm) (text : List ℕ) (r : Result A Refusal) → Gives view r (scanned text)
    → (scripts : List ScriptForm) → Spells text scripts → MatchResult r (λ found. view found ≡ scripts) (λ refusal. refusal ≡ OutOfMemory)
accepted view text (Ok found) h scripts k = same_scripts (scanned text) (view found) scripts h (finds_scripts (lines text) scripts k)
accepted view text (Err e) h scripts k = refused_only e scripts (scanned text) h (finds_scripts (lines text) scripts k)

pub fault : {A : Type 0} (view : A → List ScriptForm) (text : List ℕ) (r : Result A Refusal) → Gives view r (scanned text)
    → (line : ℕ) (c : ScriptCause) → r ≡ Err (ScriptFault line c) → IsFirstFault text line c
fault {A} view text r h line c e =
    let k : scanned text ≡ Err (line, c) = subst (λ (r : Result A Refusal). Gives view r (scanned text)) e h in
    subst (Answers (lines text)) k (answers (lines text))

fault_or_memory : (e : Refusal) (line : ℕ) (c : ScriptCause) (w : Wanted) → Refuses e w → w ≡ Err (line, c) → (e ≡ ScriptFault line c) ⊎ (e ≡ OutOfMemory)
fault_or_memory OutOfMemory line c w h k = inr refl
fault_or_memory (ScriptFault n d) line c w h k = let e = same_fault w (n, d) (line, c) h k in inl (ap (λ f. ScriptFault f.0 f.1) e)
fault_or_memory e line c w h k = absurd h

pub faulty : {A : Type 0} (view : A → List ScriptForm) (text : List ℕ) (r : Result A Refusal) → Gives view r (scanned text)
    → (line : ℕ) (c : ScriptCause) → IsFirstFault text line c → IsErrAnd r (λ refusal. (refusal ≡ ScriptFault line c) ⊎ (refusal ≡ OutOfMemory))
faulty view text (Ok found) h line c k = absurd (apart (view found) (line, c) (scanned text) h (finds_fault (lines text) line c k))
faulty view text (Err e) h line c k = fault_or_memory e line c (scanned text) h (finds_fault (lines text) line c k)

which : (e : Refusal) (w : Wanted) → Refuses e w → (e ≡ OutOfMemory) ⊎ ((line : ℕ) × (c : ScriptCause) × (e ≡ ScriptFault line c))
which OutOfMemory w h = inl refl
which (ScriptFault line c) w h = inr (line, c, refl)
which e w h = absurd h

pub refusals : {A : Type 0} (view : A → List ScriptForm) (text : List ℕ) (r : Result A Refusal) → Gives view r (scanned text)
    → IfErr r (λ refusal. (refusal ≡ OutOfMemory) ⊎ ((line : ℕ) × (c : ScriptCause) × (refusal ≡ ScriptFault line c)))
refusals view text (Ok found) h = tt
refusals view text (Err e) h = which e (scanned text) h
