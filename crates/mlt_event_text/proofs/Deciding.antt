-- Each text is events or has a first fault, and just one of these.
use Rattle.std.proofs.Common.{◌≡◌, ℕ, ◌+◌, List, [], ◌∷◌, ◌++◌, length, ◌⊎◌, inl, inr, Result, Ok, Err, refl, sym, ap, subst, ◌∙◌, arith, IsErrAnd, MatchResult}
use Rattle.std.proofs.lemmas.List.Elements.{All-cons, All-head, All-nil, All-tail}
use Rattle.mlt_types.specs.declared.refusal.{Refusal.Refusal, Refusal.TheVariants.OutOfMemory, Refusal.TheVariants.ScriptFault, ScriptCause.ScriptCause}
use Rattle.mlt_event.specs.declared.event.Event.{Event}
use Rattle.mlt_event_text.{specs.declared.line.EventReading.EventReading, specs.declared.line.EventReading.TheVariants.Bad, specs.declared.line.EventReading.TheVariants.Skip, specs.declared.line.EventReading.TheVariants.Asks, specs.Answering.Answers, specs.Readings.reading, proofs.Going.bad_line}
use Rattle.mlt_event_text.specs.Grammar.{AreEvents, AreLawful, IsDecided, IsFault, IsFirstFault, IsFirstFaultOf, IsLawful, IsNoFault, Spells, events_of}
use Rattle.mlt_text_words.specs.Lines.{Raw, lines}

-- the lines are events, or have a first fault
abbrev AreDecided : List Raw → Type 0
AreDecided raws = ((events : List Event) × AreEvents raws events) ⊎ ((line : ℕ) × (fault : ScriptCause) × IsFirstFaultOf raws line fault)

one_more : (raw : Raw) (raws : List Raw) → IsLawful raw → AreDecided raws → AreDecided (raw ∷ raws)
one_more raw raws lawful (inl h) = inl (events_of raw ++ h.0, record { lawful = All-cons IsLawful raw raws lawful h.1.lawful; appended = ap (λ es. events_of raw ++ es) h.1.appended })
one_more raw raws lawful (inr h) = let f = h.2 in
    inr (h.0 + 1, h.1, (raw ∷ f.0, f.1, f.2, ap (λ rs. raw ∷ rs) f.3, omega (arith, f.4), All-cons IsLawful raw f.0 lawful f.5, f.6))

decided_by : (raw : Raw) (raws : List Raw) (r : EventReading) → reading raw ≡ r → AreDecided raws → AreDecided (raw ∷ raws)
decided_by raw raws (Bad fault) is h = inr (1, fault, ([], raw, raws, refl, refl, All-nil IsLawful, bad_line raw fault is))
decided_by raw raws Skip is h = one_more raw raws (subst IsNoFault (sym is) tt) h
decided_by raw raws (Asks asked) is h = one_more raw raws (subst IsNoFault (sym is) tt) h

decided_lines : (raws : List Raw) → AreDecided raws
decided_lines [] = inl ([], record { lawful = All-nil IsLawful; appended = refl })
decided_lines (raw ∷ raws) = decided_by raw raws (reading raw) refl (decided_lines raws)

-- a faulty line is not lawful
not_lawful : (raw : Raw) (fault : ScriptCause) → IsFault raw fault → IsLawful raw → ⊥
not_lawful raw ScriptCause.Line is lawful = subst IsNoFault is lawful
not_lawful raw ScriptCause.Words is lawful = subst IsNoFault is lawful
not_lawful raw other is lawful = is

fault_inside : (before after : List Raw) (raw : Raw) (fault : ScriptCause) → IsFault raw fault → AreLawful (before ++ raw ∷ after) → ⊥
fault_inside [] after raw fault is lawful = not_lawful raw fault is (All-head IsLawful raw after lawful)
fault_inside (one ∷ before) after raw fault is lawful = fault_inside before after raw fault is (All-tail IsLawful one (before ++ raw ∷ after) lawful)

not_both : (raws : List Raw) (events : List Event) (line : ℕ) (fault : ScriptCause) → AreEvents raws events → IsFirstFaultOf raws line fault → ⊥
not_both raws events line fault h k = fault_inside k.0 k.2 k.1 fault k.6 (subst AreLawful k.3 h.lawful)

one_list : (raws : List Raw) (events others : List Event) → AreEvents raws events → AreEvents raws others → events ≡ others
one_list raws events others h k = h.appended ∙ sym k.appended

-- a line has one fault at most
same_fault : (raw : Raw) (fault another : ScriptCause) → IsFault raw fault → IsFault raw another → fault ≡ another
same_fault raw ScriptCause.Line ScriptCause.Line h k = refl
same_fault raw ScriptCause.Words ScriptCause.Words h k = refl
same_fault raw ScriptCause.Line ScriptCause.Words h k = let e : Bad ScriptCause.Line ≡ Bad ScriptCause.Words = sym h ∙ k in cc e
same_fault raw ScriptCause.Words ScriptCause.Line h k = let e : Bad ScriptCause.Words ≡ Bad ScriptCause.Line = sym h ∙ k in cc e
same_fault raw ScriptCause.Line other h k = absurd k
same_fault raw ScriptCause.Words other h k = absurd k
same_fault raw other another h k = absurd h

-- two cuts of the same lines at a faulty one, with lawful ones before it
same_cut : (before other after rest : List Raw) (raw one : Raw) (fault another : ScriptCause) → before ++ raw ∷ after ≡ other ++ one ∷ rest
    → AreLawful before → AreLawful other → IsFault raw fault → IsFault one another → (length before ≡ length other) × (fault ≡ another)
same_cut [] [] after rest raw one fault another e h k f g =
    let same : one ≡ raw = cc e in (refl, same_fault raw fault another f (subst (λ r. IsFault r another) same g))
same_cut [] (z ∷ other) after rest raw one fault another e h k f g =
    let same : z ≡ raw = cc e in absurd (not_lawful raw fault f (subst IsLawful same (All-head IsLawful z other k)))
same_cut (z ∷ before) [] after rest raw one fault another e h k f g =
    let same : z ≡ one = cc e in absurd (not_lawful one another g (subst IsLawful same (All-head IsLawful z before h)))
same_cut (y ∷ before) (z ∷ other) after rest raw one fault another e h k f g =
    let tails : before ++ raw ∷ after ≡ other ++ one ∷ rest = cc e in
    let same = same_cut before other after rest raw one fault another tails (All-tail IsLawful y before h) (All-tail IsLawful z other k) f g in
    (let one = same.0 in omega (arith, one), same.1)

one_fault : (raws : List Raw) (line other : ℕ) (fault another : ScriptCause) → IsFirstFaultOf raws line fault → IsFirstFaultOf raws other another → (line ≡ other) × (fault ≡ another)
one_fault raws line other fault another h k =
    let same = same_cut h.0 k.0 h.2 k.2 h.1 k.1 fault another (sym h.3 ∙ k.3) h.5 k.5 h.6 k.6 in
    (h.4 ∙ ap (λ n. n + 1) same.0 ∙ sym k.4, same.1)

pub decided : (text : List ℕ) → IsDecided text
decided text = record {
  either = decided_lines (lines text);
  not_both = not_both (lines text);
  one_list = one_list (lines text);
  one_fault = one_fault (lines text);
}

pub accepted : {A : Type 0} (view : A → List Event) (text : List ℕ) (r : Result A Refusal) → Answers view r text
    → (events : List Event) → Spells text events → MatchResult r (λ found. view found ≡ events) (λ refusal. refusal ≡ OutOfMemory)
accepted view text (Ok found) h events k = one_list (lines text) (view found) events h k
accepted view text (Err OutOfMemory) h events k = refl
accepted view text (Err (ScriptFault line fault)) h events k = absurd (not_both (lines text) events line fault k h)
accepted view text (Err e) h events k = absurd h

pub faulty : {A : Type 0} (view : A → List Event) (text : List ℕ) (r : Result A Refusal) → Answers view r text
    → (line : ℕ) (fault : ScriptCause) → IsFirstFault text line fault → IsErrAnd r (λ refusal. (refusal ≡ ScriptFault line fault) ⊎ (refusal ≡ OutOfMemory))
faulty view text (Ok found) h line fault k = absurd (not_both (lines text) (view found) line fault h k)
faulty view text (Err OutOfMemory) h line fault k = inr refl
faulty view text (Err (ScriptFault number found)) h line fault k =
    let same = one_fault (lines text) number line found fault h k in inl (ap (λ n. ScriptFault n found) same.0 ∙ ap (λ c. ScriptFault line c) same.1)
faulty view text (Err e) h line fault k = absurd h
