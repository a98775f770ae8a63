-- What the check of a long trace answers, and that it is the only answer.
use Rattle.std.proofs.Common.{◌≡◌, ◌⊎◌, inl, inr, ℕ, List, [], ◌++◌, Option, Some, None, Result, Ok, Err, refl, sym, ap, subst, ◌∙◌, append_assoc, IfErr, IsErrOf, OnErr, OnOk}
use Rattle.mlt_trace_check.proofs.Names.{Appends, Appends-nil, Appends-trans, Consumes-nil, Refusal, Io, OutOfMemory, TraceCause, IsWant, AppendsFront, serial_lines, IsAcceptedTrace, IsFirstFault, Progress, IsDone, WritesOfFront}
use Rattle.std.{specs.Io.KnownBytes.Keeps, proofs.KnownBytes.Appends-kept}
use Rattle.mlt_object_base.specs.BaseText.{base_text}
use Rattle.mlt_object_kinds.specs.Bases.{empty_base}
use Rattle.mlt_text_words.specs.Lines.{lines}
use Rattle.mlt_trace_check.{specs.OrderTexts.order_text, specs.Answering.Answers, proofs.Exactness.all_given, proofs.Refusals.refused_too, proofs.Refusals.refused_want, proofs.Refusals.want_or_fault, proofs.Growing.no_cut, specs.LongChecks.IsAnswer, specs.LongTexts.IsFirstFaultRead, specs.LongTexts.IsLongCheckOf, specs.LongTexts.StopsEarly, proofs.Pieces.accepted}
use Rattle.mlt_text.specs.Failures.{IsTraceFault}

-- no text is a trace
no_trace : IsAcceptedTrace [] [] empty_base
unfolding lines
no_trace = ([], record { said = refl; placed = λ before later item e. absurd (no_cut before later item e); serial = refl }, refl)

pub nothing_said : (a w : Option (List ℕ)) → WritesOfFront a a w w
nothing_said a w = ([], [], [], empty_base, Consumes-nil a, no_trace, ([], [], refl, Appends-nil w))

pub answers : (r : Result (Unit {0}) Refusal) (progress : Progress) (a b w v u : Option (List ℕ)) → IsDone progress a b w v → OnOk r (Appends v u (base_text progress.checker.base)) → IfErr r IsWant → IsAnswer r a b w u
answers (Ok it) progress a b w v u done wrote want =
    let k = accepted progress a b w v done in
    (k.0, k.1, progress.checker.base, k.2, k.3, Appends-trans w v u (serial_lines k.1) (base_text progress.checker.base) k.4 wrote)
answers (Err refusal) progress a b w v u done wrote want = refused_want (IsFirstFaultRead a b) refusal want

pub fails : (r : Result (Unit {0}) Refusal) (progress : Progress) (a b w v u : Option (List ℕ)) → IsDone progress a b w v
    → (IsErrOf r OutOfMemory → Keeps v u) → (IsErrOf r Io → AppendsFront v u (base_text progress.checker.base)) → IfErr r IsWant → OnErr r (StopsEarly a b w u)
fails (Ok it) progress a b w v u done memory io want = tt
fails (Err refusal) progress a b w v u done memory io want =
    let k = accepted progress a b w v done in
    let base = progress.checker.base in
    let text = order_text k.1 base in
    let check : IsLongCheckOf a b k.0 text = (k.2, (k.1, base, k.3, refl)) in
    elim want [
      | inl out ↦ inr (k.0, text, check, (serial_lines k.1, base_text base, refl, Appends-kept w v u (serial_lines k.1) k.4 (memory (ap Err out))))
      | inr failed ↦
          let front = io (ap Err failed) in
          inr (k.0, text, check, (serial_lines k.1 ++ front.0, front.1, ap (λ t. serial_lines k.1 ++ t) front.2 ∙ sym (append_assoc (serial_lines k.1) front.0 front.1), Appends-trans w v u (serial_lines k.1) front.0 k.4 front.3))
    ]

pub text_of : (r : Result (Unit {0}) Refusal) (a b w u : Option (List ℕ)) → IsAnswer r a b w u → OnOk r ((input : List ℕ) × (text : List ℕ) × IsLongCheckOf a b input text × Appends w u text)
text_of (Ok it) a b w u (input, txs, base, gives, is, wrote) = (input, order_text txs base, (gives, (txs, base, is, refl)), wrote)
text_of (Err refusal) a b w u answer = tt

-- the fault is the first one of an input that is known
fault_known : (a b : Option (List ℕ)) (input : List ℕ) (line : ℕ) (fault : TraceCause) → a ≡ Some input → IsFirstFaultRead a b line fault → IsFirstFault input line fault
fault_known None b input line fault had h = absurd (cc had)
fault_known (Some xs) None input line fault had h = absurd h.1
fault_known (Some xs) (Some left) input line fault had h =
    let same : xs ≡ input = cc had in
    subst (λ text. IsFirstFault text line fault) (sym h.1 ∙ same) h.3

-- what is answered of an input that is known
pub answers_known : (r : Result (Unit {0}) Refusal) (a b w u : Option (List ℕ)) (input : List ℕ) → IsAnswer r a b w u → a ≡ Some input → Answers (λ _ txs base. Appends w u (order_text txs base)) r input
answers_known (Ok it) a b w u input (read, txs, base, gives, is, wrote) had =
    (txs, base, subst (λ text. IsAcceptedTrace text txs base) (all_given a b input read had gives.0 gives.1) is, wrote)
answers_known (Err refusal) a b w u input answer had = refused_too _ _ refusal (λ line fault. fault_known a b input line fault had) answer

pub refused_for : (r : Result (Unit {0}) Refusal) (a b w u : Option (List ℕ)) → IsAnswer r a b w u → IfErr r (λ refusal. IsWant refusal ⊎ IsTraceFault refusal)
refused_for (Ok it) a b w u answer = tt
refused_for (Err refusal) a b w u answer = want_or_fault (IsFirstFaultRead a b) refusal answer
