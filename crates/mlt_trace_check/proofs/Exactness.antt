-- That an answer which is right is the only one.
use Rattle.std.proofs.Common.{◌≡◌, ◌⊎◌, ℕ, List, ◌++◌, Ok, Err, Result, Option, Some, None, sym, ap, subst, ◌∙◌, inl, inr, IfErr, IfOk, IsErrAnd, MatchResult}
use Rattle.std.specs.Io.KnownBytes.{Consumes, IsAtEnd}
use Rattle.mlt_trace_check.proofs.Names.{Refusal, TraceFault, TraceCause, IsWant, Base, lines, committed_txs, Answers, IsAcceptedTrace, IsFirstFault}
use Rattle.mlt_trace_check.{specs.declared.trace_check.Order.Order, specs.Answering.IsOrderOf, specs.Refusing.IsRefusalBy, proofs.Deciding.accepted_no_fault, proofs.Faults.one_first_fault, proofs.Fronts.one_trace, proofs.Growing.append_nil, proofs.Refusals.want_or_fault}
use Rattle.mlt_text.specs.{Failures.IsTraceFault, Inputs.GivesWhole}

pub accepted_once : (text txs others : List ℕ) (base other : Base) → IsAcceptedTrace text txs base → IsAcceptedTrace text others other → (txs ≡ others) × (base ≡ other)
accepted_once text txs others base other one two =
    let same = one_trace (lines text) one.0 two.0 base other one.1 two.1 in
    (one.2 ∙ ap committed_txs same.0 ∙ sym two.2, same.1)

pub accepted_or_faulty : (text txs : List ℕ) (base : Base) (line : ℕ) (fault : TraceCause) → IsAcceptedTrace text txs base → IsFirstFault text line fault → ⊥
accepted_or_faulty text txs base line fault one h = accepted_no_fault (lines text) one.0 base line fault one.1 h

-- a reader that is at its end has given all that it had
pub all_given : (old new : Option (List ℕ)) (input read : List ℕ) → old ≡ Some input → Consumes old new read → IsAtEnd new → read ≡ input
all_given None new input read had took done = absurd (cc had)
all_given (Some xs) None input read had took done = absurd took
all_given (Some xs) (Some ys) input read had took done =
    let same : xs ≡ input = cc had in
    sym (took ∙ ap (λ rest. read ++ rest) done ∙ append_nil read) ∙ same

-- ---- what is answered of a text is the only answer

pub only_accepted : {V : Type 0} (IsOf : V → List ℕ → Base → Type 0) (r : Result V Refusal) (text txs : List ℕ) (base : Base) → Answers IsOf r text → IsAcceptedTrace text txs base
    → MatchResult r (λ value. IsOf value txs base) IsWant
only_accepted IsOf (Ok value) text txs base (others, other, is, of) one =
    let same = accepted_once text others txs other base is one in
    subst (IsOf value txs) same.1 (subst (λ ts. IsOf value ts other) same.0 of)
only_accepted IsOf (Err refusal) text txs base h one = elim (want_or_fault (IsFirstFault text) refusal h) [
  | inl want ↦ want
  | inr f ↦ absurd (accepted_or_faulty text txs base f.0 f.1 one (subst (IsRefusalBy (IsFirstFault text)) f.2 h))
]

pub only_faulty : {V : Type 0} (IsOf : V → List ℕ → Base → Type 0) (r : Result V Refusal) (text : List ℕ) (line : ℕ) (fault : TraceCause) → Answers IsOf r text → IsFirstFault text line fault
    → IsErrAnd r (λ refusal. (refusal ≡ TraceFault line fault) ⊎ IsWant refusal)
only_faulty IsOf (Ok value) text line fault (others, other, is, of) one = absurd (accepted_or_faulty text others other line fault is one)
only_faulty IsOf (Err refusal) text line fault h one = elim (want_or_fault (IsFirstFault text) refusal h) [
  | inl want ↦ inr want
  | inr f ↦
      let same = one_first_fault (lines text) f.0 line f.1 fault (subst (IsRefusalBy (IsFirstFault text)) f.2 h) one in
      inl (f.2 ∙ (λ i. TraceFault (same.0 i) (same.1 i)))
]

pub refused_for : {V : Type 0} (IsOf : V → List ℕ → Base → Type 0) (r : Result V Refusal) (text : List ℕ) → Answers IsOf r text → IfErr r (λ refusal. IsWant refusal ⊎ IsTraceFault refusal)
refused_for IsOf (Ok value) text h = tt
refused_for IsOf (Err refusal) text h = want_or_fault (IsFirstFault text) refusal h

-- the order that is answered is that of the input
pub accepted_of : (r : Result Order Refusal) (before after : Option (List ℕ)) (input : List ℕ) → GivesWhole before after input → Answers IsOrderOf r input
    → IfOk r (λ order. (input : List ℕ) × GivesWhole before after input × IsAcceptedTrace input order.txs.items order.base)
accepted_of (Ok order) before after input whole (txs, base, is, same) =
    (input, whole, subst (IsAcceptedTrace input order.txs.items) (sym same.1) (subst (λ ts. IsAcceptedTrace input ts base) (sym same.0) is))
accepted_of (Err refusal) before after input whole h = tt
