-- What the steps of `check_trace` give together.
use Rattle.std.proofs.Common.{◌≡◌, ◌∙◌, ℕ, List, Option, Result, Ok, Err, OnOk, OnErr, ap₂, inr, subst, sym, IfErr, MatchResult}
use Rattle.std.specs.Io.KnownBytes.{Appends}
use Rattle.mlt_trace_check.proofs.Names.{Refusal, OutOfMemory, IsWant, Base, IsAcceptedTrace, order_text}
use Rattle.mlt_types.specs.declared.refusal.Refusal.TheVariants.{Io}
use Rattle.mlt_text.{specs.Failures.FailsCleanly, specs.Inputs.GivesWhole, specs.Texts.AppendsFront, proofs.Failing.finished, proofs.Failing.unfinished}
use Rattle.mlt_trace_check.specs.OrderTexts.{IsCheckOf, IsCheckText}

-- the reader gave a trace, of which this is said
abbrev pub IsSaid : Option (List ℕ) → Option (List ℕ) → List ℕ → Type 0
IsSaid before after text = (input : List ℕ) × IsCheckOf before after input text

pub is_said : (before after : Option (List ℕ)) (txs : List ℕ) (base : Base) (text : List ℕ)
    → ((input : List ℕ) × GivesWhole before after input × IsAcceptedTrace input txs base) → text ≡ order_text txs base → IsSaid before after text
is_said before after txs base text (input, whole, accepted) is = (input, (whole, (txs, base, accepted, is)))

module _ (before after old new : Option (List ℕ)) (text : List ℕ) where
  pub all_written : (r : Result (Unit {0}) Refusal) → IsSaid before after text → OnOk r (Appends old new text)
      → OnOk r ((input : List ℕ) × (whole : List ℕ) × IsCheckOf before after input whole × Appends old new whole)
  all_written (Ok done) (input, check) appends = (input, text, check, appends)
  all_written (Err refusal) said appends = tt

  pub fails_cleanly : (r : Result (Unit {0}) Refusal) → IsSaid before after text → OnErr r (AppendsFront old new text) → IfErr r (λ refusal. refusal ≡ Io)
      → FailsCleanly before after old new r (λ input text _. IsCheckText input text)
  fails_cleanly (Ok done) (input, check) front io = finished _ _ _ _ _ done input check.0
  fails_cleanly (Err refusal) (input, check) front io =
      unfinished _ _ _ _ _ refusal input text tt check.0 check.1 (inr io) (λ memory. let both : Io ≡ OutOfMemory = sym io ∙ memory in absurd (cc)) (λ same. front)

module _ (old new : Option (List ℕ)) (text : List ℕ) where
  -- of the order and the base nothing else is written
  pub only_written : (r : Result (Unit {0}) Refusal) (found txs : List ℕ) (reached base : Base) → text ≡ order_text found reached → (found ≡ txs) × (reached ≡ base)
      → OnOk r (Appends old new text) → IfErr r (λ refusal. refusal ≡ Io) → MatchResult r (λ _. Appends old new (order_text txs base)) IsWant
  only_written (Ok done) found txs reached base is same appends failed = subst (Appends old new) (is ∙ ap₂ order_text same.0 same.1) appends
  only_written (Err refusal) found txs reached base is same appends failed = inr failed
