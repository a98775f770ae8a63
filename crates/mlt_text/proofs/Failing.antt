-- What fails cleanly: before the input is read, before anything is written, while it is written, and not at all.
use Rattle.std.proofs.Common.{◌≡◌, ◌<◌, ℕ, List, length, IfSome, Result, Ok, Err, arith, inl, inr, IsErrAnd}
use Rattle.std.{specs.declared.option.Option.Option, specs.Io.KnownBytes.Keeps, proofs.KnownBytes.Consumes-whole}
use Rattle.mlt_types.specs.declared.refusal.Refusal.{Refusal, TheVariants.Io, TheVariants.OutOfMemory}
use Rattle.mlt_text.{specs.Failures.FailsCleanly, specs.Failures.IsWant, specs.Failures.ReadsWithinLimit, specs.Inputs.GivesWhole, specs.Texts.AppendsFront, proofs.Pieces.if_some_all}

-- an input that was given whole is not too long
not_long : (before after : Option (List ℕ)) (input : List ℕ) (P : Type 0) → GivesWhole before after input
    → IfSome before (λ input. 16777216 < length input → P)
not_long before after input P gives =
    Consumes-whole before after input (λ input. 16777216 < length input → P) gives.0 gives.1 (λ long. absurd (omega (arith, gives.2)))

within_limit : (before after : Option (List ℕ)) (input : List ℕ) → GivesWhole before after input → ReadsWithinLimit before after
within_limit before after input gives = (input, gives.0, omega (arith, gives.2))

module _ {V : Type 0} (before after old new : Option (List ℕ)) (IsTextOf : List ℕ → List ℕ → V → Type 0) where
  -- the input was not given whole, and nothing was written
  pub unread : (result : Result V Refusal) → ReadsWithinLimit before after → IsErrAnd result IsWant → Keeps old new
      → FailsCleanly before after old new result IsTextOf
  unread result bounded want keeps = record {
    long = if_some_all before (λ input. 16777216 < length input → IsErrAnd result IsWant) (λ input long. want);
    bounded = bounded;
    io = λ failed. inl keeps;
    unwritten = λ refusal refused other. keeps;
    long_unwritten = if_some_all before (λ input. 16777216 < length input → Keeps old new) (λ input long. keeps);
  }

  -- the input was given whole, and nothing was written
  pub unwritten : (result : Result V Refusal) (input : List ℕ) → GivesWhole before after input → Keeps old new
      → FailsCleanly before after old new result IsTextOf
  unwritten result input gives keeps = record {
    long = not_long before after input (IsErrAnd result IsWant) gives;
    bounded = within_limit before after input gives;
    io = λ failed. inl keeps;
    unwritten = λ refusal refused other. keeps;
    long_unwritten = not_long before after input (Keeps old new) gives;
  }

  -- the text of the input was to be written, and that failed
  pub unfinished : (refusal : Refusal) (input text : List ℕ) (value : V) → GivesWhole before after input → IsTextOf input text value
      → IsWant refusal → (refusal ≡ OutOfMemory → Keeps old new) → (refusal ≡ Io → AppendsFront old new text)
      → FailsCleanly before after old new (Err refusal) IsTextOf
  unfinished refusal input text value gives is want memory io = record {
    long = not_long before after input (IsWant refusal) gives;
    bounded = within_limit before after input gives;
    io = λ failed. let same : refusal ≡ Io = cc in inr (input, text, value, gives, is, io same);
    unwritten = λ other refused not_io. elim want [
      | inl same ↦ memory same
      | inr same ↦ absurd (let e : other ≡ Io = cc in not_io e)
    ];
    long_unwritten = not_long before after input (Keeps old new) gives;
  }

  -- the input was given whole, and nothing failed
  pub finished : (value : V) (input : List ℕ) → GivesWhole before after input → FailsCleanly before after old new (Ok value) IsTextOf
  finished value input gives = record {
    long = not_long before after input (IsErrAnd (Ok value) IsWant) gives;
    bounded = within_limit before after input gives;
    io = λ failed. absurd (cc);
    unwritten = λ refusal refused other. absurd (cc);
    long_unwritten = not_long before after input (Keeps old new) gives;
  }
