-- What is left of the bytes where a text is made of a whole input and then written, and something fails.
use Rattle.std.specs.Prelude.{◌≡◌, ◌≢◌, ◌⊎◌, ◌≤◌, ◌<◌, ℕ, List, length, Option, Err, IfSome, IsErrAnd}
use Rattle.std.specs.{Io.KnownBytes.Consumes, Io.KnownBytes.Keeps, declared.result.Result.Result}
use Rattle.mlt_types.specs.declared.refusal.{Refusal.Refusal, Refusal.TheVariants.Io, Refusal.TheVariants.OutOfMemory, Refusal.TheVariants.ScriptFault, Refusal.TheVariants.TraceFault, ScriptCause.ScriptCause, TraceCause.TraceCause}
use Rattle.mlt_text.specs.{Inputs.GivesWhole, Texts.AppendsFront}

-- the refusal says nothing of the input: memory ran out, or a read or a write failed
abbrev pub IsWant : Refusal → Type 0
IsWant refusal = (refusal ≡ OutOfMemory) ⊎ (refusal ≡ Io)

-- the refusal names a fault of a text of scripts or of events
abbrev pub IsScriptFault : Refusal → Type 0
IsScriptFault refusal = (line : ℕ) × (cause : ScriptCause) × (refusal ≡ ScriptFault line cause)

-- the refusal names a fault of a trace
abbrev pub IsTraceFault : Refusal → Type 0
IsTraceFault refusal = (line : ℕ) × (cause : TraceCause) × (refusal ≡ TraceFault line cause)

-- an input that is too long is refused
abbrev pub RefusesLong : {V : Type 0} → Option (List ℕ) → Result V Refusal → Type 0
RefusesLong before result = IfSome before (λ input. 16777216 < length input → IsErrAnd result IsWant)

-- never is more read than one byte past the limit
abbrev pub ReadsWithinLimit : Option (List ℕ) → Option (List ℕ) → Type 0
ReadsWithinLimit before after = (taken : List ℕ) × Consumes before after taken × (length taken ≤ 16777217)

-- What is true of the bytes that were read and written, where a call that makes a text of a whole
-- input is refused.
pub record FailsCleanly {V : Type 0} (before after old new : Option (List ℕ)) (result : Result V Refusal)
    (IsTextOf : List ℕ → List ℕ → V → Type 0) : Type 0 where
  -- an input that is too long is refused, and not read on
  pub long : RefusesLong before result
  pub bounded : ReadsWithinLimit before after
  -- after a failed read nothing was written, and after a failed write a prefix of the text
  pub io : result ≡ Err Io → Keeps old new
      ⊎ ((input text : List ℕ) × (value : V) × GivesWhole before after input × IsTextOf input text value
      × AppendsFront old new text)
  -- after any other failure nothing was written, nor of an input that is too long
  pub unwritten : (refusal : Refusal) → result ≡ Err refusal → refusal ≢ Io → Keeps old new
  pub long_unwritten : IfSome before (λ input. 16777216 < length input → Keeps old new)
