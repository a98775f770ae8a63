-- How far a check of a long trace has gone, and what it answers.
use Rattle.std.specs.Prelude.{◌≡◌, ℕ, List, [], Result, Ok, Err}
use Rattle.std.specs.Io.KnownBytes.{Appends, Consumes, IsAtEnd}
use Rattle.mlt_types.specs.declared.refusal.Refusal.{Refusal}
use Rattle.mlt_object_kinds.specs.Bases.{Base}
use Rattle.mlt_trace_check.specs.{OrderTexts.order_text, OrderTexts.serial_lines, Refusing.IsRefusalBy, Traces.IsAcceptedTrace, declared.progress.Progress.Progress, Progresses.WentOver, LongTexts.GivesAll, LongTexts.IsFirstFaultRead, LongTexts.KnownBytes}

-- What was read are the lines that were gone over, and behind them the bytes that are held; and the `serial` lines of the
-- commits that were told were written.
pub record GoesOn (progress : Progress) (before after old new : KnownBytes) (held : List ℕ) : Type 0 where
  pub taken : List ℕ
  pub told : List ℕ
  pub consumed : Consumes before after taken
  pub over : WentOver progress told taken held
  pub wrote : Appends old new (serial_lines told)

-- all of the input was gone over, and all commits were told
abbrev pub IsDone : Progress → KnownBytes → KnownBytes → KnownBytes → KnownBytes → Type 0
IsDone progress before after old new = GoesOn progress before after old new [] × IsAtEnd after × (progress.txs.items ≡ [])

-- a fault is the first one
abbrev pub IsToldOf : Refusal → KnownBytes → KnownBytes → Type 0
IsToldOf refusal before after = IsRefusalBy (IsFirstFaultRead before after) refusal

-- all of the input is a trace, and what is said of it was written; or it was refused
abbrev pub IsAnswer : Result (Unit {0}) Refusal → KnownBytes → KnownBytes → KnownBytes → KnownBytes
    → Type 0
IsAnswer (Ok done) before after old new =
    (input : List ℕ) × (txs : List ℕ) × (base : Base)
    × GivesAll before after input × IsAcceptedTrace input txs base
    × Appends old new (order_text txs base)
IsAnswer (Err refusal) before after old new = IsToldOf refusal before after
