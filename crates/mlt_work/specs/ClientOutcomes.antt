-- Which outcomes a client's scripts may have.
use Rattle.std.specs.Prelude.{List}
use Rattle.mlt_script.specs.Scripts.{ScriptForm}
use Rattle.mlt_script_serial.specs.declared.outcome.Outcome.{Outcome}

-- the relation of a client's scripts to the outcomes that they may have
abbrev pub OutcomeRelation : Type 1
OutcomeRelation = List ScriptForm → List Outcome → Type 0
