-- The line that tells of a fault, and the status that the program ends with.
use Rattle.std.specs.Prelude.{ℕ, List, [], ◌∷◌, ◌++◌, codes, Result, Ok, Err, decimal}
use Rattle.mlt_types.specs.{declared.refusal.Refusal.Refusal, declared.refusal.Refusal.TheVariants.ScriptFault, declared.refusal.Refusal.TheVariants.TraceFault, Refusals.number_of, Refusals.name_of, Refusals.script_cause_name, Refusals.trace_cause_name}

-- the line of the input, and what is wrong with it
abbrev pub place_text : Refusal → List ℕ
place_text (ScriptFault line cause) = codes " line " ++ decimal line ++ 32 ∷ script_cause_name cause
place_text (TraceFault line cause) = codes " line " ++ decimal line ++ 32 ∷ trace_cause_name cause
place_text _ = []

-- the line that tells of a fault: the number and the name of the refusal, and of a faulty input
-- where and why
abbrev pub fault_text : Refusal → List ℕ
fault_text refusal =
    codes "mltx: " ++ decimal (number_of refusal) ++ 32 ∷ name_of refusal ++ place_text refusal ++ 10 ∷ []

-- 0 where all was done, and 1 at a fault
abbrev pub status_of : Result Unit Refusal → ℕ
status_of (Ok done) = 0
status_of (Err refusal) = 1
