-- What `solo` writes for an input, and the manager that it answers
use Rattle.std.specs.Prelude.{◌≡◌, ◌++◌, ℕ, List, [], Option}
use Rattle.mlt_types.specs.declared.{limits.Limits.Limits, refusal.Refusal.Refusal}
use Rattle.mlt_object_kinds.specs.Bases.{Base}
use Rattle.mlt_script.specs.{Grammar.Spells, Scripts.ScriptForm}
use Rattle.mlt_script_serial.specs.{declared.outcome.Outcome.Outcome, declared.report.ReportForm.TheVariants.Solo, Serial.AreNumbered, Serial.IsSerialRun, Texts.report_text}
use Rattle.mlt_manager.specs.{Bases.HasBase, Managers.ManagerFields, Openings.IsNew}
use Rattle.mlt_manager_solo.specs.{Asking.CanBeMarks, Events.AreEventsOfAll, Events.Exchange, Events.IsRunOf}

-- From a new manager with these limits and this function to pseudokeys, the scripts' whole operations are a run, in which
-- they are told what the outcomes say; and its history leads to this base.
pub record IsRunByManager {P : Type 0} (bits_of : P → ℕ → ℕ) (limits : Limits) (pseudo : P)
    (scripts : List ScriptForm) (outcomes : List Outcome) (base : Base) (new : ManagerFields P)
    : Type 0 where
  pub opening : ManagerFields P
  pub is_new : IsNew opening limits pseudo
  pub exchanges : List Exchange
  pub told : AreEventsOfAll scripts outcomes exchanges
  pub run : IsRunOf bits_of opening exchanges new
  pub leads : HasBase new base

-- The input spells scripts. The first scripts and then these ran one after another from the empty base, just the marked ones were
-- refused, at their marks; and a manager told them so. The text is that of their outcomes.
pub record IsSoloText {P : Type 0} (bits_of : P → ℕ → ℕ) (limits : Limits) (pseudo : P)
    (first : List ScriptForm) (input text : List ℕ) (new : ManagerFields P) : Type 0 where
  pub read : List ScriptForm
  pub marks : List (Option (ℕ × Refusal))
  pub outcomes : List Outcome
  pub base : Base
  pub spells : Spells input read
  pub serial : IsSerialRun (first ++ read) marks outcomes base
  pub can : CanBeMarks marks
  pub numbered : AreNumbered [] (first ++ read) outcomes
  pub manager : IsRunByManager bits_of limits pseudo (first ++ read) outcomes base new
  pub is : text ≡ report_text Solo outcomes base
