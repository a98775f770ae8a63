-- What is written for an input whose scripts were run side by side.
use Rattle.std.specs.Prelude.{◌≡◌, ◌++◌, ℕ, List, Option}
use Rattle.mlt_text.specs.Inputs.{GivesWhole}
use Rattle.mlt_script.specs.{Grammar.Spells, Clients.parts_of, Scripts.ScriptForm}
use Rattle.mlt_script_serial.specs.{declared.report.ReportForm.TheVariants.Run, declared.report.Report.Report, Texts.report_text}
use Rattle.mlt_manager.specs.Managers.{ManagerFields}
use Rattle.mlt_work.specs.{Runs.HasRunAll, declared.running.RunOptions.RunOptions}

-- The input spells scripts. Those of each client, behind those of the loaded clients, were run with these options on this
-- manager, made with this function from keys to pseudokeys, and the text is that of the report.
pub record IsRunText {P : Type 0} (bits_of : P → ℕ → ℕ) (options : RunOptions) (pseudo : P)
    (loaded : List (List ScriptForm)) (input text : List ℕ) (manager : ManagerFields P) : Type 0 where
  pub scripts : List ScriptForm
  pub spells : Spells input scripts
  pub report : Report
  pub ran : HasRunAll bits_of (loaded ++ parts_of scripts) options pseudo report manager
  pub is : text ≡ report_text Run report.outcomes report.base

-- a reader gave the input whole, and the text is that of its scripts
abbrev pub IsRunOf : {P : Type 0} → (P → ℕ → ℕ) → RunOptions → P → List (List ScriptForm) → Option (List ℕ)
    → Option (List ℕ) → List ℕ → List ℕ → ManagerFields P → Type 0
IsRunOf bits_of options pseudo loaded before after input text manager =
    GivesWhole before after input × IsRunText bits_of options pseudo loaded input text manager
