-- The text of scripts that were run side by side.
use Rattle.std.proofs.Common.{◌≡◌, ◌∙◌, ◌++◌, ℕ, List, ap, map, refl, subst}
use Rattle.std.{proofs.lemmas.List.map-append, specs.Global.Vec}
use Rattle.mlt_script.specs.{Grammar.Spells, declared.script.Script.Script, Clients.parts_of, Scripts.ScriptForm}
use Rattle.mlt_work.specs.{Places.scripts_of_clients, RunTexts.IsRunText, Runs.HasRunAll, declared.running.RunOptions.RunOptions}
use Rattle.mlt_script_serial.specs.{declared.report.ReportForm.TheVariants.Run, declared.report.Report.Report, Texts.report_text}
use Rattle.mlt_manager.specs.Managers.{ManagerFields}

-- the report of the scripts that were read, parted by client, is that of the input
pub run_text : {P : Type 0} (bits_of : P → ℕ → ℕ) (options : RunOptions) (pseudo : P) (seen input : List ℕ)
    (slice parts loaded : List (Vec Script)) (scripts : List ScriptForm) (report : Report) (manager : ManagerFields P) → seen ≡ input
    → slice ≡ loaded ++ parts → Spells seen scripts → map (λ part. part.items) parts ≡ parts_of scripts
    → HasRunAll bits_of (scripts_of_clients slice) options pseudo report manager
    → IsRunText bits_of options pseudo (scripts_of_clients loaded) input (report_text Run report.outcomes report.base) manager
run_text bits_of options pseudo seen input slice parts loaded scripts report manager same sliced spells parted ran = record {
  scripts = scripts;
  spells = subst (λ (bytes : List ℕ). Spells bytes scripts) same spells;
  report = report;
  ran = subst (λ (clients : List (List ScriptForm)). HasRunAll bits_of clients options pseudo report manager)
      (ap (map (λ (part : Vec Script). part.items)) sliced ∙ map-append (λ (part : Vec Script). part.items) loaded parts ∙ ap (λ (lists : List (List ScriptForm)). scripts_of_clients loaded ++ lists) parted) ran;
  is = refl;
}
