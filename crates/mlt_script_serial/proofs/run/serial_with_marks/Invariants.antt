use Rattle.std.proofs.Common.{◌≡◌, ◌≤◌, ◌<◌, ◌==◌, ℕ, [], map, take, count_by, get_or, length}
use Rattle.mlt_types.specs.declared.refusal.Refusal.TheVariants.{OutOfMemory}
use Rattle.mlt_object_kinds.specs.Bases.{empty_base}
use Rattle.mlt_script_serial.specs.Serial.{AreMarksOf, AreNumbered, AreRuns, AreWithoutTx, mark_of}
use Rattle.mlt_script_serial.proofs.run.serial_with_marks.Given as goal

abbrev pub invariant-loop-script : goal.invariant-loop-script
invariant-loop-script l = record {
  runs : AreRuns (take l.script-index l.scripts) empty_base 0 l.outcomes l.desk.base l.commits;
  few : l.commits ≤ l.script-index;
  marks : AreMarksOf OutOfMemory (map mark_of l.outcomes);
  numbered : AreNumbered [] (take l.script-index l.scripts) l.outcomes;
  without_tx : AreWithoutTx l.outcomes;
  long : length l.numbers ≡ 1000;
  counted : (client : ℕ) → client < 1000 → get_or l.numbers client 0 ≡ count_by (λ p. p.client == client) (take l.script-index l.scripts);
}
