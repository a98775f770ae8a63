use Rattle.std.proofs.Common.{false, Some}
use Rattle.mlt_work_desk.specs.LogHandles.{id_of}
use Rattle.mlt_work_desk.specs.{Makings.making_by, declared.tries.Tries.TheVariants.PerScript}
use Rattle.mlt_work.proofs.running.run.Given as goal

abbrev pub ghosts-run_with-L-Ledger : goal.ghosts-run_with-L-Ledger
ghosts-run_with-L-Ledger g a = record { name = a.records.blank.name; parts = a.records.blank.parts }

abbrev pub ghosts-run_with-L-MadeWith : goal.ghosts-run_with-L-MadeWith
ghosts-run_with-L-MadeWith g a = record { made_with = Some (making_by a.options.now.limits a.pseudo); hands_out = false; log_id = id_of a.records.log; tries = PerScript a.options.now.tries }
