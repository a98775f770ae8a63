use Rattle.std.proofs.Common.{false, Some}
use Rattle.mlt_work_desk.specs.{LogHandles.id_of, Makings.making_by, declared.tries.Tries.TheVariants.PerOperation}
use Rattle.mlt_serve_tests.proofs.sessions.said.Given as goal

abbrev pub ghosts-said_over-L-Ledger : goal.ghosts-said_over-L-Ledger
ghosts-said_over-L-Ledger g a = record { name = a.records.blank.name; parts = a.records.blank.parts }

abbrev pub ghosts-said_over-L-MadeWith : goal.ghosts-said_over-L-MadeWith
ghosts-said_over-L-MadeWith g a = record {
  made_with = Some (making_by a.limits a.pseudo);
  hands_out = false;
  log_id = id_of a.records.log;
  tries = PerOperation 3;
}
