use Rattle.std.proofs.Common.{false, Some}
use Rattle.mlt_serve.proofs.Names.{id_of, making_by}
use Rattle.mlt_work_desk.specs.declared.tries.Tries.TheVariants.{PerOperation}
use Rattle.mlt_serve.proofs.serving.serve_on.Given as goal

abbrev pub ghosts-serve_with-L-Ledger : goal.ghosts-serve_with-L-Ledger
ghosts-serve_with-L-Ledger g a = record { name = a.records.blank.name; parts = a.records.blank.parts }

abbrev pub ghosts-serve_with-L-MadeWith : goal.ghosts-serve_with-L-MadeWith
ghosts-serve_with-L-MadeWith g a = record { made_with = Some (making_by a.options.now.limits a.pseudo); hands_out = false; log_id = id_of a.records.log; tries = PerOperation a.options.now.tries }
