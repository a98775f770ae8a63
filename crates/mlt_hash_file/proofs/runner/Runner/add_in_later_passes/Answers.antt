use Rattle.mlt_hash_file.proofs.Names.{nothing_before}
use Rattle.mlt_hash_file.proofs.AloneWalks.{file_kept}
use Rattle.mlt_hash_file.proofs.runner.Runner.add_in_later_passes.Goals as goal

pub add_with_splits-requires-in-Widen-clause-file : goal.add_with_splits-requires-in-Widen-clause-file
add_with_splits-requires-in-Widen-clause-file g c = file_kept nothing_before g.P.Pseudo.bits_of c.args.root.now c.args.self.now c.add_with_splits.new.self c.in-Widen.ensures.keeps c.requires.file
