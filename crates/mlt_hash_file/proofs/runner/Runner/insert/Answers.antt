use Rattle.mlt_hash_file.proofs.Names.{nothing_before}
use Rattle.mlt_hash_file.proofs.AloneWalks.{file_kept}
use Rattle.mlt_hash_file.proofs.runner.Runner.insert.Goals as goal

pub add_in_later_passes-requires-clause-file : goal.add_in_later_passes-requires-clause-file
add_in_later_passes-requires-clause-file g c = file_kept nothing_before g.P.Pseudo.bits_of c.args.root.now c.args.self.now c.add.new.self c.in-NeedSplit.ensures.keeps c.requires.file
