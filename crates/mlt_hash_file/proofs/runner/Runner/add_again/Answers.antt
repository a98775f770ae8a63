use Rattle.mlt_hash_file.proofs.Names.{nothing_before, context_alone}
use Rattle.mlt_hash_file.proofs.{AloneEnds.idle_starts, AlonePasses.retell, AloneWalks.file_kept}
use Rattle.mlt_hash_file.proofs.runner.Runner.add_again.Goals as goal

pub add-requires-clause-nothing : goal.add-requires-clause-nothing
add-requires-clause-nothing g c = idle_starts c.roll_back.new.self c.roll_back.ensures.idle

pub add-requires-clause-file : goal.add-requires-clause-file
add-requires-clause-file g c = file_kept nothing_before g.P.Pseudo.bits_of c.args.root.now c.args.self.now c.roll_back.new.self c.roll_back.ensures.keeps c.requires.file

pub returns-clause-tells : goal.returns-clause-tells
returns-clause-tells g c =
    retell (context_alone nothing_before g.P.Pseudo.bits_of c.args.root.now c.args.self.now) c.add.new.self _ c.again.new.self c.add.new.walk c.args.value c.add.result (record { key = λ i. (c.again.ensures i).key; mode = λ i. (c.again.ensures i).mode; pass = λ i. (c.again.ensures i).pass })
    (rw c.roll_back.ensures.keeps.tx at c.add.ensures.tells)
