use Rattle.mlt_hash_split.specs.Rests.{target_by}
use Rattle.mlt_hash.proofs.adding.add_or_split.Given as goal

abbrev pub ghost-begin : goal.ghost-begin
ghost-begin g a = target_by g.P.Pseudo.bits_of a.environment.now a.key a.subtx.now.tx g.given.1 g.given.0.before.written g.given.0.before.buckets
