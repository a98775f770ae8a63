use Rattle.mlt_hash.proofs.Laws.{at_start}
use Rattle.mlt_hash.proofs.walk_laws.walk_starts_without_pages.Goals as goal

pub returns : goal.returns
returns c = λ m may none unwritten. at_start m none
