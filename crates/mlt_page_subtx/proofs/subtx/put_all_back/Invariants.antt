use Rattle.std.proofs.Common.{◌++◌, length}
use Rattle.mlt_page_subtx.proofs.Names.{images_in}
use Rattle.mlt_page_subtx.proofs.Lists.{PutBackSoFar}
use Rattle.mlt_page_subtx.proofs.subtx.put_all_back.Given as goal

abbrev pub invariant-loop-entry : goal.invariant-loop-entry
invariant-loop-entry l = PutBackSoFar (l.near ++ images_in l.far.entries) l.store (l.initial.near ++ images_in l.initial.far.entries) l.initial.store

abbrev pub decreases-loop-entry : goal.decreases-loop-entry
decreases-loop-entry l = length l.far.entries

abbrev pub invariant-loop-image : goal.invariant-loop-image
invariant-loop-image l = PutBackSoFar l.near l.store l.initial.near l.initial.store

abbrev pub decreases-loop-image : goal.decreases-loop-image
decreases-loop-image l = length l.near
