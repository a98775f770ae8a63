use Rattle.mlt_hash_access.proofs.Rebased.{rebased_makes_page, rebased_reads, rebased_reads_page, rebased_writes_page, written_stays}
use Rattle.mlt_hash_access.proofs.view_laws.rebased_views_step_alike.Goals as goal

pub returns-clause-reads : goal.returns-clause-reads
returns-clause-reads c = λ before view q page written. rebased_reads before view written q page

pub returns-clause-locks : goal.returns-clause-locks
returns-clause-locks c = λ before old new q mode page written reads. rebased_reads_page before old new written q mode page reads

pub returns-clause-writes : goal.returns-clause-writes
returns-clause-writes c = λ before old new q page writes. rebased_writes_page before old new q page writes

pub returns-clause-makes : goal.returns-clause-makes
returns-clause-makes c = λ before old new q page written makes. rebased_makes_page before old new written q page makes

pub returns-clause-stays : goal.returns-clause-stays
returns-clause-stays c = written_stays
