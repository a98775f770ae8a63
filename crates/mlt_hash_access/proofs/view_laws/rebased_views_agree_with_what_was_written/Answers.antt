use Rattle.mlt_hash_access.proofs.Rebased.{agrees_below, rebased_agrees}
use Rattle.mlt_hash_access.proofs.view_laws.rebased_views_agree_with_what_was_written.Goals as goal

pub returns-clause-agrees : goal.returns-clause-agrees
returns-clause-agrees c = rebased_agrees

pub returns-clause-alone : goal.returns-clause-alone
returns-clause-alone c = agrees_below
