use Rattle.mlt_hash.proofs.Stood.{keeps_no_more_written, still_stood}
use Rattle.mlt_hash.proofs.walk_laws.closed_owners_keep_what_was_written.Goals as goal

pub returns-clause-stood : goal.returns-clause-stood
returns-clause-stood c = λ written tx old new stood more. still_stood written tx old new stood more

pub returns-clause-no_more : goal.returns-clause-no_more
returns-clause-no_more c = λ written tx active fewer view stood is_open no_more. keeps_no_more_written written tx active fewer view stood is_open no_more
