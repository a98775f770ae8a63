use Rattle.std.proofs.Common.{sym}
use Rattle.mlt_hash_access.proofs.Names.{local}
use Rattle.mlt_hash_access.proofs.Results.{read_in_view}
use Rattle.mlt_hash_access.proofs.pages.read_held.Goals as goal

pub returns-clause-reads : goal.returns-clause-reads
returns-clause-reads c = read_in_view (local c.args.subtx.now c.args.pages.now) c.args.number c.in-Some.page.now c.requires.may c.requires.held (sym c.in-Some.ensures)
