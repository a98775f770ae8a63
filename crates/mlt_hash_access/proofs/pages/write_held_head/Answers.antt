use Rattle.std.proofs.Common.{refl}
use Rattle.mlt_hash_access.proofs.Names.{local}
use Rattle.mlt_hash_access.proofs.Leaving.{leaves_it}
use Rattle.mlt_hash_access.proofs.pages.write_held_head.Goals as goal

pub returns-in_err-page-clause-leaves : goal.returns-in_err-page-clause-leaves
returns-in_err-page-clause-leaves c = leaves_it (local c.args.subtx.now c.args.pages.now) _ c.requires.may refl
