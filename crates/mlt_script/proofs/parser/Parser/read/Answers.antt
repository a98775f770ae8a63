use Rattle.std.proofs.Common.{subst}
use Rattle.mlt_script.proofs.Names.{IsReading}
use Rattle.mlt_script.proofs.parser.Parser.read.Goals as goal

pub step-requires : goal.step-requires
step-requires c = subst IsReading c.in-Form.is c.requires
