use Rattle.std.proofs.Common.{sym}
use Rattle.mlt_hash_file.proofs.AloneEnds.{at_rest_then, put_back_keeps}
use Rattle.mlt_hash_file.proofs.runner.Runner.roll_back.Goals as goal

pub invariant_of-self : goal.invariant_of-self
invariant_of-self c = ((at_rest_then _ _ _ c.roll_back.new.store c.self.invariant.0 c.roll_back.ensures.images c.roll_back.ensures.locks).0, c.self.invariant.1)

pub returns-clause-keeps : goal.returns-clause-keeps
returns-clause-keeps c = rw (sym c.self.view_is) (put_back_keeps _ _ c.self.invariant.0 c.roll_back.ensures.images c.roll_back.ensures.locks c.roll_back.ensures.store)

pub returns-clause-idle : goal.returns-clause-idle
returns-clause-idle c = (at_rest_then _ _ _ c.roll_back.new.store c.self.invariant.0 c.roll_back.ensures.images c.roll_back.ensures.locks).1
