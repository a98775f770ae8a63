use Rattle.mlt_hash_file.proofs.AloneEnds.{at_rest_then}
use Rattle.mlt_hash_file.proofs.runner.Runner.end.Goals as goal

pub invariant_of-self : goal.invariant_of-self
invariant_of-self c = ((at_rest_then _ _ _ c.self.inside.pages.store c.self.invariant.0 c.end.ensures.images c.end.ensures.locks).0, c.self.invariant.1)

pub returns-clause-idle : goal.returns-clause-idle
returns-clause-idle c = (at_rest_then _ _ _ c.self.inside.pages.store c.self.invariant.0 c.end.ensures.images c.end.ensures.locks).1
