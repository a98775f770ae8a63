use Rattle.mlt_serve.proofs.Loading.{reordered}
use Rattle.mlt_serve.proofs.serving.serve_on.Goals as goal

pub returns-in-Ok-clause-loaded : goal.returns-in-Ok-clause-loaded
returns-in-Ok-clause-loaded g c = reordered _ _ _ c.in-Ok.ensures.same (c.in_ok-ran.ensures.loaded c.in-Ok.ensures.whole)
