use Rattle.std.proofs.Common.{rules, not}
use Rattle.arrayvec.proofs.ArrayVecLemmas.{filter-from_retain}
use Rattle.mlt_work_waits.specs.Waits.{is_for}
use Rattle.mlt_work_waits.proofs.waits.release_in.Goals as goal

pub returns-clause-releases : goal.returns-clause-releases
returns-clause-releases c =
    filter-from_retain _ (λ wait. not (is_for c.args.whose wait)) _ (λ x b f' y called. search rules) _ _ c.retain.ensures.filtered
