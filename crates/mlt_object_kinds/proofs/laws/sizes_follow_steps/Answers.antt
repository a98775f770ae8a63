use Rattle.mlt_object_kinds.proofs.Sizes.{size_after_step, size_below, size_of_empty}
use Rattle.mlt_object_kinds.proofs.laws.sizes_follow_steps.Goals as goal

pub returns : goal.returns
returns c = record { none = size_of_empty; step = size_after_step; most = λ b set most. size_below most b set }
