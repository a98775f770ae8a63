use Rattle.std.proofs.Common.{arith}
use Rattle.mlt_trace.proofs.BegunLaws.{begun_between, between_begun}
use Rattle.mlt_trace.proofs.laws.begun_numbers_are_those_up_to_the_count.Goals as goal

pub returns : goal.returns
returns c = λ items tx counts. (
  λ h. let between = begun_between items 1 tx counts h in (between.0, omega (arith, between.1)),
  λ within. between_begun items 1 tx counts (within.0, omega (arith, within.1)),
)
