use Rattle.mlt_trace_audit.proofs.any.numbers_agree.Goals as goal

pub returns-then-are_begun : goal.returns-then-are_begun
returns-then-are_begun c = (
  λ yes. record { once = c.are_once.ensures.0 yes; begun = c.are_begun.ensures.0 c.if-are_begun.true },
  λ numbers. c.are_once.ensures.1 numbers.once,
)
