use Rattle.mlt_manager_invariant.proofs.Replied.{reply_is_step}
use Rattle.mlt_manager_invariant.proofs.laws.reply_of_a_pending_operation.Goals as goal

pub returns : goal.returns
returns c = λ s i o before op reply. reply_is_step s i o before op reply
