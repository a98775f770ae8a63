-- An operation on one record whose reply is not known has a next step
use Rattle.std.proofs.Common.{◌≡◌, None, sym, ◌∙◌}
use Rattle.std.proofs.lemmas.Option.{none-some}
use Rattle.mlt_tx_operation.proofs.Names.{View, IsUnderWay, WalkContext, Phase, FitsPhase, WalkingFields}

pub under_way : (p : Phase) (context : WalkContext) (o : WalkingFields) (view : View) → FitsPhase p context o view → o.reply ≡ None → IsUnderWay p
under_way (Phase.AtBucket bucket depth found) context o view fits none = none-some fits.0 (sym none ∙ fits.1)
under_way (Phase.Full next) context o view fits none = fits
under_way (Phase.Changed bucket done) context o view fits none = none-some fits.reply (sym none ∙ fits.told)
under_way other context o view fits none = tt
