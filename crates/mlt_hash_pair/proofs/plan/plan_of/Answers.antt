use Rattle.std.proofs.Common.{Some, subst}
use Rattle.mlt_hash_pair.proofs.Names.{FitsSlots}
use Rattle.mlt_hash_pair.proofs.Slots.{absent_place}
use Rattle.mlt_hash_pair.proofs.plan.plan_of.Goals as goal

pub revive-requires : goal.revive-requires
revive-requires c = absent_place c.args.key.now c.args.bucket.now.slots (subst (λ change. FitsSlots (Some change) c.args.key.now c.args.bucket.now.slots) c.in-Insert.is c.requires.fits)

pub insert-requires : goal.insert-requires
insert-requires c = absent_place c.args.key.now c.args.bucket.now.slots (subst (λ change. FitsSlots (Some change) c.args.key.now c.args.bucket.now.slots) c.in-Insert.is c.requires.fits)
