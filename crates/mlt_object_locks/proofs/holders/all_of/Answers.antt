use Rattle.std.proofs.Common.{subst, sym, take_all}
use Rattle.mlt_object_locks.specs.Holders.{Covers}
use Rattle.mlt_object_locks.proofs.Covering.{covers_front}
use Rattle.mlt_object_locks.proofs.holders.all_of.Goals as goal

pub loop-holder-preserved : goal.loop-holder-preserved
loop-holder-preserved c =
    covers_front c.args.holders.now c.loop-holder.holder-index c.holder-item.result c.loop-holder.all _ c.loop-holder-test.true (sym c.holder-item.is) c.joined-all.ensures c.loop-holder.invariant

pub returns : goal.returns
returns c = subst (Covers c.loop-holder.all) (take_all c.loop-holder.holder-index c.args.holders.now c.loop-holder-test.false) c.loop-holder.invariant
