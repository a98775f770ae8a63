use Rattle.std.proofs.Common.{◌≡◌, ◌<◌, None, Some, ap, subst, sym, true, ◌∙◌}
use Rattle.mlt_hash_pair.proofs.Names.{BucketFields, can_write, LocalState, local, ReadsHeldBucket, WritesSlot, view_of, WriteFields, PairFields}
use Rattle.mlt_hash_access.specs.PageSteps.{WritesHeldSlot}
use Rattle.mlt_hash_pair.proofs.Behind.{earlier_held, earlier_holds, earlier_makes, earlier_not_third, earlier_reads, earlier_within}
use Rattle.mlt_hash_pair.proofs.pair.Pair.write_earlier.Goals as goal

pub write_slot-requires-clause-held : goal.write_slot-requires-clause-held
write_slot-requires-clause-held c =
    let m : LocalState = local c.args.subtx.now c.args.pages.now in
    let owed = sym (ap (λ (p : PairFields). p.owed) c.self.view_is) ∙ c.in-Some.is in
    subst (λ (w : WriteFields). can_write m.locks m.running.tx w.number ≡ true) (sym c.write.view_is) (earlier_held m c.args.self.now c.in-Some.write owed c.requires.ready)

pub write_slot-requires-clause-bucket : goal.write_slot-requires-clause-bucket
write_slot-requires-clause-bucket c =
    let m : LocalState = local c.args.subtx.now c.args.pages.now in
    let owed = sym (ap (λ (p : PairFields). p.owed) c.self.view_is) ∙ c.in-Some.is in
    subst (λ (w : WriteFields). (bucket : BucketFields) × ReadsHeldBucket (view_of m) w.number bucket) (sym c.write.view_is) (earlier_reads m c.args.self.now c.in-Some.write owed c.requires.ready)

pub write_slot-requires-clause-at : goal.write_slot-requires-clause-at
write_slot-requires-clause-at c =
    let m : LocalState = local c.args.subtx.now c.args.pages.now in
    let owed = sym (ap (λ (p : PairFields). p.owed) c.self.view_is) ∙ c.in-Some.is in
    subst (λ (w : WriteFields). w.at < 8) (sym c.write.view_is) (earlier_within m c.args.self.now c.in-Some.write owed c.requires.ready)

pub unreachable-requires-in-Err : goal.unreachable-requires-in-Err
unreachable-requires-in-Err c =
    let m : LocalState = local c.args.subtx.now c.args.pages.now in
    let owed = sym (ap (λ (p : PairFields). p.owed) c.self.view_is) ∙ c.in-Some.is in
    earlier_not_third m c.args.self.now c.in-Some.write owed c.requires.ready c.requires.may c.in-Err.ensures.third.0

pub returns : goal.returns
returns c =
    let m : LocalState = local c.args.subtx.now c.args.pages.now in
    let new : LocalState = local c.write_slot.new.subtx c.write_slot.new.pages in
    let owed : c.args.self.now.owed ≡ Some c.in-Some.write = sym (ap (λ (p : PairFields). p.owed) c.self.view_is) ∙ c.in-Some.is in
    let view = subst (λ (w : WriteFields). WritesSlot (view_of m) (view_of new) w.number w.at w.slot) c.write.view_is c.in-Ok.ensures.view in
    let held = subst (λ (w : WriteFields). WritesHeldSlot m new w.number w.at w.slot) c.write.view_is c.in-Ok.ensures.writes in
    record {
      writes = λ write is. let both : Some c.in-Some.write ≡ Some write = sym owed ∙ is in let one : c.in-Some.write ≡ write = cc in subst (λ (w : WriteFields). WritesHeldSlot m new w.number w.at w.slot) one held;
      leaves = c.write_slot.ensures.leaves;
      makes = earlier_makes m c.args.self.now c.in-Some.write owed c.requires.ready (view_of new) view;
      holding = earlier_holds m c.args.self.now c.in-Some.write owed c.requires.ready (view_of new) view;
      pair = ap (λ (p : PairFields). record p { owed = None }) c.self.view_is;
    }
