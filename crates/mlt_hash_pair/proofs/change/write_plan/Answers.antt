use Rattle.std.proofs.Common.{◌≡◌, inl, inr, refl, subst, sym, true}
use Rattle.mlt_hash_pair.proofs.Names.{BucketFields, can_write, LocalState, local, ReadsHeldBucket, view_of, leaves_it, WriteFields, MayWrite, WritesPlan, SlotPlan, first_write_is_not_third}
use Rattle.mlt_hash_pair.proofs.change.write_plan.Goals as goal

pub write_slot-requires-clause-held : goal.write_slot-requires-clause-held
write_slot-requires-clause-held c =
    let may = subst (λ this. MayWrite this (local c.args.subtx.now c.args.pages.now)) c.in-Set.is c.requires.ready in
    subst (λ (w : WriteFields). can_write c.args.pages.now.locks c.args.subtx.now.tx w.number ≡ true) (sym c.write.view_is) may.0

pub write_slot-requires-clause-bucket : goal.write_slot-requires-clause-bucket
write_slot-requires-clause-bucket c =
    let may = subst (λ this. MayWrite this (local c.args.subtx.now c.args.pages.now)) c.in-Set.is c.requires.ready in
    subst (λ (w : WriteFields). (bucket : BucketFields) × ReadsHeldBucket (view_of (local c.args.subtx.now c.args.pages.now)) w.number bucket) (sym c.write.view_is) may.1

pub unreachable-requires : goal.unreachable-requires
unreachable-requires c = first_write_is_not_third (local c.args.subtx.now c.args.pages.now) c.requires.may c.requires.unwritten c.in-Err.ensures.third.0

pub returns-in-Ok-clause-writes : goal.returns-in-Ok-clause-writes
returns-in-Ok-clause-writes c =
    let old : LocalState = local c.args.subtx.now c.args.pages.now in
    let new : LocalState = local c.write_slot.new.subtx c.write_slot.new.pages in
    subst (λ this. WritesPlan this old new) (sym c.in-Set.is)
    (subst (λ (w : WriteFields). WritesPlan (SlotPlan.Set w) old new) c.write.view_is (c.in-Ok.ensures.writes, c.in-Ok.ensures.view))

pub returns-in-Nothing : goal.returns-in-Nothing
returns-in-Nothing c =
    let m : LocalState = local c.args.subtx.now c.args.pages.now in
    record {
      writes = elim c.in-Nothing.is [
        | inl is ↦ subst (λ this. WritesPlan this m m) (sym is) refl
        | inr is ↦ subst (λ this. WritesPlan this m m) (sym is) refl
      ];
      leaves = leaves_it m m c.requires.may refl;
    }
