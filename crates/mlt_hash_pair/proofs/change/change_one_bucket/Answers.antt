use Rattle.std.proofs.Common.{◌≡◌, ℕ, Option, ap, refl, subst, sym, ◌∙◌, inl, inr, nat_cmp}
use Rattle.std.specs.FinSet as set
use Rattle.mlt_hash_pair.proofs.Names.{Page, BucketFields, LocalState, local, WritesPage, view_of, leaves_it, FitsSlots, IsPlanned, bucket_after, RecordChange, SlotPlan, first_write_is_not_third}
use Rattle.mlt_hash_pair.proofs.Makes.{fits_between, one_changed, one_full, one_reading}
use Rattle.mlt_hash_pair.proofs.change.change_one_bucket.Goals as goal

-- what is planned for the owner of this number is planned for its transaction
owned : (plan : SlotPlan) (asked : Option RecordChange) (active : set.FinSet nat_cmp) (owner tx key q : ℕ) (bucket : BucketFields) → owner ≡ tx → IsPlanned plan asked active owner key q bucket → IsPlanned plan asked active tx key q bucket
owned plan asked active owner tx key q bucket same planned = subst (λ tx. IsPlanned plan asked active tx key q bucket) same planned

pub returns-in-Full-clause-leaves : goal.returns-in-Full-clause-leaves
returns-in-Full-clause-leaves c = leaves_it (local c.args.subtx.now c.args.pages.now) (local c.args.subtx.now c.args.pages.now) c.requires.may refl

pub plan_in-right_plan-requires : goal.plan_in-right_plan-requires
plan_in-right_plan-requires c =
    let m : LocalState = local c.args.subtx.now c.args.pages.now in
    let fits = c.requires.right_fits in
    let same = one_reading (view_of m) c.args.number fits.0 c.read_held_bucket-bucket.result.now fits.1 c.read_held_bucket-bucket.ensures.reads in
    record {
      fits = subst (λ (b : BucketFields). FitsSlots c.args.changes.now.right c.args.right.now b.slots) (sym c.bucket_after-between.ensures)
          (fits_between c.plan_in-left_plan.result c.args.changes.now.left c.args.changes.now.right c.args.active.now c.args.subtx.now.tx c.args.left.now c.args.right.now c.args.number c.read_held_bucket-bucket.result.now c.requires.apart (owned c.plan_in-left_plan.result c.args.changes.now.left c.args.active.now c.tx-owner.result c.args.subtx.now.tx c.args.left.now c.args.number c.read_held_bucket-bucket.result.now c.tx-owner.ensures c.plan_in-left_plan.ensures.planned)
          (subst (λ (b : BucketFields). FitsSlots c.args.changes.now.right c.args.right.now b.slots) same fits.2));
    }

pub returns-in-Full-right_plan : goal.returns-in-Full-right_plan
returns-in-Full-right_plan c =
    let m : LocalState = local c.args.subtx.now c.args.pages.now in
    let full = subst (λ (b : BucketFields). IsPlanned SlotPlan.Full c.args.changes.now.right c.args.active.now c.args.subtx.now.tx c.args.right.now c.args.number b) c.bucket_after-between.ensures
    (owned SlotPlan.Full c.args.changes.now.right c.args.active.now c.tx-owner.result c.args.subtx.now.tx c.args.right.now c.args.number c.bucket_after-between.result c.tx-owner.ensures c.in-Full-right_plan.ensures.planned) in
    record {
      writes = inl refl;
      leaves = leaves_it m m c.requires.may refl;
      tells = one_full c.args.active.now m c.args.left.now c.args.right.now c.args.number c.args.changes.now c.read_held_bucket-bucket.result.now c.read_held_bucket-bucket.ensures.reads c.plan_in-left_plan.result c.in_default.not-Full (owned c.plan_in-left_plan.result c.args.changes.now.left c.args.active.now c.tx-owner.result c.args.subtx.now.tx c.args.left.now c.args.number c.read_held_bucket-bucket.result.now c.tx-owner.ensures c.plan_in-left_plan.ensures.planned) m refl full;
    }

pub unreachable-requires : goal.unreachable-requires
unreachable-requires c = first_write_is_not_third (local c.args.subtx.now c.args.pages.now) c.requires.may c.requires.unwritten c.in-Err.ensures.third.0

pub returns : goal.returns
returns c =
    let m : LocalState = local c.args.subtx.now c.args.pages.now in
    let new : LocalState = local c.write_held.new.subtx c.write_held.new.pages in
    let between = bucket_after c.read_held_bucket-bucket.result.now c.plan_in-left_plan.result in
    let planned = subst (λ (b : BucketFields). IsPlanned c.plan_in-right_plan.result c.args.changes.now.right c.args.active.now c.args.subtx.now.tx c.args.right.now c.args.number b) c.bucket_after-between.ensures
    (owned c.plan_in-right_plan.result c.args.changes.now.right c.args.active.now c.tx-owner.result c.args.subtx.now.tx c.args.right.now c.args.number c.bucket_after-between.result c.tx-owner.ensures c.plan_in-right_plan.ensures.planned) in
    let after : c.bucket_after-after.result ≡ bucket_after between c.plan_in-right_plan.result = c.bucket_after-after.ensures ∙ ap (λ b. bucket_after b c.plan_in-right_plan.result) c.bucket_after-between.ensures in
    record {
      writes = inr (Page.Bucket c.bucket_after-after.result, c.in-Ok.ensures.writes);
      leaves = c.write_held.ensures.leaves;
      tells = one_changed c.args.active.now m c.args.left.now c.args.right.now c.args.number c.args.changes.now c.read_held_bucket-bucket.result.now c.read_held_bucket-bucket.ensures.reads c.plan_in-left_plan.result c.in_default.not-Full (owned c.plan_in-left_plan.result c.args.changes.now.left c.args.active.now c.tx-owner.result c.args.subtx.now.tx c.args.left.now c.args.number c.read_held_bucket-bucket.result.now c.tx-owner.ensures c.plan_in-left_plan.ensures.planned) new c.plan_in-right_plan.result c.in_default-right_plan.not-Full planned c.requires.asked
          (subst (λ (b : BucketFields). WritesPage (view_of m) (view_of new) c.args.number (Page.Bucket b)) after c.in-Ok.ensures.view);
    }
