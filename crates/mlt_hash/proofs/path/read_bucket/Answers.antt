use Rattle.std.proofs.Common.{◌≡◌, ◌+◌, Some, is_some, sym, ap, ◌∙◌, arith}
use Rattle.mlt_hash.proofs.Names.{BucketFields, Page, LocalState, local, ReadsPage, view_of, rebased_reads_page, reads_held_after, reads_seen, value_in, over, bucket_mode, IsPlaced, MayWalk, WalkFields, view_for, Phase}
use Rattle.mlt_hash.proofs.{Beside.few_before, Beside.few_beside, Paths.arrived, Paths.bucket_there, Readings.is_there, Readings.reads_clean, Standing.stands_at, path.read_bucket.Given.Over, path.read_bucket.Goals.Start}
use Rattle.mlt_hash.proofs.path.read_bucket.Goals as goal

abbrev before : (g : Over) → Start g → LocalState
before g c = local c.args.subtx.now c.args.pages.now

abbrev ready : (g : Over) (c : Start g) → MayWalk g.context (before g c) c.args.walk.now
ready g c = c.requires.1.1.1.1.1

stands : (g : Over) (c : Start g) → IsPlaced g.context c.args.walk.now (view_for g.context (before g c)) c.args.number c.args.depth
stands g c = stands_at g.context c.args.walk.now (view_for g.context (before g c)) (Phase.Placed c.args.number c.args.depth) c.requires.1.1.1.1.0 (ready g c).stands

pub lock-requires-clause-few : goal.lock-requires-clause-few
lock-requires-clause-few g c =
    let s = (goal.at.lock-requires-clause-few g c).Start in
    few_beside (view_for g.context (before g s)) (stands g s).header (g.context.before.buckets + 1) (omega (arith, few_before s.args.walk.now.pass g.context.before (stands g s).goes_after)) (omega (arith, ((stands g s).shallow), ((ready g s).small))) (stands g s).among

-- the bucket is there
bucket : (g : Over) (s : Start g) → (bucket : BucketFields) × (over (ready g s).file.clean g.context.before.written s.args.number ≡ Some (Page.Bucket bucket))
bucket g s = bucket_there g.context s.args.walk.now (before g s) (ready g s).file.clean ((ready g s).bounded s.args.walk.now.key) (ready g s).may (ready g s).file.is_clean (ready g s).file.form s.args.number s.args.depth (stands g s)

pub lock-requires-clause-there : goal.lock-requires-clause-there
lock-requires-clause-there g c =
    let s = (goal.at.lock-requires-clause-there g c).Start in
    is_there g.context.before.written (before g s) (ready g s).file.clean s.args.number s.args.number (ready g s).may (ready g s).written (ready g s).file.is_clean (λ _. s.args.number) (ap is_some (bucket g s).1)

pub read_held_bucket-bucket-requires-clause-bucket : goal.read_held_bucket-bucket-requires-clause-bucket
read_held_bucket-bucket-requires-clause-bucket g c =
    let s = (goal.at.read_held_bucket-bucket-requires-clause-bucket g c).Start in
    let after = local c.args.subtx.now c.lock.new.pages in
    let sees = c.in_default.ensures.view in
    let reads = rebased_reads_page g.context.before.written (view_of (before g s)) (view_of after) (ready g s).written c.args.number c.bucket_mode-mode.result sees.0 sees.1 in
    let read = reads_clean g.context.before.written (before g s) after c.args.number c.bucket_mode-mode.result sees.0 (ready g s).file.clean c.lock.ensures.leaves.may (c.lock.ensures.leaves.clean (ready g s).file.clean (ready g s).file.is_clean) (stands g s).unwritten reads in
    ((bucket g s).0, reads_held_after (view_of (before g s)) (view_of after) c.args.number c.bucket_mode-mode.result (Page.Bucket (bucket g s).0) sees (sym read ∙ (bucket g s).1))

pub returns-clause-tells : goal.returns-clause-tells
returns-clause-tells g c =
    let s = (goal.at.returns-clause-tells g c).Start in
    let after = local c.args.subtx.now c.lock.new.pages in
    let walk : WalkFields = c.args.walk.now in
    let key : c.walk.inside.key ≡ walk.key = ap (λ (w : WalkFields). w.key) c.walk.view_is in
    let mode : c.bucket_mode-mode.result ≡ bucket_mode walk.pass walk.mode = c.bucket_mode-mode.ensures ∙ (λ i. bucket_mode (c.walk.view_is i).pass (c.walk.view_is i).mode) in
    let bucket : BucketFields = c.read_held_bucket-bucket.result.now in
    let reads : ReadsPage (view_for g.context (before g s)) (view_for g.context after) c.args.number c.bucket_mode-mode.result (Some (Page.Bucket bucket)) =
    rebased_reads_page g.context.before.written (view_of (before g s)) (view_of after) (ready g s).written c.args.number c.bucket_mode-mode.result (Some (Page.Bucket bucket))
    (reads_seen (view_of (before g s)) (view_of after) c.args.number c.bucket_mode-mode.result (Page.Bucket bucket) c.in_default.ensures.view c.read_held_bucket-bucket.ensures.reads) in
    arrived g.context walk _ (before g s) after c.bucket_mode-mode.result c.args.number c.args.depth bucket c.value_in-found.result (stands g s) mode reads (c.value_in-found.ensures ∙ ap (λ k. value_in k bucket.slots) key) c.requires.1.1.1.1.0 (ap (λ (w : WalkFields). record w { phase = Phase.AtBucket c.args.number c.args.depth c.value_in-found.result }) c.walk.view_is)
