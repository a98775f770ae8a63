use Rattle.std.proofs.Common.{◌≡◌, ◌≤◌, ◌+◌, map, Some, sym, ◌∙◌, ap, arith}
use Rattle.mlt_hash_split.proofs.Names.{half, BucketFields, HeadFields, Page, local, view_of, view_over, rebased_makes_page, reads_over_writes, half_of, SplitTarget, held_page, seed_of}
use Rattle.mlt_hash_split.{specs.Rests.target_by, proofs.Beginning.begun, proofs.Beginning.deeper_fits, proofs.Beginning.few_at_rest, proofs.Beginning.halves_made}
use Rattle.mlt_hash_split.proofs.HeldPages.{clean_now, header_as_read, reads_as, reads_held, same_bucket, same_header}
use Rattle.mlt_hash_split.proofs.split.Split.begin.Goals as goal

pub read_held_head-header-requires-clause-head : goal.read_held_head-header-requires-clause-head
read_held_head-header-requires-clause-head g c =
    let m = local c.args.subtx.now c.args.pages.now in
    let begins = c.requires.1.1.1.1.1 in
    (begins.header, reads_held g.target.before m c.args.environment.now.root.now.page g.target.root (Page.Head begins.header) (sym (ap (λ (a : SplitTarget). a.root) c.requires.1.0)) c.requires.1.1.1.0 begins.rest.head_held begins.rest.head)

pub overflow_add-made : goal.overflow_add-made
overflow_add-made g c =
    let m = local c.args.subtx.now c.args.pages.now in
    let header : HeadFields = record { depth = c.header.inside.depth; dirs = c.header.inside.dirs } in
    let head : held_page (view_over g.target.before m) g.target.root ≡ Some (Page.Head header) =
    header_as_read g.target.before m c.args.environment.now.root.now.page g.target.root c.read_held_head-header.result.now (sym (ap (λ (a : SplitTarget). a.root) c.requires.1.0)) c.requires.1.1.1.0 c.read_held_head-header.ensures.reads
    ∙ ap (λ (h : HeadFields). Some (Page.Head h)) (sym c.header.view_is) in
    let small : c.header.inside.depth ≤ 16 = deeper_fits g.target (view_over g.target.before m) c.args.old header (clean_now g.target m c.requires.1.1.0 c.requires.1.1.1.1.0) c.requires.1.1.1.1.1 head in
    omega (arith, small)

pub make_page-requires-clause-few : goal.make_page-requires-clause-few
make_page-requires-clause-few g c =
    let m = local c.args.subtx.now c.args.pages.now in
    few_at_rest g.target m c.args.old _ _ (clean_now g.target m c.requires.1.1.0 c.requires.1.1.1.1.0) c.requires.1.1.1.1.1.rest

pub returns-clause-under_way : goal.returns-clause-under_way
returns-clause-under_way g c =
    let there : SplitTarget = target_by g.P.Pseudo.bits_of c.args.environment.now c.args.key c.args.subtx.now.tx g.target.room_depth g.target.before g.target.held_before in
    let header : HeadFields = record { depth = c.header.inside.depth; dirs = c.header.inside.dirs } in
    let bucket : BucketFields = record { depth = c.bucket.inside.depth; slots = c.bucket.inside.slots } in
    let m = local c.args.subtx.now c.args.pages.now in
    let v = view_over g.target.before m in
    let head : held_page v g.target.root ≡ Some (Page.Head header) =
    header_as_read g.target.before m c.args.environment.now.root.now.page g.target.root c.read_held_head-header.result.now (sym (ap (λ (a : SplitTarget). a.root) c.requires.1.0)) c.requires.1.1.1.0 c.read_held_head-header.ensures.reads
    ∙ ap (λ (h : HeadFields). Some (Page.Head h)) (sym c.header.view_is) in
    let found : held_page v c.args.old ≡ Some (Page.Bucket bucket) = reads_as v c.args.old (Some (Page.Bucket c.read_held_bucket-bucket.result.now)) (reads_over_writes g.target.before m c.requires.1.1.1.0 c.args.old (Page.Bucket c.read_held_bucket-bucket.result.now) c.read_held_bucket-bucket.ensures.reads) ∙ ap (λ (b : BucketFields). Some (Page.Bucket b)) (sym c.bucket.view_is) in
    begun g.target v _ c.args.old c.in_ok-new.new c.bits.result header bucket c.part-zeros.result.0 c.part-zeros.result.1 c.new.result c.requires.1.1.1.1.1 head found
    (c.bits.ensures ∙ sym (ap seed_of c.requires.1.0))
    (c.part-zeros.ensures.zeros ∙ ap (λ (b : BucketFields). record { depth = bucket.depth + 1; slots = map (half there.bits there.active bucket.depth 0) b.slots }) (sym c.bucket.view_is)
    ∙ sym (ap (λ (a : SplitTarget). half_of a.bits a.active bucket 0) c.requires.1.0))
    (c.part-zeros.ensures.ones ∙ ap (λ (b : BucketFields). record { depth = bucket.depth + 1; slots = map (half there.bits there.active bucket.depth 1) b.slots }) (sym c.bucket.view_is)
    ∙ sym (ap (λ (a : SplitTarget). half_of a.bits a.active bucket 1) c.requires.1.0))
    (rebased_makes_page g.target.before (view_of m) _ c.requires.1.1.1.0 c.in_ok-new.new _ c.in_ok-new.ensures.view)

pub returns-clause-halves : goal.returns-clause-halves
returns-clause-halves g c = λ seen at.
    let there : SplitTarget = target_by g.P.Pseudo.bits_of c.args.environment.now c.args.key c.args.subtx.now.tx g.target.room_depth g.target.before g.target.held_before in
    let bucket : BucketFields = record { depth = c.bucket.inside.depth; slots = c.bucket.inside.slots } in
    let m = local c.args.subtx.now c.args.pages.now in
    let found : held_page (view_over g.target.before m) c.args.old ≡ Some (Page.Bucket bucket) = reads_as (view_over g.target.before m) c.args.old (Some (Page.Bucket c.read_held_bucket-bucket.result.now)) (reads_over_writes g.target.before m c.requires.1.1.1.0 c.args.old (Page.Bucket c.read_held_bucket-bucket.result.now) c.read_held_bucket-bucket.ensures.reads) ∙ ap (λ (b : BucketFields). Some (Page.Bucket b)) (sym c.bucket.view_is) in
    halves_made g.target m _ c.args.old bucket seen c.part-zeros.result.1 _ found at
    (c.part-zeros.ensures.zeros ∙ ap (λ (b : BucketFields). record { depth = bucket.depth + 1; slots = map (half there.bits there.active bucket.depth 0) b.slots }) (sym c.bucket.view_is)
    ∙ sym (ap (λ (a : SplitTarget). half_of a.bits a.active bucket 0) c.requires.1.0))
    (c.part-zeros.ensures.ones ∙ ap (λ (b : BucketFields). record { depth = bucket.depth + 1; slots = map (half there.bits there.active bucket.depth 1) b.slots }) (sym c.bucket.view_is)
    ∙ sym (ap (λ (a : SplitTarget). half_of a.bits a.active bucket 1) c.requires.1.0))
    c.in_ok-new.ensures.makes

pub returns-clause-depths : goal.returns-clause-depths
returns-clause-depths g c = λ header bucket rest.
    let m = local c.args.subtx.now c.args.pages.now in
    let v = view_over g.target.before m in
    let read_header : HeadFields = record { depth = c.header.inside.depth; dirs = c.header.inside.dirs } in
    let read_bucket : BucketFields = record { depth = c.bucket.inside.depth; slots = c.bucket.inside.slots } in
    let head : held_page v g.target.root ≡ Some (Page.Head read_header) =
    header_as_read g.target.before m c.args.environment.now.root.now.page g.target.root c.read_held_head-header.result.now (sym (ap (λ (a : SplitTarget). a.root) c.requires.1.0)) c.requires.1.1.1.0 c.read_held_head-header.ensures.reads
    ∙ ap (λ (h : HeadFields). Some (Page.Head h)) (sym c.header.view_is) in
    let found : held_page v c.args.old ≡ Some (Page.Bucket read_bucket) = reads_as v c.args.old (Some (Page.Bucket c.read_held_bucket-bucket.result.now)) (reads_over_writes g.target.before m c.requires.1.1.1.0 c.args.old (Page.Bucket c.read_held_bucket-bucket.result.now) c.read_held_bucket-bucket.ensures.reads) ∙ ap (λ (b : BucketFields). Some (Page.Bucket b)) (sym c.bucket.view_is) in
    (ap (λ (b : BucketFields). b.depth) (same_bucket v c.args.old read_bucket bucket found rest.found), ap (λ (h : HeadFields). h.depth) (same_header v g.target.root read_header header head rest.head))
