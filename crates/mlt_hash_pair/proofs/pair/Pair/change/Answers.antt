use Rattle.std.proofs.Common.{◌≡◌, ap, refl, subst, sym, ◌∙◌, eqb-true}
use Rattle.mlt_hash_pair.proofs.Names.{local, WritesAtMost, view_of, page_of, TellsOfTwo, task_in, task_of, PairFields, later_of, MayPlan, TellsOfOne}
use Rattle.mlt_hash_pair.proofs.Behind.{left_fits, left_writes, one_later, one_tells, right_fits, right_writes, stands_behind}
use Rattle.mlt_hash_pair.proofs.pair.Pair.change.Goals as goal

pub change_one_bucket-requires-clause-held : goal.change_one_bucket-requires-clause-held
change_one_bucket-requires-clause-held g c = left_writes g.file.bits g.file.root c.args.self.now (local c.args.subtx.now c.args.pages.now) c.requires.1.0 c.requires.1.1.0 c.bucket_page-left.result (c.bucket_page-left.ensures ∙ ap (λ (p : PairFields). page_of p.left_descent) c.self.view_is)

pub change_one_bucket-requires-clause-left_fits : goal.change_one_bucket-requires-clause-left_fits
change_one_bucket-requires-clause-left_fits g c = subst (λ key. MayPlan c.args.changes.now.left key c.bucket_page-left.result (view_of (local c.args.subtx.now c.args.pages.now))) (sym (ap (λ (p : PairFields). p.left) c.self.view_is)) (left_fits g.file.bits g.file.root c.args.self.now (local c.args.subtx.now c.args.pages.now) c.requires.1.0 c.requires.1.1.0 c.args.changes.now c.bucket_page-left.result (c.bucket_page-left.ensures ∙ ap (λ (p : PairFields). page_of p.left_descent) c.self.view_is) c.requires.1.1.1.1)

pub change_one_bucket-requires-clause-right_fits : goal.change_one_bucket-requires-clause-right_fits
change_one_bucket-requires-clause-right_fits g c =
    let same : c.bucket_page-left.result ≡ c.bucket_page-right.result = eqb-true c.bucket_page-left.result c.bucket_page-right.result (sym c.if-eq.ensures) in
    subst (λ key. MayPlan c.args.changes.now.right key c.bucket_page-left.result (view_of (local c.args.subtx.now c.args.pages.now))) (sym (ap (λ (p : PairFields). p.right) c.self.view_is)) (right_fits g.file.bits g.file.root c.args.self.now (local c.args.subtx.now c.args.pages.now) c.requires.1.0 c.requires.1.1.0 c.args.changes.now c.bucket_page-left.result (same ∙ (c.bucket_page-right.ensures ∙ ap (λ (p : PairFields). page_of p.right_descent) c.self.view_is)) c.requires.1.1.1.1)

pub change_two_buckets-requires-clause-left_held : goal.change_two_buckets-requires-clause-left_held
change_two_buckets-requires-clause-left_held g c = left_writes g.file.bits g.file.root c.args.self.now (local c.args.subtx.now c.args.pages.now) c.requires.1.0 c.requires.1.1.0 c.bucket_page-left.result (c.bucket_page-left.ensures ∙ ap (λ (p : PairFields). page_of p.left_descent) c.self.view_is)

pub change_two_buckets-requires-clause-right_held : goal.change_two_buckets-requires-clause-right_held
change_two_buckets-requires-clause-right_held g c = right_writes g.file.bits g.file.root c.args.self.now (local c.args.subtx.now c.args.pages.now) c.requires.1.0 c.requires.1.1.0 c.bucket_page-right.result (c.bucket_page-right.ensures ∙ ap (λ (p : PairFields). page_of p.right_descent) c.self.view_is)

pub change_two_buckets-requires-clause-left_fits : goal.change_two_buckets-requires-clause-left_fits
change_two_buckets-requires-clause-left_fits g c = left_fits g.file.bits g.file.root c.args.self.now (local c.args.subtx.now c.args.pages.now) c.requires.1.0 c.requires.1.1.0 c.args.changes.now c.bucket_page-left.result (c.bucket_page-left.ensures ∙ ap (λ (p : PairFields). page_of p.left_descent) c.self.view_is) c.requires.1.1.1.1

pub change_two_buckets-requires-clause-right_fits : goal.change_two_buckets-requires-clause-right_fits
change_two_buckets-requires-clause-right_fits g c = right_fits g.file.bits g.file.root c.args.self.now (local c.args.subtx.now c.args.pages.now) c.requires.1.0 c.requires.1.1.0 c.args.changes.now c.bucket_page-right.result (c.bucket_page-right.ensures ∙ ap (λ (p : PairFields). page_of p.right_descent) c.self.view_is) c.requires.1.1.1.1

pub returns-then-eq-clause-tells : goal.returns-then-eq-clause-tells
returns-then-eq-clause-tells g c =
    let same : c.bucket_page-left.result ≡ c.bucket_page-right.result = eqb-true c.bucket_page-left.result c.bucket_page-right.result (sym c.if-eq.ensures) in
    one_tells c.change_one_bucket.result c.args.active.now (local c.args.subtx.now c.args.pages.now) (local c.change_one_bucket.new.subtx c.change_one_bucket.new.pages) c.args.self.now c.args.self.now c.bucket_page-left.result (page_of c.args.self.now.left_descent) (page_of c.args.self.now.right_descent) c.args.changes.now (c.bucket_page-left.ensures ∙ ap (λ (p : PairFields). page_of p.left_descent) c.self.view_is) (same ∙ (c.bucket_page-right.ensures ∙ ap (λ (p : PairFields). page_of p.right_descent) c.self.view_is)) refl
    (subst (λ (p : PairFields). TellsOfOne (task_in c.args.active.now p.left p.right c.bucket_page-left.result c.args.changes.now) (local c.args.subtx.now c.args.pages.now) (local c.change_one_bucket.new.subtx c.change_one_bucket.new.pages) c.change_one_bucket.result) c.self.view_is c.change_one_bucket.ensures.tells)

pub returns-then-eq-clause-stands : goal.returns-then-eq-clause-stands
returns-then-eq-clause-stands g c =
    let same : c.bucket_page-left.result ≡ c.bucket_page-right.result = eqb-true c.bucket_page-left.result c.bucket_page-right.result (sym c.if-eq.ensures) in
    stands_behind g.file.bits g.file.root c.args.active.now (local c.args.subtx.now c.args.pages.now) (local c.change_one_bucket.new.subtx c.change_one_bucket.new.pages) c.args.self.now c.requires.1.0 c.requires.1.1.0
    (subst (WritesAtMost (local c.args.subtx.now c.args.pages.now) (local c.change_one_bucket.new.subtx c.change_one_bucket.new.pages)) (one_later (page_of c.args.self.now.left_descent) (page_of c.args.self.now.right_descent) c.bucket_page-left.result (c.bucket_page-left.ensures ∙ ap (λ (p : PairFields). page_of p.left_descent) c.self.view_is) (same ∙ (c.bucket_page-right.ensures ∙ ap (λ (p : PairFields). page_of p.right_descent) c.self.view_is))) c.change_one_bucket.ensures.writes)
    c.change_one_bucket.result c.args.self.now c.args.changes.now (returns-then-eq-clause-tells g c)

pub returns-else-eq-clause-stands : goal.returns-else-eq-clause-stands
returns-else-eq-clause-stands g c =
    stands_behind g.file.bits g.file.root c.args.active.now (local c.args.subtx.now c.args.pages.now) (local c.change_two_buckets.new.subtx c.change_two_buckets.new.pages) c.args.self.now c.requires.1.0 c.requires.1.1.0
    (subst (WritesAtMost (local c.args.subtx.now c.args.pages.now) (local c.change_two_buckets.new.subtx c.change_two_buckets.new.pages)) (λ i. later_of ((c.bucket_page-left.ensures ∙ ap (λ (p : PairFields). page_of p.left_descent) c.self.view_is) i) ((c.bucket_page-right.ensures ∙ ap (λ (p : PairFields). page_of p.right_descent) c.self.view_is) i)) c.change_two_buckets.ensures.writes)
    c.change_two_buckets.result c.change_two_buckets.new.pair c.args.changes.now
    (subst (λ q. TellsOfTwo (task_of c.args.active.now c.args.self.now q (page_of c.args.self.now.right_descent) c.args.changes.now) (local c.args.subtx.now c.args.pages.now) (local c.change_two_buckets.new.subtx c.change_two_buckets.new.pages) c.args.self.now c.change_two_buckets.new.pair c.change_two_buckets.result) (c.bucket_page-left.ensures ∙ ap (λ (p : PairFields). page_of p.left_descent) c.self.view_is)
    (subst (λ q. TellsOfTwo (task_of c.args.active.now c.args.self.now c.bucket_page-left.result q c.args.changes.now) (local c.args.subtx.now c.args.pages.now) (local c.change_two_buckets.new.subtx c.change_two_buckets.new.pages) c.args.self.now c.change_two_buckets.new.pair c.change_two_buckets.result) (c.bucket_page-right.ensures ∙ ap (λ (p : PairFields). page_of p.right_descent) c.self.view_is) c.change_two_buckets.ensures.tells))
