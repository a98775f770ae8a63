use Rattle.std.proofs.Common.{◌≡◌, ◌∙◌, ◌*◌, ◌%◌, ◌^◌, ◌++◌, ℕ, List, Option, Some, ap, arith, subst, sym}
use Rattle.mlt_page.specs.Values.{BucketFields}
use Rattle.mlt_manager.specs.CleanBuckets.{IsBucketOfPseudokey}
use Rattle.mlt_work_desk.specs.declared.listing.ListedRecord.{ListedRecord}
use Rattle.mlt_work_desk.specs.Listings.{AddsRecords, place_behind, records_in}
use Rattle.mlt_work_desk.proofs.Listings.{adds_bucket}
use Rattle.mlt_work_desk.proofs.locked_state.LockedState.copy_bucket.Goals as goal

pub returns : goal.returns
returns g c =
    let bits_of = g.P.Pseudo.bits_of in
    let m = c.args.self.now.manager in
    let place = c.args.place in
    let before = c.args.records.now.items in
    let bucket = c.bucket_of-bucket.result.now in
    let from = c.from.ensures in
    let few = c.ranges.place.fits in
    let at : c.from.result * 2 ^ 32 % 2 ^ 64 ≡ place * 2 ^ 32 = omega (arith, from, few) in
    let is = subst (λ (x : ℕ). IsBucketOfPseudokey bits_of m x bucket) at c.bucket_of-bucket.ensures.bucket in
    let items : c.push_records.new.records.items ≡ before ++ records_in (bits_of m.root.pseudo) place bucket.slots =
    c.in_ok-push_records.ensures ∙ ap (λ (b : BucketFields). before ++ records_in (bits_of m.root.pseudo) place b.slots) c.bucket.view_is in
    let next : c.place_behind.result ≡ place_behind place bucket.depth = c.place_behind.ensures ∙ ap (λ (b : BucketFields). place_behind place b.depth) c.bucket.view_is in
    let adds = adds_bucket bits_of m (g.met.P.Pseudo.has_64_bits m.root.pseudo) place few bucket is before in
    subst (λ (n : Option ℕ). AddsRecords bits_of m (Some place) before c.push_records.new.records.items n) (sym next)
    (subst (λ (l : List ListedRecord). AddsRecords bits_of m (Some place) before l (place_behind place bucket.depth)) (sym items) adds)
