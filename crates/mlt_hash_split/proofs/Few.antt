-- How many pages a walk holds that splits
use Rattle.std.proofs.Common.{ℕ, ◌<◌, ◌≤◌, ◌+◌, ◌-◌, ◌^◌, List, Option, arith, nat_cmp}
use Rattle.std.specs.FinMap as map
use Rattle.std.specs.FinSet as set
use Rattle.mlt_hash_split.proofs.Names.{BucketFields, HeadFields, Page, over, View, SplitTarget, IsAtRest, most_held, HoldsAmongAt, IsUnderWay, SplitFields, StandsAt, SplitPhase}
use Rattle.mlt_hash_split.proofs.{Among.few_are_held, Among.most_is_small, Beginning.rest_is_shallow, Beginning.rest_is_small, Closing.HasClean, Later.half_pages, OldBucket.depths_are_small}

-- **A walk at rest holds fewer than 300 pages,**
pub rest_holds_few : (target : SplitTarget) (view : View) (n : ℕ) (header : HeadFields) (bucket : BucketFields) → HasClean target view → IsAtRest target view n header bucket → map.len view.modes < 300
rest_holds_few target view n header bucket w rest =
    let small = rest_is_small target view n header bucket rest w in
    let shallow = rest_is_shallow target view n header bucket rest w in
    let few = few_are_held view header.dirs header.dirs 0 (2 ^ (header.depth - 8)) 0 (most_held target.held_before bucket.depth header.depth) rest.among in
    omega (arith, few, most_is_small target.held_before bucket.depth header.depth rest.few_before (omega (arith, small, shallow)) small)

few_at : (phase : SplitPhase) (target : SplitTarget) (splitters : set.FinSet nat_cmp) (base pages : ℕ → Option Page) (split : SplitFields) (bucket : BucketFields) (view : View) (dirs : List ℕ) → split.depth < 16 → split.directory_depth ≤ 16 → target.held_before ≤ 17
    → StandsAt phase target splitters base pages split bucket → HoldsAmongAt phase target.held_before view dirs split → map.len view.modes < 300
few_at SplitPhase.OldBucket target splitters base pages split bucket view dirs deep small before stands among = let few = few_are_held view _ _ _ _ _ _ among in omega (arith, few, most_is_small target.held_before (split.depth + 1) split.directory_depth before (omega (arith, deep)) small)
few_at (SplitPhase.InPlace place end) target splitters base pages split bucket view dirs deep small before stands among = let few = few_are_held view _ _ _ _ _ _ among in omega (arith, few, most_is_small target.held_before (split.depth + 1) split.directory_depth before (omega (arith, deep)) small)
few_at (SplitPhase.Double place) target splitters base pages split bucket view dirs deep small before stands among = let few = few_are_held view _ _ _ _ _ _ among in omega (arith, few, deep, stands.more, before, half_pages split.directory_depth (omega (arith, deep, stands.deep)))
few_at (SplitPhase.SecondHalf place) target splitters base pages split bucket view dirs deep small before stands among = let few = few_are_held view _ _ _ _ _ _ among in omega (arith, few, deep, stands.more, before, half_pages split.directory_depth (omega (arith, deep, stands.deep)))
few_at SplitPhase.Header target splitters base pages split bucket view dirs deep small before stands among =
    let few = few_are_held view _ _ _ _ _ _ among in
    let same = stands.deep in
    let deeper = stands.deeper in
    let lower : split.made.depth ≤ 16 = omega (arith, deep, same, deeper) in
    omega (arith, few, most_is_small target.held_before (split.depth + 1) split.made.depth before (omega (arith, deep)) lower)

-- **and so does one with a split under way.**
pub split_holds_few : (target : SplitTarget) (view : View) (split : SplitFields) → HasClean target view → IsUnderWay target view split → map.len view.modes < 300
split_holds_few target view split w way =
    let begins = way.begins w.clean w.agrees w.form in
    let small = depths_are_small target (over w.clean way.rest) split way.bucket begins in
    let deep = begins.deep in
    let room = way.small in
    few_at split.phase target way.splitters (over w.clean way.rest) (over w.clean view.own) split way.bucket view way.header.dirs (omega (arith, deep, room)) small.1 way.few_before (way.stands w.clean w.agrees w.form) way.among
