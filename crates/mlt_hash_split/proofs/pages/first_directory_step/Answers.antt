use Rattle.std.proofs.Common.{◌≤◌, ◌<◌, ◌+◌, ◌/◌, sym, subst, arith}
use Rattle.mlt_hash_split.proofs.Names.{IsFirstPhase, SplitFields, SplitPhase}
use Rattle.mlt_hash_split.proofs.OldBucket.{new_pages}
use Rattle.mlt_hash_split.proofs.pages.first_directory_step.Goals as goal

pub of-places-requires : goal.of-places-requires
of-places-requires c =
    let small = subst (λ (s : SplitFields). (s.depth ≤ s.directory_depth) × (s.directory_depth ≤ 16)) (sym c.split.view_is) c.requires in
    (omega (arith, small.0, c.if-split.false), small.1)

pub returns : goal.returns
returns c =
    let first = c.of-places.result.first in
    let small = subst (λ (s : SplitFields). (s.depth ≤ s.directory_depth) × (s.directory_depth ≤ 16)) (sym c.split.view_is) c.requires in
    let lt : c.split.inside.depth < c.split.inside.directory_depth = omega (arith, small.0, c.if-split.false) in
    subst (λ (s : SplitFields). IsFirstPhase s (SplitPhase.InPlace (first / 256) (first / 256 + c.max-pages.result))) c.split.view_is
    (lt, new_pages c.split.inside.seed c.split.inside.depth c.split.inside.directory_depth first c.of-places.result.count c.max-pages.result lt c.of-places.ensures.first c.of-places.ensures.count c.of-places.ensures.within (λ h. omega (arith, c.max-pages.ensures, h)) (λ h. omega (arith, c.max-pages.ensures, h)))
