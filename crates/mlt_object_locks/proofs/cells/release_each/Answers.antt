use Rattle.std.proofs.Common.{◌≡◌, ◌-◌, ◌+◌, ◌∷◌, [], drop, get_or, length, ap, sym, subst, ◌∙◌, arith}
use Rattle.std.proofs.lemmas.List.{drop_all, drop_more}
use Rattle.mlt_object_locks.proofs.Names.{ReleasesAt}
use Rattle.mlt_object_locks.proofs.Released.{none_released, release_sooner}
use Rattle.mlt_object_locks.proofs.cells.release_each.Goals as goal

pub loop-later-init : goal.loop-later-init
loop-later-init c =
    let keys = c.args.keys.now in
    let none : drop (length keys - 0) keys ≡ [] = drop_all (length keys - 0) keys (omega arith) in
    subst (λ ks. ReleasesAt c.args.cells.now c.args.cells.now ks c.args.tx) (sym none) (none_released c.args.cells.now c.args.tx c.requires)

pub loop-later-preserved : goal.loop-later-preserved
loop-later-preserved c =
    let keys = c.args.keys.now in
    let seen = c.loop-later.later in
    let at = length keys - 1 - seen in
    let test = c.loop-later-test.true in
    let next : drop (length keys - (seen + 1)) keys ≡ get_or keys at 0 ∷ drop (length keys - seen) keys =
    ap (λ n. drop n keys) (omega arith) ∙ drop_more keys at 0 (omega arith) ∙ ap (λ n. get_or keys at 0 ∷ drop n keys) (omega arith) in
    subst (λ ks. ReleasesAt c.args.cells.now c.release.new.cells ks c.args.tx) (sym next)
    (release_sooner c.args.cells.now c.loop-later.cells c.release.new.cells (drop (length keys - seen) keys) _ c.args.tx c.loop-later.invariant c.release.ensures.others c.release.ensures.released)

pub returns : goal.returns
returns c =
    let keys = c.args.keys.now in
    let end = c.loop-later-test.false in
    let none_left : length keys - c.loop-later.later ≡ 0 = omega arith in
    let all : drop (length keys - c.loop-later.later) keys ≡ keys = ap (λ n. drop n keys) none_left in
    subst (λ ks. ReleasesAt c.args.cells.now c.loop-later.cells ks c.args.tx) all c.loop-later.invariant
