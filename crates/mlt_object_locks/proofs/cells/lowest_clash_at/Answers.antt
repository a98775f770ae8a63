use Rattle.std.proofs.Common.{[], None, ap, sym, subst, unwrap_or}
use Rattle.mlt_object_locks.proofs.Names.{IsLowestOf, StandsAgainst, list_at}
use Rattle.mlt_object_locks.proofs.{Found.list_there, Holding.nobody}
use Rattle.mlt_object_locks.proofs.cells.lowest_clash_at.Goals as goal

pub returns-in_err-at : goal.returns-in_err-at
returns-in_err-at c =
    let none = ap (λ o. unwrap_or o []) c.in_err-at.ensures.none in
    let empty = subst (λ holders. IsLowestOf (StandsAgainst holders c.args.tx c.args.done.now) None) (sym none) (nobody c.args.tx c.args.done.now) in
    subst (IsLowestOf (StandsAgainst (list_at c.args.cells.now c.args.key) c.args.tx c.args.done.now)) (sym c.from_residual.ensures) empty

pub returns : goal.returns
returns c =
    let there = list_there c.args.cells.now c.args.key _ c.in_ok-at.ensures.found _ c.index.ensures in
    subst (λ holders. IsLowestOf (StandsAgainst holders c.args.tx c.args.done.now) c.lowest_clash.result) there c.lowest_clash.ensures
