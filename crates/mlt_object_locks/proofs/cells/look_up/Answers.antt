use Rattle.std.proofs.Common.{[], Some, ap, sym, ◌∙◌, unwrap_or}
use Rattle.mlt_object_locks.proofs.Found.{same_key}
use Rattle.mlt_object_locks.proofs.cells.look_up.Goals as goal

pub returns-in-Some-clause-found : goal.returns-in-Some-clause-found
returns-in-Some-clause-found c =
    let e = c.in-Some.ensures in
    let key = same_key c.args.cells.now.entries c.args.key _ (sym e.key) in
    let list = ap (λ o. unwrap_or o []) e.value in
    e.entry ∙ (λ j. Some (key j, list j))
