use Rattle.std.proofs.Common.{[], None, IfSome, nat_eq, ap, sym, subst, ◌∙◌, unwrap_or, filter}
use Rattle.mlt_object_locks.proofs.Names.{list_all, Updates, is_not_of, is_of, list_at}
use Rattle.mlt_object_locks.proofs.Found.{all_go, changes_there, list_there, same_some, some_stay, written, written_list}
use Rattle.mlt_object_locks.proofs.cells.release.Goals as goal

pub returns-else-is_alone-clause-others : goal.returns-else-is_alone-clause-others
returns-else-is_alone-clause-others c = changes_there c.args.cells.now c.args.key c.in-Some.at c.in-Some.ensures.found c.len.ensures.unique _

pub returns-else-is_alone-clause-released : goal.returns-else-is_alone-clause-released
returns-else-is_alone-clause-released c =
    let cells = c.args.cells.now in
    let found = c.in-Some.ensures.found in
    let there = list_there cells c.args.key c.in-Some.at found _ c.index_mut.ensures.value in
    written_list cells c.args.key c.in-Some.at found c.len.ensures.unique c.release.new.self ∙ c.release.ensures ∙ ap (filter (is_not_of c.args.tx)) there

pub returns-else-is_alone-clause-gone : goal.returns-else-is_alone-clause-gone
returns-else-is_alone-clause-gone c = λ none.
    let cells = c.args.cells.now in
    let found = c.in-Some.ensures.found in
    let tested = list_there cells c.args.key c.in-Some.at found _ c.index.ensures in
    let there = list_there cells c.args.key c.in-Some.at found _ c.index_mut.ensures.value in
    let some = ap (list_all (is_of c.args.tx)) (sym tested) ∙ sym c.is_alone.ensures ∙ c.if-is_alone.false in
    let left = same_some (sym (written cells c.args.key c.in-Some.at found c.len.ensures.unique c.release.new.self) ∙ none) in
    some_stay (list_at cells c.args.key) c.args.tx some (ap (filter (is_not_of c.args.tx)) (sym there) ∙ sym c.release.ensures ∙ left)

pub returns-then-is_alone-clause-released : goal.returns-then-is_alone-clause-released
returns-then-is_alone-clause-released c =
    let cells = c.args.cells.now in
    let found = c.in-Some.ensures.found in
    let tested = list_there cells c.args.key c.in-Some.at found _ c.index.ensures in
    let all = ap (list_all (is_of c.args.tx)) (sym tested) ∙ sym c.is_alone.ensures ∙ c.if-is_alone.true in
    let now = c.swap_remove_index.new.self in
    let e = c.swap_remove_index.ensures in
    let updates : Updates nat_eq cells now c.args.key None = subst (λ taken. IfSome taken (λ p. Updates nat_eq cells now p.0 None)) (e.entry ∙ found) e.updates in
    ap (λ o. unwrap_or o []) updates.1 ∙ sym (all_go (list_at cells c.args.key) c.args.tx all)
