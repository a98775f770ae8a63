use Rattle.std.proofs.Common.{ℕ, ap, sym, subst, ◌∙◌}
use Rattle.mlt_object_locks.proofs.Names.{bit_of_item, Grants, HasBit, list_at}
use Rattle.mlt_object_locks.proofs.Found.{changes_there, same_some, written_list}
use Rattle.mlt_object_locks.proofs.cells.grant_at.Goals as goal

pub returns : goal.returns
returns c = record {
  others = changes_there c.args.cells.now c.args.key c.args.at c.requires.found c.pair_mut.ensures.unique _;
  grants =
      let cells = c.args.cells.now in
      let found = c.requires.found in
      let there = ap (λ e. e.1) (same_some (sym c.pair_mut.ensures.value ∙ found)) in
      let now = written_list cells c.args.key c.args.at found c.pair_mut.ensures.unique c.grant.new.self in
      subst (λ holders. Grants (list_at cells c.args.key) holders c.args.tx (bit_of_item c.args.done.now)) (sym now)
      (subst (λ holders. Grants holders c.grant.new.self c.args.tx (bit_of_item c.args.done.now)) there c.grant.ensures.grants);
  idle =
      λ idle.
      let there = ap (λ e. e.1) (same_some (sym c.pair_mut.ensures.value ∙ c.requires.found)) in
      subst (λ holders. (bit : ℕ) × HasBit holders c.args.tx bit) there (c.grant.ensures.idle idle);
}
