use Rattle.std.proofs.Common.{◌∙◌, Some, ap}
use Rattle.mlt_object_base.proofs.Names.{with_entry}
use Rattle.mlt_object_base.proofs.Maps.{number_map_updated}
use Rattle.mlt_object_base.proofs.accounts.Accounts.put.Goals as goal

pub returns-clause-put : goal.returns-clause-put
returns-clause-put c =
    let a = c.args.account in
    let old = c.self.inside.balances in
    let after = Some c.args.balance in
    number_map_updated old.entries c.insert.new.self.entries a after c.in_ok-insert.ensures.updates.0 ∙ ap (λ m. with_entry m a after) c.self.view_is
